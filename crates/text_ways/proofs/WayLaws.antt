-- The ways of a deal or a gather, turn by turn, and what comes after them.
-- Assumes nothing.
use Prim.Native.Nat.{ℕ, suc, ◌+◌, ◌<◌}
use mathlib.Core.Path.{◌≡◌, ap, ◌∙◌, sym}
use mathlib.Core.List.{List}
use native.Mathlib.Omega.{arith}
use borrow.Author.Rules.{rules}
use lib.ListN.{set}
use Rattle.base_words.specs.Text.{word}
use Rattle.sheet_operator.specs.Memory.{PLACES}
use Rattle.text_scan.specs.Reader.{Res, got, Reader, bind, sign}
use Rattle.text_scan.proofs.Filled.{filled_more, front_more}
use Rattle.text_grammar.specs.Readers.{decimal, ways, snoc}
use Rattle.text_grammar.proofs.Kept.{ways_then}
use Rattle.text_ways.specs.declared.HeldWays.{HeldWays}
use Rattle.text_ways.specs.Found.{queues_of, FilledWays}

-- one way more, stored in the next place
module _ (w : HeldWays) (q k : ℕ) (e : w.count ≡ k) (l : w.count < PLACES) (f : FilledWays w) where
  abbrev pub with_way : HeldWays
  with_way = record { count = w.count + 1; queues = set w.queues k q }

  pub ways_more : queues_of with_way ≡ snoc (queues_of w) q
  ways_more = rw (← e) (front_more PLACES 0 w.queues w.count q l f.places)

  pub still_filled : FilledWays with_way
  still_filled =
      record {
        small = omega arith;
        places = rw (ways_more, ← e) (filled_more PLACES 0 w.queues w.count q l f.places);
      }

pub ways_go : (k : ℕ) (qs : List ℕ) (q m : ℕ) (r s t u : List ℕ) → got 113 s ≡ sign (word "q$") r → got q t ≡ decimal 23 s →
    got m u ≡ sign (word ",") t → ways k (snoc qs q) got u ≡ ways (suc k) qs got r
ways_go k qs q m r s t u b d e = search rules

-- the ways, and then what comes after them
pub ways_found : {B : Type 0} (k : ℕ) (qs : List ℕ) (K : List ℕ → Reader B) (s w r : List ℕ) → got w r ≡ ways k qs got s → ways k qs K s ≡ K w r
ways_found k qs K s w r e = ways_then K k qs s ∙ ap (λ (x : Res (List ℕ)). bind x K) (sym e)
