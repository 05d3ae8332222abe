-- What a split answers, return by return, from what the code tested of the sheet in memory.
-- Assumes nothing.
use mathlib.Core.Path.{◌≡◌, ap, ◌∙◌}
use mathlib.Core.Bool.{Bool, true, false, cond, ◌&&◌}
use Prim.Native.Nat.{ℕ, ◌+◌, ◌*◌, ◌<◌, ◌≤◌}
use lib.Dec.{ltb, leb}
use lib.ListN.{length}
use borrow.Author.Tests.{ltb-true, leb-true}
use Rattle.base_lists.specs.Lists.{all}
use Rattle.base_lists.proofs.Tests.{both}
use Rattle.sheet_step.specs.declared.Step.{Step}
use Rattle.sheet_operator.specs.Op.{Op, Abstract}
use Rattle.sheet_operator.specs.Memory.{PLACES, steps_in, view}
use Rattle.sheet_operator.proofs.ViewLaws.{ready_of_number}
use Rattle.base_bounds.specs.Bounds.{OPERATORS, VARIABLES, QUEUES}
use Rattle.sheet.specs.declared.Sheet.{Sheet}
use Rattle.sheet.specs.Answer.{accepted}
use Rattle.sheet.specs.Sheet.{op_at, view_sheet}
use Rattle.sheet.specs.Check.{check_of}
use Rattle.sheet.proofs.Accepted.{accepted_facts}
use Rattle.sheet.proofs.Placed.{ops_many, ops_at}
use Rattle.rewrite_rules.specs.Rewrite.{Remade, refuse, rewritten, is_line, steps_of, at, parted, touches_none, writes_some, split}
use Rattle.rewrite_split.specs.Working.{LineIn, Splits}
use Rattle.rewrite_rules.proofs.Lines.{line_view}

-- the four tests in their order
abbrev decide : Bool → Bool → Bool → Bool → Abstract → Remade
decide a b c d x = cond a (cond b (cond c (cond d (rewritten x) (refuse 17)) (refuse 16)) (refuse 15)) (refuse 14)

abbrev ranged : ℕ → ℕ → ℕ → Bool
ranged n i k = ltb i n && (leb 2 k && leb k PLACES)

abbrev roomy : ℕ → ℕ → ℕ → ℕ → Bool
roomy q v n k = leb (q + 2 * k) QUEUES && (leb (v + 2) VARIABLES && leb (n + k + 1) OPERATORS)

abbrev free : Step → Bool
free t = touches_none t && writes_some t

split_many : (a : Abstract) (i k n : ℕ) → length a.ops ≡ n →
    split a i k ≡ decide (ranged n i k) (is_line (at a i)) (roomy a.queues a.variables n k) (all free (steps_of (at a i))) (parted a i k)
unfolding split
split_many a i k n e =
    ap (λ (m : ℕ). decide (ranged m i k) (is_line (at a i)) (roomy a.queues a.variables m k) (all free (steps_of (at a i))) (parted a i k)) e

module _ (t : Sheet) (i k : ℕ) where
  abbrev asked : Remade
  asked = split (view_sheet t) i k

  -- what the code tests, and what it makes
  abbrev reached : Bool
  reached = ranged t.count i k

  abbrev lined : Bool
  lined = is_line (view (op_at t i))

  abbrev fitting : Bool
  fitting = roomy t.queues t.variables t.count k

  abbrev allowed : Bool
  allowed = all free (steps_in (op_at t i).count (op_at t i).steps)

  abbrev new : Abstract
  new = parted (view_sheet t) i k

  abbrev by : Bool → Op → Remade
  by b o = decide b (is_line o) fitting (all free (steps_of o)) new

  split_by : asked ≡ by reached (at (view_sheet t) i)
  split_by = split_many (view_sheet t) i k t.count (ops_many t)

  pub refuses_14 : reached ≡ false → asked ≡ refuse 14
  refuses_14 h = split_by ∙ ap (λ (b : Bool). by b (at (view_sheet t) i)) h

  -- the operator is there, and the ways are few
  pub in_range : reached ≡ true → (i < t.count) × (k ≤ PLACES)
  in_range h =
      let p = both (ltb i t.count) (leb 2 k && leb k PLACES) h in
      (ltb-true i t.count p.0, leb-true k PLACES (both (leb 2 k) (leb k PLACES) p.1).1)

  module _ (r : reached ≡ true) where
    split_at : asked ≡ by true (view (op_at t i))
    split_at = split_by ∙ ap (by reached) (ops_at t i (in_range r).0) ∙ ap (λ (b : Bool). by b (view (op_at t i))) r

    pub refuses_15 : lined ≡ false → asked ≡ refuse 15
    refuses_15 h = split_at ∙ ap (λ (b : Bool). decide true b fitting (all free (steps_of (view (op_at t i)))) new) h

    module _ (good : check_of t ≡ accepted) (l : lined ≡ true) where
      line_in : LineIn (op_at t i)
      line_in = record { number = (accepted_facts t good).shaped i (in_range r).0; line = l }

      pub steps_few : (op_at t i).count ≤ PLACES
      steps_few = (ready_of_number (op_at t i) line_in.number).small

      split_line : asked ≡ decide true true fitting allowed new
      split_line = split_at ∙ ap (by true) (line_view (op_at t i) l)

      pub refuses_16 : fitting ≡ false → asked ≡ refuse 16
      refuses_16 h = split_line ∙ ap (λ (b : Bool). decide true true b allowed new) h

      module _ (room : fitting ≡ true) where
        split_free : asked ≡ decide true true true allowed new
        split_free = split_line ∙ ap (λ (b : Bool). decide true true b allowed new) room

        pub refuses_17 : allowed ≡ false → asked ≡ refuse 17
        refuses_17 h = split_free ∙ ap (λ (b : Bool). decide true true true b new) h

        pub splits_done : allowed ≡ true → asked ≡ rewritten new
        splits_done h = split_free ∙ ap (λ (b : Bool). decide true true true b new) h

        pub splits_of : Splits t i k
        splits_of =
            let p = both (leb (t.queues + 2 * k) QUEUES) (leb (t.variables + 2) VARIABLES && leb (t.count + k + 1) OPERATORS) room in
            let v = both (leb (t.variables + 2) VARIABLES) (leb (t.count + k + 1) OPERATORS) p.1 in
            record {
              sheet = good;
              below = (in_range r).0;
              line = l;
              room = record { ways = (in_range r).1; queues = leb-true _ _ p.0; variables = leb-true _ _ v.0 };
              count = leb-true _ _ v.1;
            }
