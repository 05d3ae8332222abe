-- `run_store::take_part` meets its contract: the numbers from the second item on are copied over the front, and then the last item's places are cleared.
use mathlib.Core.Path.{◌≡◌, sym, ap, ap₂, ◌∙◌}
use mathlib.Core.List.{List, [], ◌++◌, append-nil}
use Prim.Native.Nat.{ℕ, ◌+◌, ◌-◌, ◌<◌}
use native.Mathlib.Omega.{arith}
use borrow.Author.Rules.{rules}
use borrow.Rule.Slice.PartMut.{put_mid}
use lib.ListN.{length, take, drop, get_or, set, replicate, length-set, length-drop, drop_of_length-le}
use lib.Seq.{paste, take-paste, take_all, get_or-append-add, get_or-drop, length-take-le}
use lib.IntN.{ℤ, pos}
use Rattle.run_store.specs.Store.{PART, without_oldest}
use Rattle.base_bounds.specs.Bounds.{FIELDS}
use Rattle.run_store.proofs.take_part.Goals as goal

-- where the last item stands
abbrev LAST : ℕ
LAST = PART - FIELDS

module _ (p : List ℤ) (len : length p ≡ PART) where
  rest : length (drop FIELDS p) ≡ LAST
  rest = length-drop FIELDS p ∙ omega arith

  -- all moved, and then the last item cleared
  moved_all : (l y : List ℤ) → l ≡ paste p 0 (drop FIELDS p) LAST → length l ≡ PART → y ≡ replicate (length (take (PART - LAST) (drop LAST l))) (pos 0) →
      put_mid LAST (PART - LAST) l y ≡ without_oldest p
  unfolding without_oldest
  moved_all l y e h f =
      let n : length (take (PART - LAST) (drop LAST l)) ≡ FIELDS = length-take-le (PART - LAST) (drop LAST l) (omega (arith, length-drop LAST l)) in
      let none : drop (PART - LAST) (drop LAST l) ≡ [] = drop_of_length-le (drop LAST l) {i = PART - LAST} (omega (arith, length-drop LAST l)) in
      let front : take LAST l ≡ drop FIELDS p =
      ap (take LAST) e ∙ take-paste p 0 (drop FIELDS p) LAST (omega arith) (omega (arith, rest)) ∙ take_all LAST (drop FIELDS p) (omega (arith, rest)) in
      ap₂ (λ (a b : List ℤ). a ++ (y ++ b)) front none
      ∙ ap (λ (b : List ℤ). drop FIELDS p ++ b) (append-nil y ∙ f ∙ ap (λ (k : ℕ). replicate k (pos 0)) n)

pub returns : goal.returns
returns c =
    let w = c.copy_within in
    moved_all c.args.part.now c.requires w.new.self c.fill.new.self w.ensures.after (w.ensures.len ∙ c.requires) (c.fill.ensures.after (λ y h. h))
