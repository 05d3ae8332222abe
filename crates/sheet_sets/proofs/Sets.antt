-- Sets kept as flags, and the numbers of an operator.
-- Assumes nothing.
use mathlib.Core.Path.{◌≡◌, ◌∙◌, sym, fun_ext}
use mathlib.Core.Bool.{Bool, true, not, ◌||◌, and-true, or-false}
use mathlib.Core.List.{List, [], ◌∷◌}
use Prim.Native.Nat.{ℕ, ◌<◌}
use lib.Dec.{ltb}
use lib.ListN.{length, set}
use borrow.Author.Tests.{ltb-true}
use Rattle.base_lists.specs.Lists.{all, member, has}
use Rattle.base_lists.proofs.Tests.{both}
use Rattle.base_lists.proofs.Flags.{has_set}
use Rattle.sheet_operator.specs.declared.Kind.{Kind}
use Rattle.sheet_operator.specs.declared.Operator.{Operator}
use Rattle.sheet_operator.specs.Op.{Op, names}
use Rattle.sheet_operator.specs.Memory.{view_as, view}
use Rattle.sheet_operator.proofs.ViewLaws.{by_kind}
use Rattle.sheet_sets.specs.Sets.{FLAGS}

-- a set without the one number
pub one_apart : (s : List Bool) (v : ℕ) (r : Bool) → r ≡ has s v → not r ≡ all (λ (k : ℕ). not (has s k)) (v ∷ [])
one_apart s v r h = rw h (sym (and-true (not (has s v))))

-- one number more, which has a flag
pub has_flagged : (s : List Bool) (v : ℕ) (r : List Bool) → length s ≡ FLAGS → all (λ (k : ℕ). ltb k FLAGS) (v ∷ []) ≡ true → r ≡ set s v true →
    has r ≡ (λ (k : ℕ). member k (v ∷ []) || has s k)
has_flagged s v r l b e =
    let small : v < length s = rw l (ltb-true v FLAGS (both (ltb v FLAGS) true b).0) in
    rw e (has_set s v small ∙ fun_ext (λ (k : ℕ). rw or-false))

-- what a set has with the numbers of a kind's operator
pub set_by : (f : Op → List ℕ) (o : Operator) (k : Kind) (s r : List Bool) → o.kind ≡ k →
    has r ≡ (λ (j : ℕ). member j (f (view_as k o)) || has s j) → has r ≡ (λ (j : ℕ). member j (f (view o)) || has s j)
set_by f o k s r e h = h ∙ by_kind (λ (x : Op) (j : ℕ). member j (f x) || has s j) o k e

-- the variables of an operator have flags
abbrev pub names_flagged : Op → Bool
names_flagged x = all (λ (v : ℕ). ltb v FLAGS) (names x)
