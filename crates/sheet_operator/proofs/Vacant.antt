-- An operator of the empty kind is vacant where its count and its places are 0.
-- Assumes nothing.
use mathlib.Core.Path.{◌≡◌, refl, sym, ap, ◌∙◌}
use mathlib.Core.Bool.{Bool, true, false, ◌&&◌}
use Prim.Native.Nat.{ℕ, zero, suc}
use native.Mathlib.Omega.{arith}
use lib.Dec.{eqb, leb}
use borrow.Author.Tests.{le-leb, lt-leb, ne_eqb}
use Rattle.base_lists.proofs.Build.{never}
use Rattle.sheet_operator.specs.declared.Kind.{Kind}
use Rattle.sheet_operator.specs.declared.Kind.TheVariants.{Empty, Line, Latest, Double, Deal, Gather}
use Rattle.sheet_operator.specs.declared.Operator.{Operator}
use Rattle.sheet_operator.specs.Memory.{shape_of, zeros_from, blanks_from, tidy_as, tidy, is_empty, vacant}

-- a count from 0 to 0
count_zero : (n : ℕ) (r : Bool) → (leb 0 n && (leb n 0 && r)) ≡ (eqb n 0 && r)
count_zero zero r = refl
count_zero (suc n) r = simp (le-leb 0 (suc n) (omega arith), lt-leb (suc n) 0 (omega arith), ne_eqb (suc n) 0 (omega arith))

-- the tests in the order that the program makes them
abbrev zeros : Operator → Bool
zeros o =
    eqb o.count 0
    && (zeros_from 0 o.ins && (zeros_from 0 o.outs && (blanks_from 0 o.steps && (eqb o.variable 0 && eqb o.field 0))))

zeros_as : (k : Kind) (o : Operator) → is_empty k ≡ true → (is_empty k && tidy_as (shape_of k o.count) o) ≡ zeros o
unfolding tidy_as
zeros_as Empty o e = count_zero o.count _
zeros_as Line o e = never e
zeros_as Latest o e = never e
zeros_as Double o e = never e
zeros_as Deal o e = never e
zeros_as Gather o e = never e

pub zeros_vacant : (o : Operator) → is_empty o.kind ≡ true → zeros o ≡ vacant o
unfolding vacant
zeros_vacant o e = sym (zeros_as o.kind o e)

-- the same with the kind's test before them
vacant_as : (b : Bool) (z v : Bool) → (b ≡ true → z ≡ v) → (b ≡ false → false ≡ v) → (b && z) ≡ v
vacant_as true z v h n = h refl
vacant_as false z v h n = n refl

not_vacant : (k : Kind) (o : Operator) → o.kind ≡ k → is_empty k ≡ false → false ≡ vacant o
unfolding vacant
not_vacant k o e n = ap (λ (b : Bool). b && tidy o) (sym (ap is_empty e ∙ n))

pub vacant_by_places : (o : Operator) → vacant o ≡ (is_empty o.kind && zeros o)
vacant_by_places o = sym (vacant_as (is_empty o.kind) (zeros o) (vacant o) (zeros_vacant o) (not_vacant o.kind o refl))
