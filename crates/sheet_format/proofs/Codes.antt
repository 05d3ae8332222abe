-- The kinds and their numbers, both ways: Empty stands for every number that is no operator's.
-- Assumes nothing.
use mathlib.Core.Path.{◌≡◌, refl, sym}
use mathlib.Core.Bool.{Bool, true, false, cond}
use Prim.Native.Nat.{ℕ, ◌<◌}
use native.Mathlib.Omega.{arith}
use lib.Dec.{eqb}
use borrow.Author.Tests.{eqb-true}
use Rattle.base_lists.proofs.Build.{never'}
use Rattle.sheet_operator.specs.Memory.{is_empty, view, view_as}
use Rattle.sheet_operator.specs.declared.Kind.{Kind}
use Rattle.sheet_operator.specs.declared.Kind.TheVariants.{Empty, Line, Latest, Double, Deal, Gather}
use Rattle.sheet_operator.specs.declared.Operator.{Operator}
use Rattle.sheet_format.specs.Record.{kind_of, kind_code, kind_in}

pub kind_of_code : (k : Kind) → is_empty k ≡ false → kind_of (kind_code k) ≡ k
unfolding kind_of
kind_of_code Empty h = never' h
kind_of_code Line h = refl
kind_of_code Latest h = refl
kind_of_code Double h = refl
kind_of_code Deal h = refl
kind_of_code Gather h = refl

-- the tests one by one, by their results
by_tests : (n : ℕ) (a b c d e : Bool) → eqb n 2 ≡ a → eqb n 3 ≡ b → eqb n 4 ≡ c → eqb n 5 ≡ d → eqb n 6 ≡ e →
    is_empty (cond a Line (cond b Latest (cond c Double (cond d Deal (cond e Gather Empty))))) ≡ false →
    kind_code (cond a Line (cond b Latest (cond c Double (cond d Deal (cond e Gather Empty))))) ≡ n
by_tests n true b c d e p q r s t h = sym (eqb-true n 2 p)
by_tests n false true c d e p q r s t h = sym (eqb-true n 3 q)
by_tests n false false true d e p q r s t h = sym (eqb-true n 4 r)
by_tests n false false false true e p q r s t h = sym (eqb-true n 5 s)
by_tests n false false false false true p q r s t h = sym (eqb-true n 6 t)
by_tests n false false false false false p q r s t h = never' h

pub code_of_kind : (n : ℕ) → is_empty (kind_of n) ≡ false → kind_code (kind_of n) ≡ n
unfolding kind_of
code_of_kind n h = by_tests n (eqb n 2) (eqb n 3) (eqb n 4) (eqb n 5) (eqb n 6) refl refl refl refl refl h

pub code_below : (k : Kind) → kind_code k < 65536
code_below Empty = omega arith
code_below Line = omega arith
code_below Latest = omega arith
code_below Double = omega arith
code_below Deal = omega arith
code_below Gather = omega arith

-- the kind of what an operator's places stand for is the kind that they name
kind_in_as : (k : Kind) (o : Operator) → is_empty k ≡ false → kind_in (view_as k o) ≡ k
kind_in_as Empty o h = never' h
kind_in_as Line o h = refl
kind_in_as Latest o h = refl
kind_in_as Double o h = refl
kind_in_as Deal o h = refl
kind_in_as Gather o h = refl

pub kind_in_view : (o : Operator) → is_empty o.kind ≡ false → kind_in (view o) ≡ o.kind
kind_in_view o h = kind_in_as o.kind o h
