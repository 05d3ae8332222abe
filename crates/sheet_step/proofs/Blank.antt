-- The step that stands in a place that is not used: exactly the one that `blank` passes.
use mathlib.Core.Path.{◌≡◌, refl}
use mathlib.Core.Bool.{true, false≢true, and-eq-true_iff}
use Prim.Native.Nat.{ℕ}
use lib.Dec.{eqb}
use lib.IntN.{ℤ}
use borrow.Author.Tests.{eqb-true}
use Rattle.base_number.proofs.Zero.{zero_of_test}
use Rattle.sheet_step.specs.Step.{code_of, blank, no_step}
use Rattle.sheet_step.specs.declared.Func.{Func}
use Rattle.sheet_step.specs.declared.Func.TheVariants.{None, Keep, Add, Copy, Count, Stamp}
use Rattle.sheet_step.specs.declared.Step.{Step}

pub blank_no_step : blank no_step ≡ true
unfolding blank
blank_no_step = refl

pub code_zero : (f : Func) → eqb (code_of f) 0 ≡ true → f ≡ None
code_zero None e = refl
code_zero Keep e = absurd (false≢true e)
code_zero Add e = absurd (false≢true e)
code_zero Copy e = absurd (false≢true e)
code_zero Count e = absurd (false≢true e)
code_zero Stamp e = absurd (false≢true e)

abbrev step : Func → ℕ → ℕ → ℕ → ℤ → ℤ → Step
step f v p r l h = record { func = f; variable = v; p = p; r = r; low = l; high = h }

step_eq : {f f' : Func} {v v' p p' r r' : ℕ} {l l' h h' : ℤ} → f ≡ f' → v ≡ v' → p ≡ p' → r ≡ r' → l ≡ l' → h ≡ h' → step f v p r l h ≡ step f' v' p' r' l' h'
step_eq a b c d e g = cc

pub blank_is : (t : Step) → blank t ≡ true → t ≡ no_step
unfolding blank
blank_is t e =
    let t1 = (and-eq-true_iff _ _).0 e in
    let t2 = (and-eq-true_iff _ _).0 t1.1 in
    let t3 = (and-eq-true_iff _ _).0 t2.1 in
    let t4 = (and-eq-true_iff _ _).0 t3.1 in
    let t5 = (and-eq-true_iff _ _).0 t4.1 in
    step_eq (code_zero t.func t1.0) (eqb-true t.variable 0 t2.0) (eqb-true t.p 0 t3.0) (eqb-true t.r 0 t4.0)
    (zero_of_test t.low t5.0) (zero_of_test t.high t5.1)
