-- `run_effect::apply` meets its contract, function by function. Assumes nothing.
use mathlib.Core.Path.{◌≡◌, ◌∙◌}
use Prim.Native.Nat.{ℕ}
use lib.IntN.{ℤ}
use borrow.Author.Tests.{not-true}
use Rattle.sheet_step.specs.declared.Func.TheVariants.{None, Keep, Add, Copy, Count, Stamp}
use Rattle.run_effect.specs.declared.Flow.{Flow}
use Rattle.run_effect.specs.Flow.{field_of, with_field, add_of, does}
use Rattle.run_effect.proofs.Back.{back}
use Rattle.run_effect.proofs.Lines.{step_of, step_of_dropped}
use borrow.Author.Rules.{rules}
use Rattle.run_effect.proofs.apply.Goals as goal

add_same : (x : Flow) (p : ℕ) (a b : ℤ) → a ≡ b → with_field x p (add_of (field_of x p) a) ≡ with_field x p (add_of (field_of x p) b)
add_same x p a b e = rw e

pub returns-then-not-x : goal.returns-then-not-x
returns-then-not-x c = step_of_dropped c.args.s c.args.x (not-true _ c.if-not-x.true)

pub returns-in-None : goal.returns-in-None
unfolding does
returns-in-None c =
    let a = c.args in
    step_of a.s a.x None _ (search rules) (search rules) (search rules)

pub returns-in-Keep : goal.returns-in-Keep
unfolding does
returns-in-Keep c =
    let a = c.args in
    step_of a.s a.x Keep _ (search rules) (search rules) (simp (back a.s.low (search rules), back a.s.high (search rules)) at c.keep.ensures)

pub returns-in-Add : goal.returns-in-Add
unfolding does
returns-in-Add c =
    let a = c.args in
    step_of a.s a.x Add _ (search rules) (search rules) (c.add.ensures ∙ add_same a.x a.s.p _ _ (back a.s.low (search rules)))

pub returns-in-Copy : goal.returns-in-Copy
unfolding does
returns-in-Copy c =
    let a = c.args in
    step_of a.s a.x Copy _ (search rules) (search rules) c.copy.ensures

pub returns-in-Count : goal.returns-in-Count
unfolding does
returns-in-Count c =
    let a = c.args in
    step_of a.s a.x Count _ (search rules) (search rules) c.count.ensures

pub returns-in-Stamp : goal.returns-in-Stamp
unfolding does
returns-in-Stamp c =
    let a = c.args in
    step_of a.s a.x Stamp _ (search rules) (search rules) c.stamp.ensures
