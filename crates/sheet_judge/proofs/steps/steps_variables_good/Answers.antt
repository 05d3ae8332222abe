-- `sheet_judge::steps::steps_variables_good` meets its contract: the loop keeps that every step passed has a good variable.
use mathlib.Core.Path.{refl, ◌∙◌, sym}
use Prim.Native.Nat.{ℕ}
use native.Mathlib.Omega.{arith}
use lib.ListN.{get_or}
use Rattle.base_lists.proofs.Tests.{all_more, all_stop}
use Rattle.sheet_step.specs.Step.{no_step, step_variable}
use Rattle.sheet_operator.proofs.InTurn.{all_end}
use Rattle.sheet_judge.proofs.steps.steps_variables_good.Goals as goal

pub loop-j-init : goal.loop-j-init
loop-j-init c = (omega arith, refl)

pub returns-then-not-variable_good : goal.returns-then-not-variable_good
returns-then-not-variable_good c = sym (all_stop _ _ _ _ c.loop-j-test.true (sym c.variable_good.ensures ∙ c.if-not-variable_good.true))

pub loop-j-preserved : goal.loop-j-preserved
loop-j-preserved c =
    let a = c.args in (
      omega arith,
      all_more (step_variable a.variables) c.loop-j.j (λ (k : ℕ). get_or a.ss k no_step) c.loop-j.invariant.1
          (sym c.variable_good.ensures ∙ c.if-not-variable_good.false),
    )

pub returns : goal.returns
returns c = all_end _ _ _ _ c.loop-j.invariant.0 c.loop-j-test.false c.loop-j.invariant.1
