-- `sheet_sets::steps::steps_apart` meets its contract: the loop keeps that the steps passed name no variable of the set.
use mathlib.Core.Path.{refl, ◌∙◌, sym}
use mathlib.Core.Bool.{Bool, not}
use mathlib.Core.List.{List}
use Prim.Native.Nat.{ℕ}
use native.Mathlib.Omega.{arith}
use lib.ListN.{get_or}
use Rattle.base_lists.specs.Lists.{all, has}
use Rattle.base_lists.proofs.Tests.{all_more, all_stop}
use Rattle.sheet_step.specs.Step.{no_step, step_names}
use Rattle.sheet_step.specs.declared.Step.{Step}
use Rattle.sheet_operator.proofs.InTurn.{all_end}
use Rattle.sheet_sets.proofs.steps.steps_apart.Goals as goal

abbrev apart : List Bool → Step → Bool
apart s t = all (λ (v : ℕ). not (has s v)) (step_names t)

pub loop-j-init : goal.loop-j-init
loop-j-init c = (omega arith, refl)

pub returns-then-not-step_apart : goal.returns-then-not-step_apart
returns-then-not-step_apart c =
    sym (all_stop (apart c.args.s) _ _ _ c.loop-j-test.true
    (sym c.step_apart.ensures ∙ c.if-not-step_apart.true))

pub loop-j-preserved : goal.loop-j-preserved
loop-j-preserved c =
    let a = c.args in (
      omega arith,
      all_more (apart a.s) c.loop-j.j (λ (k : ℕ). get_or a.ss k no_step) c.loop-j.invariant.1
          (sym c.step_apart.ensures ∙ c.if-not-step_apart.false),
    )

pub returns : goal.returns
returns c = all_end (apart c.args.s) _ _ _ c.loop-j.invariant.0 c.loop-j-test.false c.loop-j.invariant.1
