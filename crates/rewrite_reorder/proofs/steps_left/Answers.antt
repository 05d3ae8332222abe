-- `rewrite_reorder::steps_left` meets its contract: the loop keeps that every step passed leaves the fields that s writes.
use mathlib.Core.Path.{◌∙◌, sym}
use Prim.Native.Nat.{ℕ}
use native.Mathlib.Omega.{arith}
use lib.ListN.{get_or}
use Rattle.base_lists.proofs.Tests.{all_more, all_stop}
use Rattle.sheet_step.specs.Step.{no_step}
use Rattle.rewrite_reorder.specs.Working.{step_leaves}
use Rattle.rewrite_reorder.proofs.steps_left.Goals as goal

pub returns-then-not-step_left : goal.returns-then-not-step_left
returns-then-not-step_left c = sym (all_stop _ _ _ _ c.loop-k-test.true (sym c.step_left.ensures ∙ c.if-not-step_left.true))

pub loop-k-preserved : goal.loop-k-preserved
loop-k-preserved c =
    let a = c.args in (
      omega arith,
      all_more (step_leaves a.s) c.loop-k.k (λ (j : ℕ). get_or a.o.steps j no_step) c.loop-k.invariant.1
          (sym c.step_left.ensures ∙ c.if-not-step_left.false),
    )
