-- `rewrite_reorder::leaves` meets its contract: the loop keeps that no step of p touches a field that the steps of o passed write.
use mathlib.Core.Path.{◌∙◌, sym}
use Prim.Native.Nat.{ℕ}
use lib.ListN.{get_or}
use Rattle.base_lists.proofs.Tests.{all_stop}
use Rattle.sheet_step.specs.Step.{no_step}
use Rattle.sheet_operator.specs.Memory.{steps_in}
use Rattle.sheet_operator.proofs.InTurn.{all_end}
use Rattle.rewrite_reorder.proofs.Fields.{leaves_each}
use Rattle.rewrite_reorder.proofs.leaves.Invariants.{leaving}
use Rattle.rewrite_reorder.proofs.leaves.Goals as goal

pub returns-then-not-steps_left : goal.returns-then-not-steps_left
returns-then-not-steps_left c =
    let a = c.args in
    sym
    (leaves_each (steps_in a.o.count a.o.steps) (steps_in a.p.count a.p.steps)
    ∙ all_stop (leaving a.p) _ _ (λ (j : ℕ). get_or a.o.steps j no_step) c.loop-k-test.true
    (sym c.steps_left.ensures ∙ c.if-not-steps_left.true))

pub returns : goal.returns
returns c =
    let a = c.args in
    all_end (leaving a.p) _ _ (λ (j : ℕ). get_or a.o.steps j no_step) c.loop-k.invariant.0 c.loop-k-test.false c.loop-k.invariant.1
    ∙ sym (leaves_each (steps_in a.o.count a.o.steps) (steps_in a.p.count a.p.steps))
