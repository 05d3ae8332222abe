-- `sheet_sets::steps::steps_apart` meets its contract: the loop keeps that the steps passed name no variable of the set.
use mathlib.Core.Path.{◌≡◌}
use mathlib.Core.Bool.{true, not}
use Prim.Native.Nat.{ℕ, ◌≤◌}
use Rattle.base_lists.specs.Lists.{all, has}
use Rattle.sheet_step.specs.Step.{step_names}
use Rattle.sheet_step.specs.declared.Step.{Step}
use Rattle.sheet_operator.specs.Memory.{steps_in}
use Rattle.sheet_sets.proofs.steps.steps_apart.Given as goal

abbrev pub invariant-loop-j : goal.invariant-loop-j
invariant-loop-j l = (l.j ≤ l.n) × (all (λ (t : Step). all (λ (v : ℕ). not (has l.s v)) (step_names t)) (steps_in l.j l.ss) ≡ true)
