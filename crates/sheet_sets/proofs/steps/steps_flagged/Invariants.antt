-- `sheet_sets::steps::steps_flagged` meets its contract: the loop keeps that the set has what the steps passed name.
use mathlib.Core.Path.{◌≡◌}
use mathlib.Core.Bool.{◌||◌}
use Prim.Native.Nat.{ℕ, ◌≤◌}
use Rattle.base_lists.specs.Lists.{member, chain, has}
use Rattle.sheet_step.specs.Step.{step_names}
use Rattle.sheet_operator.specs.Memory.{steps_in}
use Rattle.sheet_sets.proofs.steps.steps_flagged.Given as goal

abbrev pub invariant-loop-j : goal.invariant-loop-j
invariant-loop-j l = (l.j ≤ l.n) × (has l.r ≡ (λ (k : ℕ). member k (chain step_names (steps_in l.j l.ss)) || has l.initial.r k))
