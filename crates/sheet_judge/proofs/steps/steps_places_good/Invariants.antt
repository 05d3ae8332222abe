-- `sheet_judge::steps::steps_places_good` meets its contract: the loop keeps that every step passed has good places.
use mathlib.Core.Path.{◌≡◌}
use mathlib.Core.Bool.{true}
use Prim.Native.Nat.{◌≤◌}
use Rattle.base_lists.specs.Lists.{all}
use Rattle.sheet_step.specs.Step.{step_places}
use Rattle.sheet_operator.specs.Memory.{steps_in}
use Rattle.sheet_judge.proofs.steps.steps_places_good.Given as goal

abbrev pub invariant-loop-j : goal.invariant-loop-j
invariant-loop-j l = (l.j ≤ l.n) × (all step_places (steps_in l.j l.ss) ≡ true)
