-- `sheet_decode::steps_at` meets its contract: the places hold the steps read so far, and then no step.
use mathlib.Core.Path.{◌≡◌}
use Prim.Native.Nat.{ℕ, ◌+◌, ◌*◌, ◌-◌, ◌≤◌}
use lib.ListN.{drop}
use Rattle.base_lists.specs.Lists.{build, pad}
use Rattle.sheet_step.specs.Step.{step_of, no_step}
use Rattle.sheet_decode.proofs.steps_at.Given as goal

abbrev pub invariant-loop-i : goal.invariant-loop-i
invariant-loop-i l = (l.i ≤ l.n) × (l.steps ≡ pad 4 no_step (build l.i (λ (k : ℕ). step_of (drop (l.at + 12 * k) l.s))))
