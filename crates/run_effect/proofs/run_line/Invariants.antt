-- `run_effect::run_line` meets its contract. The loop's invariant: the first i steps have been taken; the measure is what is left of them.
-- Assumes nothing.
use mathlib.Core.Path.{◌≡◌}
use Prim.Native.Nat.{◌≤◌}
use Rattle.sheet_operator.specs.Memory.{steps_in}
use Rattle.run_effect.specs.Flow.{lined}
use Rattle.run_effect.proofs.run_line.Given as goal

abbrev pub invariant-loop-i : goal.invariant-loop-i
invariant-loop-i l = (l.i ≤ l.n) × (l.y ≡ lined (steps_in l.i l.o.steps) l.initial.y)
