-- `sheet_encode::put_steps` meets its contract. The loop's invariant: the first i steps are written.
use mathlib.Core.Path.{◌≡◌}
use Prim.Native.Nat.{◌-◌, ◌≤◌}
use lib.ListN.{length}
use lib.Seq.{sets}
use Rattle.base_lists.specs.Lists.{chain}
use Rattle.sheet_step.specs.Step.{step_bytes}
use Rattle.sheet_operator.specs.Memory.{steps_in}
use Rattle.sheet_encode.proofs.put_steps.Given as goal

abbrev pub invariant-loop-i : goal.invariant-loop-i
invariant-loop-i l = (l.i ≤ l.n) × (length l.s ≡ length l.initial.s) × (l.s ≡ sets l.initial.s l.at (chain step_bytes (steps_in l.i l.steps)))
