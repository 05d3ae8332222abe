-- `run_ready::ready_known` meets its contract: the loop keeps that the set has the bits of the queues from q on.
-- Assumes nothing.
use mathlib.Core.Path.{◌≡◌}
use Prim.Native.Nat.{◌-◌, ◌≤◌}
use Rattle.sheet.specs.Sheet.{view_sheet}
use Rattle.base_bounds.specs.Bounds.{QUEUES}
use Rattle.run_machine.specs.Numbers.{decode}
use Rattle.run_machine.specs.Ready.{SET, ready_at, bits_from}
use Rattle.run_ready.proofs.ready_known.Given as goal

abbrev pub invariant-loop-q : goal.invariant-loop-q
invariant-loop-q l = (l.q ≤ QUEUES) × (l.set ≡ bits_from (ready_at (view_sheet l.t) (decode l.state l.store)) l.q (SET - l.q))
