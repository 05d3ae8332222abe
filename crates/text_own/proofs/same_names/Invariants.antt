-- `text_own::same_names` meets its contract: the loop keeps that the first k places hold the same.
-- Assumes nothing.
use Prim.Native.Nat.{◌-◌, ◌≤◌}
use Rattle.base_bounds.specs.Bounds.{QUEUES}
use Rattle.text_own.proofs.Loops.{SameTo}
use Rattle.text_own.proofs.same_names.Given as goal

abbrev pub invariant-loop-k : goal.invariant-loop-k
invariant-loop-k l = (l.k ≤ QUEUES) × SameTo l.ps l.qs l.k
