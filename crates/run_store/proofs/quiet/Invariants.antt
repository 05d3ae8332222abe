-- `run_store::quiet` meets its contract: what is left to test is what was asked, and a queue that fails decides it.
use mathlib.Core.Path.{◌≡◌}
use Prim.Native.Nat.{◌-◌, ◌≤◌}
use lib.ListN.{drop}
use Rattle.base_bounds.specs.Bounds.{QUEUES}
use Rattle.run_store.specs.Quiet.{quiet_from}
use Rattle.run_store.proofs.quiet.Given as goal

abbrev pub invariant-loop-q : goal.invariant-loop-q
invariant-loop-q l = (l.q ≤ QUEUES) × (quiet_from l.store 0 l.counts ≡ quiet_from l.store l.q (drop l.q l.counts))
