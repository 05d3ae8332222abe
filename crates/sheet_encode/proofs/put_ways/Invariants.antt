-- `sheet_encode::put_ways` meets its contract. The loop's invariant: the first i ways are written.
use mathlib.Core.Path.{◌≡◌}
use Prim.Native.Nat.{◌-◌, ◌≤◌}
use lib.ListN.{length}
use lib.Seq.{sets}
use Rattle.sheet_operator.specs.Memory.{ways}
use Rattle.sheet_encode.proofs.put_ways.Given as goal

abbrev pub invariant-loop-i : goal.invariant-loop-i
invariant-loop-i l = (l.i ≤ l.n) × (length l.s ≡ length l.initial.s) × (l.s ≡ sets l.initial.s l.at (ways l.i l.queues))
