-- `run_reader::with_reader` meets its contract: the loop keeps that the operator stands as the reader of each in queue passed.
use mathlib.Core.Path.{◌≡◌}
use Prim.Native.Nat.{◌≤◌}
use Rattle.sheet_operator.specs.Memory.{ways}
use Rattle.run_machine.specs.Readers.{readers_with}
use Rattle.run_reader.proofs.with_reader.Given as goal

abbrev pub invariant-loop-j : goal.invariant-loop-j
invariant-loop-j l = (l.j ≤ l.j-end) × (l.r ≡ readers_with l.initial.r (ways l.j l.o.ins) l.i)
