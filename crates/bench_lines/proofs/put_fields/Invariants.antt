-- `bench_lines::put_fields` meets its contract: the first i fields are put.
-- Assumes nothing.
use Prim.Native.Nat.{◌*◌}
use lib.ListN.{take}
use Rattle.base_lists.specs.Lists.{chain}
use Rattle.bench_lines.specs.Lines.{spaced, SPACED}
use Rattle.bench_lines.proofs.Pieces.{Piece}
use Rattle.bench_lines.proofs.put_fields.Given as goal

abbrev pub invariant-loop-z : goal.invariant-loop-z
invariant-loop-z l = Piece (SPACED * l.z-index) (chain spaced (take l.z-index l.fields)) l.initial.s l.at l.s l.end
