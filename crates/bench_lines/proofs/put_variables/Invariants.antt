-- `bench_lines::put_variables` meets its contract: the first i variables are put.
-- Assumes nothing.
use Prim.Native.Nat.{◌*◌, ◌≤◌}
use lib.ListN.{take}
use Rattle.bench_lines.specs.Lines.{variable_lines, LINE}
use Rattle.bench_lines.proofs.Pieces.{Piece}
use Rattle.bench_lines.proofs.put_variables.Given as goal

abbrev pub invariant-loop-i : goal.invariant-loop-i
invariant-loop-i l = (l.i ≤ l.n) × Piece (LINE * l.i) (variable_lines 0 (take l.i l.vars)) l.initial.s l.at l.s l.end
