-- `run_reader::readers` meets its contract: the loop keeps that the table is the one of the operators from i on.
use mathlib.Core.Path.{◌≡◌}
use Prim.Native.Nat.{◌≤◌, ℕ}
use mathlib.Core.List.{List}
use lib.ListN.{drop}
use Rattle.base_lists.specs.Lists.{build}
use Rattle.base_bounds.specs.Bounds.{QUEUES}
use Rattle.sheet.specs.declared.Sheet.{Sheet}
use Rattle.sheet.specs.Sheet.{view_sheet}
use Rattle.run_machine.specs.Readers.{reader_from}
use Rattle.run_reader.proofs.readers.Given as goal

-- the table of the operators from i on
abbrev pub from : Sheet → ℕ → List ℕ
from t i = build QUEUES (reader_from (drop i (view_sheet t).ops) i)

abbrev pub invariant-loop-i : goal.invariant-loop-i
invariant-loop-i l = (l.i ≤ l.t.count) × (l.r ≡ from l.t l.i)
