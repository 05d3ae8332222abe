-- `bench_records::item_at` meets its contract: the fields read so far, and then zeros.
-- Assumes nothing.
use mathlib.Core.Path.{◌≡◌}
use Prim.Native.Nat.{◌≤◌}
use Rattle.base_bounds.specs.Bounds.{FIELDS}
use Rattle.bench_records.proofs.RecordLaws.{fields_to}
use Rattle.bench_records.proofs.item_at.Given as goal

abbrev pub invariant-loop-i : goal.invariant-loop-i
invariant-loop-i l = (l.i ≤ FIELDS) × (l.x.f ≡ fields_to l.s l.at l.i)
