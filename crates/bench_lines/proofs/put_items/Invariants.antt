-- `bench_lines::put_items` meets its contract: the lines of the first i items are put.
-- Assumes nothing.
use Prim.Native.Nat.{ℕ, ◌*◌}
use mathlib.Core.List.{List}
use lib.IntN.{ℤ}
use Rattle.run_store.specs.Queues.{items_of}
use Rattle.bench_lines.specs.Lines.{queue_lines, LINE}
use Rattle.bench_lines.proofs.Pieces.{Piece}
use Rattle.bench_lines.proofs.put_items.Given as goal

-- the lines of the first k items
abbrev pub Items : ℕ → ℕ → List ℤ → List ℕ → ℕ → List ℕ → ℕ → Type 0
Items k q p s at t end = Piece (LINE * k) (queue_lines q (items_of k p)) s at t end

abbrev pub invariant-loop-i : goal.invariant-loop-i
invariant-loop-i l = Items l.i l.q l.part l.initial.s l.at l.s l.end
