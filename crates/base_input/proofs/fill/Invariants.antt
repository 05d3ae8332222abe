-- `base_input::fill` meets its contract and ends: each read adds bytes, or is the last.
-- Assumes nothing.
use Prim.Native.Nat.{◌≤◌, ◌-◌}
use lib.ListN.{length}
use mathlib.Core.Path.{◌≡◌}
use Rattle.base_input.proofs.fill.Given as goal

abbrev pub invariant-loop-end : goal.invariant-loop-end
invariant-loop-end l = (l.end ≤ length l.s) × (length l.s ≡ length l.initial.s)

abbrev pub decreases-loop-end : goal.decreases-loop-end
decreases-loop-end l = l.n - l.end
