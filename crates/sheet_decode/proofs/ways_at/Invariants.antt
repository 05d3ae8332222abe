-- `sheet_decode::ways_at` meets its contract: the places hold the ways read so far, and then 0.
use mathlib.Core.Path.{◌≡◌}
use Prim.Native.Nat.{ℕ, ◌+◌, ◌-◌, ◌≤◌}
use lib.ListN.{get_or}
use Rattle.base_lists.specs.Lists.{build, pad}
use Rattle.sheet_decode.proofs.ways_at.Given as goal

abbrev pub invariant-loop-i : goal.invariant-loop-i
invariant-loop-i l = (l.i ≤ l.n) × (l.queues ≡ pad 4 0 (build l.i (λ (k : ℕ). get_or l.s (l.at + k) 0)))
