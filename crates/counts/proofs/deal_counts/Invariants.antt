-- `counts::deal_counts` meets its contract: what is left to deal from here is what was to deal at the start.
use mathlib.Core.Path.{◌≡◌}
use Prim.Native.Nat.{ℕ, ◌≤◌}
use lib.ListN.{get_or}
use Rattle.base_lists.proofs.Rest.{rest}
use Rattle.sheet_operator.specs.Memory.{ways}
use Rattle.counts.specs.Worst.{dealt}
use Rattle.counts.proofs.deal_counts.Given as goal

abbrev pub invariant-loop-j : goal.invariant-loop-j
invariant-loop-j l =
    (l.j ≤ l.k)
    × (dealt l.r l.n l.k l.j (rest l.k l.j (λ (x : ℕ). get_or l.qs x 0)) ≡ dealt l.initial.r l.n l.k 0 (ways l.k l.qs))
