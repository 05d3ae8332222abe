-- `counts::gather_count` meets its contract: the sum of the inputs passed, each at most 2 ^ 60.
use mathlib.Core.Path.{◌≡◌}
use mathlib.Core.List.{map}
use Prim.Native.Nat.{ℕ, ◌*◌, ◌≤◌, ◌^◌}
use lib.ListN.{get_or}
use Rattle.base_lists.specs.Lists.{sum}
use Rattle.sheet_operator.specs.Memory.{ways}
use Rattle.counts.proofs.gather_count.Given as goal

abbrev pub invariant-loop-j : goal.invariant-loop-j
invariant-loop-j l = (l.j ≤ l.k) × (l.n ≡ sum (map (λ (p : ℕ). get_or l.w p 0) (ways l.j l.ps))) × (l.n ≤ l.j * 2 ^ 60)
