-- `sheet_sets::is_fresh` meets its contract: the loop's set has the queues passed, none of which was known or stood there twice.
use mathlib.Core.Path.{◌≡◌}
use mathlib.Core.Bool.{true, ◌||◌}
use Prim.Native.Nat.{ℕ, ◌≤◌}
use lib.ListN.{length}
use Rattle.base_lists.specs.Lists.{member, fresh, has}
use Rattle.sheet_operator.specs.Memory.{ways}
use Rattle.sheet_sets.specs.Sets.{FLAGS}
use Rattle.sheet_sets.proofs.is_fresh.Given as goal

abbrev pub invariant-loop-j : goal.invariant-loop-j
invariant-loop-j l =
    (l.j ≤ l.n) × (length l.t ≡ FLAGS) × (has l.t ≡ (λ (k : ℕ). member k (ways l.j l.qs) || has l.initial.t k))
    × (fresh (has l.initial.t) (ways l.j l.qs) ≡ true)
