-- `sheet_sets::all_flagged` meets its contract: the loop keeps that the set has the queues passed.
use mathlib.Core.Path.{◌≡◌}
use mathlib.Core.Bool.{◌||◌}
use Prim.Native.Nat.{ℕ, ◌≤◌}
use lib.ListN.{length}
use Rattle.base_lists.specs.Lists.{member, has}
use Rattle.sheet_operator.specs.Memory.{ways}
use Rattle.sheet_sets.specs.Sets.{FLAGS}
use Rattle.sheet_sets.proofs.all_flagged.Given as goal

abbrev pub invariant-loop-j : goal.invariant-loop-j
invariant-loop-j l = (l.j ≤ l.n) × (length l.r ≡ FLAGS) × (has l.r ≡ (λ (k : ℕ). member k (ways l.j l.qs) || has l.initial.r k))
