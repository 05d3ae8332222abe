-- `run_standing::none_from` meets its contract: what is left to test is what was asked, and a count that is not 0 decides it.
use mathlib.Core.Path.{◌≡◌}
use mathlib.Core.Bool.{Bool}
use mathlib.Core.List.{List}
use Prim.Native.Nat.{ℕ, ◌-◌, ◌≤◌}
use lib.Dec.{eqb}
use lib.ListN.{drop}
use Rattle.base_lists.specs.Lists.{all}
use Rattle.base_bounds.specs.Bounds.{QUEUES}
use Rattle.run_standing.proofs.none_from.Given as goal

abbrev pub none_left : List ℕ → ℕ → Bool
none_left cs i = all (λ (n : ℕ). eqb n 0) (drop i cs)

abbrev pub invariant-loop-i : goal.invariant-loop-i
invariant-loop-i l = (l.i ≤ QUEUES) × (none_left l.counts l.from ≡ none_left l.counts l.i)
