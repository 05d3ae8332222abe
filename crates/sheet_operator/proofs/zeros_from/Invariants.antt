-- `sheet_operator::zeros_from` meets its contract. The loop's invariant: the places passed hold 0 from n on.
use mathlib.Core.Path.{◌≡◌}
use mathlib.Core.Bool.{true, Bool, ◌||◌}
use Prim.Native.Nat.{ℕ, ◌≤◌}
use Rattle.base_lists.specs.Lists.{build, all}
use Rattle.sheet_operator.specs.Memory.{PLACES}
use mathlib.Core.List.{List}
use lib.Dec.{eqb, ltb}
use lib.ListN.{get_or}
use Rattle.sheet_operator.proofs.zeros_from.Given as goal

-- the test of one place
abbrev pub zero_at : ℕ → List ℕ → ℕ → Bool
zero_at n l k = ltb k n || eqb (get_or l k 0) 0

abbrev pub invariant-loop-j : goal.invariant-loop-j
invariant-loop-j l = (l.j ≤ PLACES) × (all (zero_at l.n l.l) (build l.j (λ (k : ℕ). k)) ≡ true)
