-- `sheet_operator::blanks_from` meets its contract. The loop's invariant: the places passed hold no step from n on.
use mathlib.Core.Path.{◌≡◌}
use mathlib.Core.Bool.{true, Bool, ◌||◌}
use Prim.Native.Nat.{ℕ, ◌≤◌}
use Rattle.base_lists.specs.Lists.{build, all}
use Rattle.sheet_operator.specs.Memory.{PLACES}
use mathlib.Core.List.{List}
use lib.Dec.{ltb}
use lib.ListN.{get_or}
use Rattle.sheet_step.specs.Step.{no_step, blank}
use Rattle.sheet_step.specs.declared.Step.{Step}
use Rattle.sheet_operator.proofs.blanks_from.Given as goal

-- the test of one place
abbrev pub empty : ℕ → List Step → ℕ → Bool
empty n l k = ltb k n || blank (get_or l k no_step)

abbrev pub invariant-loop-j : goal.invariant-loop-j
invariant-loop-j l = (l.j ≤ PLACES) × (all (empty l.n l.l) (build l.j (λ (k : ℕ). k)) ≡ true)
