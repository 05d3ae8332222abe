-- `run_standing::cursors_good` meets its contract: every operator passed has its cursor in its range.
use mathlib.Core.Path.{◌≡◌}
use mathlib.Core.Bool.{Bool, true}
use mathlib.Core.List.{List}
use Prim.Native.Nat.{ℕ, ◌-◌, ◌≤◌}
use lib.IntN.{ℤ}
use Rattle.base_lists.specs.Lists.{build, all}
use Rattle.sheet_operator.specs.Op.{Op}
use Rattle.sheet_operator.specs.Memory.{view}
use Rattle.sheet.specs.Sheet.{op_at}
use Rattle.run_effect.specs.Effect.{cursor_good}
use Rattle.run_standing.proofs.cursors_good.Given as goal

-- the test of one operator
abbrev pub test : List ℤ → Op → Bool
test vars o = cursor_good o vars

abbrev pub invariant-loop-i : goal.invariant-loop-i
invariant-loop-i l = (l.i ≤ l.n) × (all (test l.vars) (build l.i (λ (k : ℕ). view (op_at l.t k))) ≡ true)
