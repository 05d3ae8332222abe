-- `sheet::vacant_from` meets its contract: every place passed is one below N or vacant.
use mathlib.Core.Path.{◌≡◌}
use mathlib.Core.Bool.{true, ◌||◌}
use Prim.Native.Nat.{ℕ, ◌≤◌}
use lib.Dec.{ltb}
use Rattle.base_lists.specs.Lists.{build, all}
use Rattle.sheet_operator.specs.Memory.{vacant}
use Rattle.base_bounds.specs.Bounds.{OPERATORS}
use Rattle.sheet.specs.Sheet.{op_at}
use Rattle.sheet.proofs.vacant_from.Given as goal

abbrev pub invariant-loop-i : goal.invariant-loop-i
invariant-loop-i l = (l.i ≤ OPERATORS) × (all (λ (k : ℕ). ltb k l.t.count || vacant (op_at l.t k)) (build l.i (λ (k : ℕ). k)) ≡ true)
