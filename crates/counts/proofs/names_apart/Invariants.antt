-- `counts::names_apart` meets its contract: what is left to test from here, after the names kept as flags, is what was to test at the start.
use mathlib.Core.Path.{◌≡◌}
use Prim.Native.Nat.{ℕ, ◌≤◌}
use Rattle.base_lists.specs.Lists.{has}
use Rattle.base_lists.proofs.Rest.{rest}
use Rattle.sheet_operator.specs.Memory.{view}
use Rattle.sheet.specs.Sheet.{op_at, view_sheet}
use Rattle.counts.specs.Calm.{calm_from, is_calm}
use Rattle.counts.proofs.names_apart.Given as goal

-- what is left to test from operator i on is what was to test
abbrev pub invariant-loop-i : goal.invariant-loop-i
invariant-loop-i l =
    (l.i ≤ l.t.count) × (calm_from (has l.named) (rest l.t.count l.i (λ (k : ℕ). view (op_at l.t k))) ≡ is_calm (view_sheet l.t))
