-- `counts::sheet_counts` meets its contract: what is left to count from here is what was to count at the start,
-- and no count is above the bound of the operators passed.
use mathlib.Core.Path.{◌≡◌}
use Prim.Native.Nat.{ℕ, ◌≤◌}
use Rattle.base_lists.proofs.Rest.{rest}
use Rattle.sheet_operator.specs.Memory.{view}
use Rattle.sheet.specs.Sheet.{op_at, view_sheet}
use Rattle.counts.specs.Worst.{worst_from}
use Rattle.counts.proofs.Bounds.{Within, bound}
use Rattle.counts.proofs.sheet_counts.Given as goal

abbrev pub invariant-loop-i : goal.invariant-loop-i
invariant-loop-i l =
    (l.i ≤ l.t.count)
    × (worst_from l.w (rest l.t.count l.i (λ (k : ℕ). view (op_at l.t k))) ≡ worst_from l.initial.w (view_sheet l.t).ops)
    × Within (bound l.i) l.w
