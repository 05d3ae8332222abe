-- `sheet::judge_operators` meets its contract: what is left to check from here is what was to check at the start,
-- and the flags are what is known of the operators before.
use mathlib.Core.Path.{◌≡◌}
use Prim.Native.Nat.{◌-◌, ◌≤◌}
use Rattle.sheet_judge.specs.Judge.{known}
use Rattle.sheet_judge.specs.Seen.{known_by}
use Rattle.sheet.specs.Sheet.{view_to}
use Rattle.sheet.specs.Check.{check_from}
use Rattle.sheet.proofs.judge_operators.Given as goal

-- what is left to check from operator i on is what was to check
abbrev pub invariant-loop-i : goal.invariant-loop-i
invariant-loop-i l =
    (l.i ≤ l.t.count) × (check_from l.t (l.t.count - l.i) (view_to l.t l.i) ≡ check_from l.t l.t.count (view_to l.t 0))
    × (known_by l.seen ≡ known (view_to l.t l.i))
