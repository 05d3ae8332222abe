-- `replay_on_state::item` is safe and ends: the fields are within the body.
-- Assumes nothing.
use Prim.Native.Nat.{◌≤◌, ◌-◌}
use Rattle.base_bounds.specs.Bounds.{FIELDS}
use Rattle.replay_on_state.proofs.item.Given as goal

abbrev pub invariant-loop-i : goal.invariant-loop-i
invariant-loop-i l = l.i ≤ FIELDS
