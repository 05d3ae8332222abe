-- `replay_on_sheet::numbers` is safe and ends: 24 numbers of 4 bytes are within the body.
-- Assumes nothing.
use Rattle.std.proofs.Common.{◌≤◌, ◌-◌}
use Rattle.replay_on_sheet.proofs.numbers.Given as goal

abbrev pub invariant-loop-q : goal.invariant-loop-q
invariant-loop-q l = l.q ≤ 24
