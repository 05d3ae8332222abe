-- `replay_stream::pass_over` is safe and ends: each read leaves fewer bytes to pass over.
-- Assumes nothing.
use Rattle.std.proofs.Common.{◌≡◌, length}
use Rattle.replay_stream.proofs.pass_over.Given as goal

abbrev pub invariant-loop-left : goal.invariant-loop-left
invariant-loop-left l = length l.input ≡ length l.initial.input

abbrev pub decreases-loop-left : goal.decreases-loop-left
decreases-loop-left l = l.left
