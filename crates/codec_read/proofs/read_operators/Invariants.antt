-- `codec_read::read_operators` meets its contract: between two records the reader holds what `ReadTo` says.
-- Assumes nothing.
use Rattle.codec_read.proofs.Reading.{ReadTo}
use Rattle.codec_read.proofs.read_operators.Given as goal

abbrev pub invariant-loop-i : goal.invariant-loop-i
invariant-loop-i l = ReadTo l.s l.n l.queues l.variables l.t l.seen l.at l.i
