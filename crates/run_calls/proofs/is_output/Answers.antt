-- `run_calls::is_output` meets its contract: a queue from Q on is no output, and below Q the readers' table decides.
-- Assumes nothing.
use Rattle.run_calls.proofs.Taking.{output_by_table}
use Rattle.run_calls.proofs.is_output.Goals as goal

pub returns-then-q-t : goal.returns-then-q-t
returns-then-q-t c =
    let rs = c.readers in
    output_by_table c.args.t c.requires c.args.q c.reader_at.result rs.result rs.ensures c.reader_at.ensures c.if-q-t.true
