-- `codec_read::read` meets its contract: a front that is refused decides, and else what is left over and what is never defined.
-- Assumes nothing.
use Rattle.std.proofs.lemmas.Result.{err_from_is_err_and}
use Rattle.codec_read.proofs.ReadEnds.{front_count, reads_ended, reads_refused}
use Rattle.codec_read.proofs.read.Goals as goal

pub returns-in_err-f : goal.returns-in_err-f
returns-in_err-f c =
    let r = err_from_is_err_and c.from_residual.result c.from_residual.ensures.1 in
    rw (r.1, r.2) (reads_refused _ _ c.in_err-f.ensures)

pub ended-requires : goal.ended-requires
ended-requires c = front_count _ c.in_ok-f.f c.in_ok-f.ensures

pub returns : goal.returns
returns c = reads_ended _ c.in_ok-f.f c.in_ok-f.ensures _ c.ended.ensures
