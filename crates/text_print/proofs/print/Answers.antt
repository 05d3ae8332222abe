-- `text_print::print` meets its contract: the check decides, and a sheet that it refuses leaves the buffer as it was.
-- Assumes nothing.
use Rattle.std.proofs.lemmas.Result.{err_from_is_err_and}
use Rattle.text_print.proofs.Answers.{prints_refused}
use Rattle.text_print.proofs.print.Goals as goal

pub returns-in_err-check : goal.returns-in_err-check
returns-in_err-check c =
    let r = err_from_is_err_and c.from_residual.result c.from_residual.ensures.1 in
    rw (r.1, r.2) (prints_refused _ _ _ c.in_err-check.ensures)
