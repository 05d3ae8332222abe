-- `codec_read::read_operator` meets its contract: a record's own refusal, then the judge's, and else its operator.
-- Assumes nothing.
use mathlib.Core.Path.{sym, refl}
use Rattle.std.proofs.lemmas.Result.{err_from_is_err_and}
use Rattle.sheet_decode.proofs.Takes.{takes}
use Rattle.codec_read.proofs.Reading.{ready_of_taken, next_bad, next_refused, next_kept}
use Rattle.codec_read.proofs.read_operator.Goals as goal

pub returns-in_err-r : goal.returns-in_err-r
returns-in_err-r c =
    let r = err_from_is_err_and c.from_residual.result c.from_residual.ensures.1 in
    rw (r.1, r.2) (next_bad _ _ _ _ _ _ (takes _ _ _ c.in_err-r.ensures))

pub admit-requires : goal.admit-requires
admit-requires c =
    let d = takes _ _ _ c.in_ok-r.ensures in
    (ready_of_taken _ c.in_ok-r.r.op (sym d.number) (d.op refl), c.requires.1, c.requires.2)

pub returns-in_err-next : goal.returns-in_err-next
returns-in_err-next c =
    let r = err_from_is_err_and c.from_residual-in_err-next.result c.from_residual-in_err-next.ensures.1 in
    rw (r.1, r.2) (next_refused _ _ _ _ _ c.in_ok-r.r (takes _ _ _ c.in_ok-r.ensures) _ c.in_err-next.ensures)

pub returns : goal.returns
returns c = next_kept _ _ _ _ _ c.in_ok-r.r (takes _ _ _ c.in_ok-r.ensures) _ c.in_ok-next.ensures
