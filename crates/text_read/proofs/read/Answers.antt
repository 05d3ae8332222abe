-- `text_read::read` meets its contract: one law for each answer.
-- Assumes nothing.
use mathlib.Core.Path.{refl, sym, ap}
use Rattle.std.specs.Prelude.{Err}
use Rattle.sheet.proofs.AnswerLaws.{refusal_refuses}
use Rattle.text_read.specs.declared.TextRefusal.{TextRefusal}
use Rattle.text_read.specs.Answer.{text_paper}
use Rattle.text_read.proofs.Came.{came}
use Rattle.text_read.proofs.Told.{told_small, told_of_check, reads_told}
use Rattle.text_read.proofs.read.Goals as goal

pub build-t-requires : goal.build-t-requires
build-t-requires c = told_small (came c.in_ok-head.ensures c.in_ok-held.ensures)

pub returns-in-Ok : goal.returns-in-Ok
returns-in-Ok c =
    let told = told_of_check (came c.in_ok-head.ensures c.in_ok-held.ensures) c.in_ok-head.ensures.begins c.build-t.ensures in
    reads_told c.args.s.now _ _ _ (told.lists (sym c.in-Ok.ensures)) c.with_lists.ensures.answer c.with_lists.ensures.sheet

pub returns-in-Err : goal.returns-in-Err
returns-in-Err c =
    let e = c.in-Err.e in
    let told = told_of_check (came c.in_ok-head.ensures c.in_ok-held.ensures) c.in_ok-head.ensures.begins c.build-t.ensures in
    reads_told c.args.s.now _ _ _ (told.refused _ (sym c.in-Err.ensures) (refusal_refuses e.reason e.spot))
    (ap (λ (x : TextRefusal). text_paper (Err x)) c.into.ensures) refl
