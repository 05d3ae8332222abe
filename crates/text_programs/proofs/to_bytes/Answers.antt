-- `text_programs::to_bytes` meets its contract: one law for each way out.
-- Assumes nothing.
use Rattle.text_programs.proofs.Sending.{sends_as}
use Rattle.text_programs.proofs.Programs.{to_bytes_long, to_bytes_accepted, to_bytes_within, to_bytes_done, to_bytes_refused, to_bytes_outside}
use Rattle.text_programs.proofs.to_bytes.Goals as goal

pub returns-then-input-gt-INPUT : goal.returns-then-input-gt-INPUT
returns-then-input-gt-INPUT c = sends_as (to_bytes_long _ c.if-input-gt-INPUT.true) (rw c.at.ensures at c.refused.ensures)

pub sheet_bytes-requires : goal.sheet_bytes-requires
sheet_bytes-requires c = (to_bytes_accepted _ _ c.in-Ok.ensures, c.requires)

pub outside-requires : goal.outside-requires
outside-requires c =
    let w = c.in-Err-Outside in
    (c.requires, to_bytes_within _ _ (rw w.field-0-is at w.ensures), c.if-input-gt-INPUT.false)

pub returns-in-Ok : goal.returns-in-Ok
returns-in-Ok c = sends_as (to_bytes_done _ c.if-input-gt-INPUT.false _ c.in-Ok.ensures) c.sheet_bytes.ensures

pub returns-in-Err-Sheet : goal.returns-in-Err-Sheet
returns-in-Err-Sheet c =
    let w = c.in-Err-Sheet in
    sends_as (to_bytes_refused _ c.if-input-gt-INPUT.false _ (rw w.field-0-is at w.ensures)) c.refused-in-Err-Sheet.ensures

pub returns-in-Err-Outside : goal.returns-in-Err-Outside
returns-in-Err-Outside c =
    let w = c.in-Err-Outside in
    sends_as (to_bytes_outside _ c.if-input-gt-INPUT.false _ (rw w.field-0-is at w.ensures)) c.outside.ensures
