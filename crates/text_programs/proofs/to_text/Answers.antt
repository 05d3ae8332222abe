-- `text_programs::to_text` meets its contract: one law for each way out.
-- Assumes nothing.
use Rattle.text_programs.proofs.Sending.{sends_as}
use Rattle.text_programs.proofs.Programs.{to_text_long, to_text_accepted, to_text_done, to_text_refused}
use Rattle.text_programs.proofs.to_text.Goals as goal

pub returns-then-input-gt-INPUT : goal.returns-then-input-gt-INPUT
returns-then-input-gt-INPUT c = sends_as (to_text_long _ c.if-input-gt-INPUT.true) (rw c.at.ensures at c.refused.ensures)

pub sheet_text-requires : goal.sheet_text-requires
sheet_text-requires c = (to_text_accepted _ _ c.in-Ok.ensures, c.requires)

pub returns-in-Ok : goal.returns-in-Ok
returns-in-Ok c = sends_as (to_text_done _ c.if-input-gt-INPUT.false _ c.in-Ok.ensures) c.sheet_text.ensures

pub returns-in-Err : goal.returns-in-Err
returns-in-Err c = sends_as (to_text_refused _ c.if-input-gt-INPUT.false _ c.in-Err.ensures) c.refused-in-Err.ensures
