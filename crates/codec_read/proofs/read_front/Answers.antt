-- `codec_read::read_front` meets its contract: a head that is refused stops at record 0, and after a good one come its operators.
-- Assumes nothing.
use Rattle.sheet_decode.proofs.Takes.{head_takes}
use native.Mathlib.Omega.{arith}
use Rattle.base_refusal.proofs.Reasons.{some_number}
use Rattle.codec_read.proofs.Reading.{front_bad}
use Rattle.codec_read.proofs.ReadEnds.{fronts_stopped}
use Rattle.codec_read.proofs.read_front.Goals as goal

pub returns-in-Err : goal.returns-in-Err
returns-in-Err c =
    let r = c.in-Err.reason in
    fronts_stopped _ _ r 0 (front_bad _ _ (head_takes _ _ c.in-Err.ensures).number (λ z. omega (arith, some_number r))) c.at.ensures
