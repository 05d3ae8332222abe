-- `text_parts::put_keep` meets its contract: one piece after another.
-- Assumes nothing.
use mir.Syntax.{w32}
use native.Mathlib.Omega.{arith}
use mir.Facts.{to_z-of_z}
use Rattle.text_parts.specs.Put.{STEP_TEXT}
use Rattle.text_parts.proofs.Pieces.{piece, then, within}
use Rattle.text_parts.proofs.put_keep.Goals as goal

pub returns : goal.returns
returns c =
    let p = c.put_byte-a.ensures in
    let low = rw (to_z-of_z {w = w32} c.ranges.low) at c.put_number-b.ensures in
    let high = rw (to_z-of_z {w = w32} c.ranges.high) at c.put_number-d.ensures in
    within STEP_TEXT (omega arith) (then p (then low (then high (piece 1 (omega arith) c.put_word.ensures))))
