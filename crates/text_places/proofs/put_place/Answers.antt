-- `text_places::put_place` meets its contract: three numbers with their words, and a newline.
-- Assumes nothing.
use native.Mathlib.Omega.{arith}
use Rattle.text_parts.proofs.Pieces.{piece, then, within, spelt}
use Rattle.text_places.specs.Put.{OUTSIDE_TEXT, placed}
use Rattle.text_places.proofs.Places.{outside_line_lem}
use Rattle.text_places.proofs.put_place.Goals as goal

pub returns : goal.returns
returns c =
    let word = c.put_word in
    let column = c.put_numbered-d in
    let line = c.put_numbered-b in
    let byte = c.put_numbered-a in
    spelt (outside_line_lem c.args.byte (placed c.args.p))
    (within OUTSIDE_TEXT (omega arith) (then byte.ensures (then line.ensures (then column.ensures (piece 1 (omega arith) word.ensures)))))
