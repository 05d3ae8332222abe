-- `text_print::put_head` meets its contract: one piece after another.
-- Assumes nothing.
use native.Mathlib.Omega.{arith}
use Rattle.sheet.specs.Sheet.{view_sheet}
use Rattle.text_parts.proofs.Pieces.{piece, then, within, spelt}
use Rattle.text_print.specs.Names.{HEAD_TEXT}
use Rattle.text_print.proofs.Texts.{head_text}
use Rattle.text_print.proofs.put_head.Goals as goal

pub returns : goal.returns
returns c =
    spelt (head_text (view_sheet c.args.t))
    (within HEAD_TEXT (omega arith)
    (then (piece 6 (omega arith) c.put_word-a.ensures) (then c.put_outputs-b.ensures
    (then (piece 7 (omega arith) c.put_word-d.ensures) (then c.put_inputs-e.ensures
    (then c.put_byte-f.ensures (piece 1 (omega arith) c.put_word.ensures)))))))
