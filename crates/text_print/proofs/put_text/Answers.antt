-- `text_print::put_text` meets its contract: the head, and the operators.
-- Assumes nothing.
use native.Mathlib.Omega.{arith}
use Rattle.sheet.specs.Sheet.{view_sheet}
use Rattle.text_parts.proofs.Pieces.{then, within, spelt}
use Rattle.text_print.specs.Names.{SHEET_TEXT}
use Rattle.text_print.proofs.Texts.{sheet_text_lem}
use Rattle.text_print.proofs.put_text.Goals as goal

pub returns : goal.returns
returns c =
    let t = c.args.t in
    spelt (sheet_text_lem (view_sheet t)) (within SHEET_TEXT (omega arith) (then c.put_head-a.ensures c.put_items.ensures))
