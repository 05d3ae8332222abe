-- `text_print::put_name` meets its contract: a piece for each way to spell a name.
-- Assumes nothing.
use mathlib.Core.Bool.{true, false}
use native.Mathlib.Omega.{arith}
use Rattle.text_parts.proofs.Pieces.{within, spelt}
use Rattle.text_print.specs.Names.{NAME_TEXT}
use Rattle.text_print.proofs.Texts.{name_text}
use Rattle.text_print.proofs.put_name.Goals as goal

pub returns-then-first : goal.returns-then-first
returns-then-first c =
    let q = c.args.q in
    rw c.if-first.true (spelt (name_text true q) (within NAME_TEXT (omega arith) c.put_byte.ensures))

pub returns : goal.returns
returns c =
    let q = c.args.q in
    rw c.if-first.false (spelt (name_text false q) (within NAME_TEXT (omega arith) c.put_byte-2.ensures))
