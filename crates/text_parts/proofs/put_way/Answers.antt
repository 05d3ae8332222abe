-- `text_parts::put_way` meets its contract: the first stands close, the others after a space.
-- Assumes nothing.
use native.Mathlib.Omega.{arith}
use Rattle.text_parts.specs.Put.{WAY_TEXT}
use Rattle.text_parts.proofs.Pieces.{piece, then, within}
use Rattle.text_parts.proofs.put_way.Goals as goal

pub returns-then-first : goal.returns-then-first
returns-then-first c =
    rw c.if-first.true (within WAY_TEXT (omega arith) (then c.put_byte-a.ensures (piece 1 (omega arith) c.put_word.ensures)))

pub returns : goal.returns
returns c =
    rw c.if-first.false (within WAY_TEXT (omega arith) (then c.put_byte-a-2.ensures (piece 1 (omega arith) c.put_word-2.ensures)))
