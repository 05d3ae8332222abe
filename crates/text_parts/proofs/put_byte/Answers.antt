-- `text_parts::put_byte` meets its contract: a word, and a byte has three digits at the most.
-- Assumes nothing.
use native.Mathlib.Omega.{arith}
use Rattle.text_parts.specs.Put.{BYTE_TEXT}
use Rattle.text_parts.proofs.Pieces.{piece, then, byte_short}
use Rattle.text_parts.proofs.put_byte.Goals as goal

pub put_natural-requires : goal.put_natural-requires
put_natural-requires c =
    omega (arith, byte_short c.args.n (omega arith))

pub returns : goal.returns
returns c =
    then (piece _ (omega arith) c.put_word-a.ensures)
    (piece BYTE_TEXT (byte_short c.args.n (omega arith)) c.put_natural.ensures)
