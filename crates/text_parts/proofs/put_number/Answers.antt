-- `text_parts::put_number` meets its contract: a word, and a number has eleven bytes at the most.
-- Assumes nothing.
use mir.Syntax.{w32}
use native.Mathlib.Omega.{arith}
use mir.Facts.{to_z-of_z}
use Rattle.base_words.proofs.Digits.{length_integer}
use Rattle.text_parts.specs.Put.{NUMBER_TEXT}
use Rattle.text_parts.proofs.Pieces.{piece, then}
use Rattle.text_parts.proofs.put_number.Goals as goal

pub put_integer-requires : goal.put_integer-requires
put_integer-requires c =
    rw (to_z-of_z {w = w32} c.ranges.z) (omega (arith, length_integer c.args.z c.ranges.z.sfits))

pub returns : goal.returns
returns c =
    then (piece _ (omega arith) c.put_word-a.ensures)
    (piece NUMBER_TEXT (length_integer c.args.z c.ranges.z.sfits) (rw (to_z-of_z {w = w32} c.ranges.z) at c.put_integer.ensures))
