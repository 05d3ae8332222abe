-- `text_places::put_numbered` meets its contract: a word, and a number has twenty digits at the most.
-- Assumes nothing.
use native.Mathlib.Omega.{arith}
use Rattle.base_words.proofs.Digits.{length_natural}
use Rattle.text_parts.proofs.Pieces.{piece, then}
use Rattle.text_places.specs.Put.{NATURAL_TEXT}
use Rattle.text_places.proofs.put_numbered.Goals as goal

pub put_natural-requires : goal.put_natural-requires
put_natural-requires c =
    omega (arith, length_natural 19 c.args.n (omega arith))

pub returns : goal.returns
returns c =
    then (piece _ (omega arith) c.put_word-a.ensures)
    (piece NATURAL_TEXT (length_natural 19 c.args.n (omega arith)) c.put_natural.ensures)
