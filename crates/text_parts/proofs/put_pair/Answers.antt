-- `text_parts::put_pair` meets its contract: one piece after another.
-- Assumes nothing.
use native.Mathlib.Omega.{arith}
use Rattle.text_parts.proofs.Pieces.{piece, then, within}
use Rattle.text_parts.proofs.put_pair.Goals as goal

pub returns : goal.returns
returns c =
    let first = c.put_byte-a in
    let second = c.put_byte-b in
    within _ (omega arith) (then first.ensures (then second.ensures (piece 1 (omega arith) c.put_word.ensures)))
