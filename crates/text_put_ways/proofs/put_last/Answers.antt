-- `text_put_ways::put_last` meets its contract: a name, and the mark.
-- Assumes nothing.
use native.Mathlib.Omega.{arith}
use Rattle.text_parts.proofs.Pieces.{piece, then}
use Rattle.text_put_ways.proofs.put_last.Goals as goal

pub returns : goal.returns
returns c = then c.put_byte-a.ensures (piece 1 (omega arith) c.put_word.ensures)
