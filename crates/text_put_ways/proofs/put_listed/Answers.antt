-- `text_put_ways::put_listed` meets its contract: a word, and the ways.
-- Assumes nothing.
use native.Mathlib.Omega.{arith}
use Rattle.text_parts.proofs.Pieces.{piece, then}
use Rattle.text_put_ways.proofs.put_listed.Goals as goal

pub returns : goal.returns
returns c = then (piece _ (omega arith) c.put_word-a.ensures) c.put_ways.ensures
