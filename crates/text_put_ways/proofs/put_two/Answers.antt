-- `text_put_ways::put_two` meets its contract: one piece after the other.
-- Assumes nothing.
use Rattle.text_parts.proofs.Pieces.{then}
use Rattle.text_put_ways.proofs.put_two.Goals as goal

pub returns : goal.returns
returns c = then c.put_byte-a.ensures c.put_byte.ensures
