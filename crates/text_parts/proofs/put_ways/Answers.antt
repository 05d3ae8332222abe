-- `text_parts::put_ways` meets its contract: the first i are put.
-- Assumes nothing.
use native.Mathlib.Omega.{arith}
use Rattle.text_parts.proofs.Pieces.{putting_goes_on}
use Rattle.text_parts.proofs.Listed.{ways_more}
use Rattle.text_parts.proofs.put_ways.Goals as goal

pub loop-i-preserved : goal.loop-i-preserved
loop-i-preserved c =
    let l = c.loop-i in
    putting_goes_on l.invariant (omega arith) c.put_way-end.ensures (ways_more l.i _)
