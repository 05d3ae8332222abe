-- `text_places::locate` meets its contract: a walk over the bytes.
-- Assumes nothing.
use Rattle.text_places.proofs.Places.{walking_goes_on, walking_ends}
use Rattle.text_places.proofs.locate.Goals as goal

pub loop-b-preserved : goal.loop-b-preserved
loop-b-preserved c =
    let l = c.loop-b in
    walking_goes_on l.invariant c.past-p.result c.loop-b-test.true c.past-p.ensures

pub returns : goal.returns
returns c = walking_ends c.loop-b.invariant c.loop-b-test.false
