-- `text_places::locate` meets its contract: a walk over the bytes.
-- Assumes nothing.
use Prim.Native.Nat.{◌-◌}
use lib.ListN.{length}
use Rattle.text_places.proofs.Places.{Walking}
use Rattle.text_places.proofs.locate.Given as goal

abbrev pub invariant-loop-b : goal.invariant-loop-b
invariant-loop-b l = Walking l.s l.p l.b-index
