-- `codec::again` meets its contract: what was written is read back as the sheet, since every sheet that the program holds is `HeldSheet`.
-- Assumes nothing.
use mathlib.Core.Path.{sym}
use lib.Seq.{length-take-le}
use Rattle.sheet.proofs.InMemory.{held_sheet}
use Rattle.codec.proofs.RoundTrip.{size_in_buffer, again_done, again_refused}
use Rattle.codec.proofs.again.Goals as goal

pub returns-in-Err : goal.returns-in-Err
returns-in-Err c = again_refused _ _ _ _ c.in-Err.ensures

pub slice_bounds-read-end : goal.slice_bounds-read-end
slice_bounds-read-end c = size_in_buffer _ _ _ c.in-Ok.n c.in-Ok.ensures

pub slice_bounds-read-end-in-Ok : goal.slice_bounds-read-end-in-Ok
slice_bounds-read-end-in-Ok c = sym (length-take-le _ _ (size_in_buffer _ _ _ c.in-Ok.n c.in-Ok.ensures))

pub returns-in-Ok : goal.returns-in-Ok
returns-in-Ok c = again_done _ _ _ c.in-Ok.n c.in-Ok.ensures (held_sheet c.args.t _ c.well_formed.0) _ c.read.ensures
