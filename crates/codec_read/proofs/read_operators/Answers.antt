-- `codec_read::read_operators` meets its contract: between two records the reader holds what `ReadTo` says.
-- Assumes nothing.
use native.Mathlib.Omega.{arith}
use Rattle.sheet_decode.proofs.Takes.{head_takes}
use Rattle.codec_read.proofs.Reading.{head_ranges, read_starts, read_stops, read_goes_on, read_ends, read_whole}
use Rattle.codec_read.proofs.ReadEnds.{fronts_stopped, fronts_kept}
use Rattle.codec_read.proofs.read_operators.Goals as goal

pub inputs_seen-seen-requires : goal.inputs_seen-seen-requires
inputs_seen-seen-requires c = omega (arith, head_ranges _ c.args.h (head_takes _ _ c.requires))

pub loop-i-init : goal.loop-i-init
loop-i-init c = read_starts _ c.args.h _ _ (head_takes _ _ c.requires) c.bare-t.ensures c.inputs_seen-seen.ensures

pub returns-in-Err : goal.returns-in-Err
returns-in-Err c =
    let r = c.in-Err.reason in
    fronts_stopped _ _ r _ (read_stops c.loop-i.invariant r c.loop-i-test.true c.in-Err.ensures) c.at.ensures

pub loop-i-preserved : goal.loop-i-preserved
loop-i-preserved c = read_goes_on c.loop-i.invariant c.in-Ok.r c.loop-i-test.true c.in-Ok.ensures

pub returns : goal.returns
returns c =
    let r = c.loop-i.invariant in
    fronts_kept _ r.ops _ _ _ (read_ends r c.loop-i-test.false) r.sheet r.inside (read_whole r _ c.all_defined-whole.ensures)
