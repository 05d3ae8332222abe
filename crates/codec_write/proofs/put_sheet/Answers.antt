-- `codec_write::put_sheet` meets its contract: the buffer has the bytes of the head and of the operators passed at its front.
-- Assumes nothing.
use mathlib.Core.Path.{refl, sym, ◌∙◌}
use Prim.Native.Nat.{◌+◌, ◌≤◌}
use native.Mathlib.Omega.{arith}
use lib.ListN.{length}
use Rattle.sheet_operator.specs.Memory.{view, Ready}
use Rattle.sheet_operator.proofs.ViewLaws.{ready_of_number}
use Rattle.sheet_format.specs.Record.{op_bytes}
use Rattle.sheet_format.proofs.Heads.{HeadRanges, ranges_of_good}
use Rattle.sheet.specs.Sheet.{op_at}
use Rattle.sheet.proofs.Accepted.{accepted_facts}
use Rattle.codec_write.proofs.Writing.{length_none, length_more, length_within, length_head_within, writes_more, writes_all}
use Rattle.codec_write.proofs.put_sheet.Goals as goal
use Rattle.codec_write.proofs.put_sheet.Goals.{In-loop-i, Start}

ranges : (c : Start) → HeadRanges c.args.t.inputs c.args.t.queues c.args.t.variables c.args.t.count
ranges c = ranges_of_good _ _ _ _ (accepted_facts c.args.t c.requires.0).head

ready : (c : In-loop-i) → Ready (op_at c.args.t c.loop-i.i)
ready c =
    ready_of_number (op_at c.args.t c.loop-i.i) ((accepted_facts c.args.t c.requires.0).shaped c.loop-i.i c.loop-i-test.true)

room : (c : In-loop-i) →
    c.loop-i.end + length (op_bytes (view (op_at c.args.t c.loop-i.i)))
    ≤ length c.loop-i.buffer
room c =
    let h = c.put_head.auto.s in
    omega (arith, length_within c.args.t c.loop-i.i c.loop-i-test.true, c.loop-i.invariant.3, c.requires.1)

pub put_head-requires : goal.put_head-requires
put_head-requires c =
    omega (arith, length_head_within c.args.t, c.requires.1)

pub loop-i-init : goal.loop-i-init
loop-i-init c = (omega arith, sym (length_none c.args.t), omega arith, refl, refl)

pub bounds-t-i : goal.bounds-t-i
bounds-t-i c = omega (arith, ranges (goal.at.bounds-t-i c).Start)

pub put-requires : goal.put-requires
put-requires c =
    (ready (goal.at.put-requires c).In-loop-i, room (goal.at.put-requires c).In-loop-i)

pub record_length-end-requires : goal.record_length-end-requires
record_length-end-requires c = ready (goal.at.record_length-end-requires c).In-loop-i

pub loop-i-preserved : goal.loop-i-preserved
loop-i-preserved c =
    let p = c.put in
    let t = c.args.t in (
      omega arith,
      omega (arith, length_more t c.loop-i.i),
      omega arith,
      p.auto.s ∙ c.loop-i.invariant.3,
      writes_more _ c.loop-i.buffer p.new.s t c.loop-i.end c.loop-i.i c.loop-i.invariant.1 c.loop-i.invariant.4 p.ensures,
    )

pub returns : goal.returns
returns c =
    writes_all _ c.loop-i.buffer c.args.buffer.now c.args.t c.loop-i.i (omega arith)
    c.put_head.ensures c.loop-i.invariant.4
