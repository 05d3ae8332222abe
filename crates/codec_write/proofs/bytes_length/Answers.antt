-- `codec_write::bytes_length` meets its contract: the sum is the length of the bytes of the head and of the operators passed.
-- Assumes nothing.
use mathlib.Core.Path.{◌≡◌, ap, sym, ◌∙◌}
use Prim.Native.Nat.{ℕ}
use native.Mathlib.Omega.{arith}
use lib.ListN.{length}
use Rattle.sheet_operator.proofs.ViewLaws.{ready_of_number}
use Rattle.sheet_format.proofs.Heads.{HeadRanges, ranges_of_good}
use Rattle.sheet.specs.Sheet.{op_at}
use Rattle.sheet.proofs.Accepted.{accepted_facts}
use Rattle.codec_write.proofs.Writing.{bytes_to, length_none, length_more, bytes_all}
use Rattle.codec_write.proofs.bytes_length.Goals as goal
use Rattle.codec_write.proofs.bytes_length.Goals.{Start}

ranges : (c : Start) → HeadRanges c.args.t.inputs c.args.t.queues c.args.t.variables c.args.t.count
ranges c = ranges_of_good _ _ _ _ (accepted_facts c.args.t c.requires).head

pub loop-i-init : goal.loop-i-init
loop-i-init c = (omega arith, sym (length_none c.args.t), omega arith)

pub bounds-t-i : goal.bounds-t-i
bounds-t-i c = omega (arith, ranges (goal.at.bounds-t-i c).Start)

pub record_length-sum-requires : goal.record_length-sum-requires
record_length-sum-requires c =
    let t = c.args.t in
    ready_of_number (op_at t c.loop-i.i) ((accepted_facts t c.requires).shaped c.loop-i.i c.loop-i-test.true)

pub loop-i-preserved : goal.loop-i-preserved
loop-i-preserved c =
    (omega arith, omega (arith, length_more c.args.t c.loop-i.i), omega arith)

pub returns : goal.returns
returns c =
    let t = c.args.t in
    let e : c.loop-i.i ≡ t.count = omega arith in
    c.loop-i.invariant.1 ∙ ap (λ (n : ℕ). length (bytes_to t n)) e ∙ ap length (bytes_all t)
