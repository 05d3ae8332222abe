use native.Mathlib.Omega.{arith}
use mathlib.Core.Path.{refl}
use Rattle.sheet_operator.proofs.ViewLaws.{ready_of_number}
use Rattle.sheet.specs.Sheet.{op_at}
use Rattle.sheet.proofs.Accepted.{accepted_facts, ranges_of_accepted}
use Rattle.text_parts.proofs.Pieces.{putting_starts, putting_goes_on, putting_ends, within}
use Rattle.text_print.proofs.Texts.{items_more}
use Rattle.text_print.proofs.put_items.Goals as goal

pub loop-i-init : goal.loop-i-init
loop-i-init c = putting_starts refl

pub offset_bounds-t-i : goal.offset_bounds-t-i
offset_bounds-t-i c =
    omega (arith, (ranges_of_accepted c.args.t c.requires.0).count)

pub bounds-t-i : goal.bounds-t-i
bounds-t-i c =
    omega (arith, (ranges_of_accepted c.args.t c.requires.0).count)

pub put_item-end-requires : goal.put_item-end-requires
put_item-end-requires c =
    let t = c.args.t in
    let i = c.loop-i.i in (
      ready_of_number (op_at t i) ((accepted_facts t c.requires.0).shaped i c.loop-i-test.true),
      omega (arith, c.requires.1, (ranges_of_accepted t c.requires.0).count),
    )

pub loop-i-preserved : goal.loop-i-preserved
loop-i-preserved c =
    let l = c.loop-i in
    putting_goes_on l.invariant (omega arith) c.put_item-end.ensures (items_more l.i _)

pub returns : goal.returns
returns c =
    within _ (omega (arith, (ranges_of_accepted c.args.t c.requires.0).count)) (putting_ends c.loop-i.invariant (omega arith))
