-- `rewrite_split::parts` meets its contract: the places below m hold what they are to hold, the others what they held.
use mathlib.Core.Path.{◌∙◌}
use native.Mathlib.Omega.{arith}
use Rattle.sheet.proofs.InMemory.{held_sheet}
use Rattle.rewrite_split.proofs.Parting.{new_from, fill_start, fill_more, fill_end, source_line}
use Rattle.rewrite_split.proofs.parts.Goals as goal

pub loop-m-init : goal.loop-m-init
loop-m-init c = (omega arith, λ s h. fill_start c.args.t c.args.i c.args.k s h)

pub piece-requires : goal.piece-requires
piece-requires c = (c.requires.room, source_line c.args.t c.args.i c.args.k c.requires c.loop-m.m c.source.result c.source.ensures)

pub loop-m-preserved : goal.loop-m-preserved
loop-m-preserved c =
    let t = c.args.t in
    let i = c.args.i in
    let k = c.args.k in (
      omega arith,
      λ s h.
          let x = new_from t i k s h c.loop-m.m c.source.result c.loop-m.invariant.0 c.loop-m-test.true c.source.ensures in
          fill_more t i k s h c.loop-m.m c.loop-m.r c.piece.result c.loop-m-test.true (c.loop-m.invariant.1 s h) (c.piece.ensures ∙ x),
    )

pub returns : goal.returns
returns c =
    let h = held_sheet c.args.t _ c.well_formed.0 in
    fill_end c.args.t c.args.i c.args.k c.requires h c.loop-m.m c.loop-m.r c.loop-m-test.false (c.loop-m.invariant.1 c.requires h)
