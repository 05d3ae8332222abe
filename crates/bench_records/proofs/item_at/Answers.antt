-- `bench_records::item_at` meets its contract: the fields read so far, and then zeros.
-- Assumes nothing.
use mir.Syntax.{w32}
use native.Mathlib.Omega.{arith}
use borrow.Author.Rules.{sfits_of}
use mir.Facts.{to_z-of_z}
use Rattle.bench_records.proofs.RecordLaws.{fields_more, fields_all}
use Rattle.bench_records.proofs.item_at.Goals as goal

pub loop-i-preserved : goal.loop-i-preserved
loop-i-preserved c =
    let l = c.loop-i in (
      omega arith,
      fields_more c.args.s.now c.args.at l.i l.x.f c.int_at-z.result _ (omega arith) l.invariant.1
          c.int_at-z.ensures (to_z-of_z {w = w32} (sfits_of c.int_at-z.type_inv)),
    )

pub returns : goal.returns
returns c =
    fields_all c.args.s.now c.args.at c.loop-i.i c.loop-i.x (omega arith) c.loop-i.invariant.1
