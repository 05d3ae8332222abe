use mathlib.Core.Path.{◌≡◌, ap, ◌∙◌}
use Prim.Native.Nat.{ℕ, ◌-◌}
use native.Mathlib.Omega.{arith}
use Rattle.sheet.specs.Sheet.{view_sheet}
use Rattle.text_lists.specs.Names.{kept_of}
use Rattle.text_own.proofs.Loops.{outputs_to, outputs_more}
use Rattle.text_own.proofs.outputs.Goals as goal

pub loop-q-preserved : goal.loop-q-preserved
loop-q-preserved c =
    let l = c.loop-q in (
      omega arith,
      outputs_more c.args.t c.requires l.names c.with_unread-next.result l.q c.reader_at-i.result c.readers-readers.result
          l.invariant.1 c.loop-q-test.true c.readers-readers.ensures c.reader_at-i.ensures c.with_unread-next.ensures,
    )

pub returns : goal.returns
returns c =
    let l = c.loop-q in
    let t = c.args.t in
    let e : l.q ≡ t.queues = omega arith in
    l.invariant.1 ∙ ap (λ (n : ℕ). kept_of (outputs_to (view_sheet t) n)) e
