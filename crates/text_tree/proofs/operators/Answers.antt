use mathlib.Core.Path.{◌≡◌, refl, ap, ◌∙◌}
use native.Mathlib.Omega.{arith}
use borrow.Author.Rules.{rules}
use lib.ListN.{drop}
use Rattle.std.specs.Prelude.{Err}
use Rattle.text_tree.proofs.Held.{stored, operators_kept}
use Rattle.text_tree.proofs.ToEnd.{to_end_of, ends_here, lost_further, read_further, item_less}
use Rattle.text_tree.proofs.operators.Goals as goal

pub returns-then-end-s : goal.returns-then-end-s
returns-then-end-s c =
    let s = c.args.s.now in
    let l = c.loop-held in
    record {
      within = c.skip-end.ensures.0;
      reads = ends_here s l.from l.held c.skip-end.result c.skip-end.ensures.1 c.if-end-s.true ∙ l.invariant.1 ∙ operators_kept (drop c.args.at s);
    }

pub returns-in_err-f : goal.returns-in_err-f
returns-in_err-f c =
    let s = c.args.s.now in
    let l = c.loop-held in
    let g = c.in_err-f.ensures in
    let e : c.from_residual.result ≡ Err c.in_err-f.field-0.0 = search rules in
    rw e (record {
      within = g.within;
      reads = lost_further s l.from l.held c.skip-end.result c.skip-end.ensures.1 (omega (arith, c.skip-end.ensures.0, c.if-end-s.false)) g
          ∙ l.invariant.1 ∙ operators_kept (drop c.args.at s);
    })

pub loop-held-smaller : goal.loop-held-smaller
loop-held-smaller c = item_less c.in_ok-f.ensures

pub loop-held-preserved : goal.loop-held-preserved
loop-held-preserved c =
    let s = c.args.s.now in
    let l = c.loop-held in
    let f = c.in_ok-f in
    let p = c.next_place-p in
    let kept = stored l.held p.result c.next_count.result _ _ f.f.value c.chosen.result p.ensures refl c.chosen.ensures c.next_count.ensures in (
      f.ensures.within,
      ap (to_end_of s f.f.at) kept
          ∙ read_further s l.from l.held c.skip-end.result c.skip-end.ensures.1 (omega (arith, c.skip-end.ensures.0, c.if-end-s.false)) f.ensures
          ∙ l.invariant.1,
    )
