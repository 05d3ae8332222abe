use Prim.Native.Nat.{ℕ, ◌-◌}
use mathlib.Core.Path.{◌≡◌, refl, ◌∙◌, ap, sym}
use native.Mathlib.Omega.{arith}
use lib.ListN.{get_or}
use Rattle.base_bounds.specs.Bounds.{OPERATORS}
use Rattle.sheet.specs.Sheet.{missing}
use Rattle.text_sheet.specs.Built.{highest_place}
use Rattle.text_sheet.proofs.HighestLaws.{smaller_right, highest_of_more, highest_reads}
use Rattle.text_sheet.proofs.highest_in.Goals as goal

pub loop-i-init : goal.loop-i-init
loop-i-init c = (omega arith, smaller_right c.args.h.count OPERATORS c.placed-end.ensures, refl)

pub loop-i-preserved : goal.loop-i-preserved
loop-i-preserved c =
    let ops = c.args.h.operators in
    let m = c.highest_input-m.result in (
      omega arith,
      c.loop-i.invariant.1,
      c.highest_place-m.ensures ∙ ap (λ (k : ℕ). highest_place k (get_or ops c.loop-i.i missing)) c.loop-i.invariant.2
          ∙ sym (highest_of_more m c.loop-i.i (λ (k : ℕ). get_or ops k missing)),
    )

pub returns : goal.returns
returns c =
    let a = c.args in
    let e : c.loop-i.i ≡ c.placed-end.result = omega arith in
    highest_reads a.n a.h c.highest_input-m.result c.loop-i.i c.loop-i.m c.loop-i.invariant.2 (e ∙ c.placed-end.ensures)
    c.highest_input-m.ensures
