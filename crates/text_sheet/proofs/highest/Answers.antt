use mathlib.Core.Path.{◌≡◌, ap, ◌∙◌, sym}
use Prim.Native.Nat.{ℕ, ◌-◌}
use native.Mathlib.Omega.{arith}
use lib.ListN.{get_or}
use Rattle.text_sheet.specs.Built.{larger, highest_from}
use Rattle.text_sheet.proofs.HighestLaws.{highest_more}
use Rattle.sheet_operator.specs.Memory.{PLACES, ways}
use Rattle.text_sheet.proofs.highest.Goals as goal

pub loop-i-preserved : goal.loop-i-preserved
loop-i-preserved c =
    let a = c.args in (
      omega arith,
      c.larger-h.ensures ∙ ap (λ (k : ℕ). larger k (get_or a.l c.loop-i.i 0)) c.loop-i.invariant.1
          ∙ sym (highest_more a.m c.loop-i.i (λ (k : ℕ). get_or a.l k 0)),
    )

pub returns : goal.returns
returns c =
    let a = c.args in
    let e : c.loop-i.i ≡ PLACES = omega arith in
    c.loop-i.invariant.1 ∙ ap (λ (k : ℕ). highest_from a.m (ways k a.l)) e
