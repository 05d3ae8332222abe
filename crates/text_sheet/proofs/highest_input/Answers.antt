use mathlib.Core.Path.{◌≡◌, ap, ◌∙◌, sym}
use Prim.Native.Nat.{ℕ, ◌-◌}
use native.Mathlib.Omega.{arith}
use lib.ListN.{get_or}
use Rattle.text_sheet.specs.Built.{larger, highest_from}
use Rattle.text_sheet.proofs.HighestLaws.{highest_more}
use Rattle.base_bounds.specs.Bounds.{INPUTS}
use Rattle.sheet_operator.specs.Memory.{ways}
use Rattle.text_sheet.proofs.highest_input.Goals as goal

pub loop-i-preserved : goal.loop-i-preserved
loop-i-preserved c =
    let q = c.args.n.queues in (
      omega arith,
      c.larger-h.ensures ∙ ap (λ (k : ℕ). larger k (get_or q c.loop-i.i 0)) c.loop-i.invariant.1 ∙ sym (highest_more 0 c.loop-i.i (λ (k : ℕ). get_or q k 0)),
    )

pub returns : goal.returns
returns c =
    let q = c.args.n.queues in
    let e : c.loop-i.i ≡ INPUTS = omega arith in
    c.loop-i.invariant.1 ∙ ap (λ (k : ℕ). highest_from 0 (ways k q)) e
