-- `sheet_encode::put_ways` meets its contract. The loop's invariant: the first i ways are written.
use mathlib.Core.Path.{◌≡◌, refl, ap, ◌∙◌}
use Prim.Native.Nat.{ℕ}
use native.Mathlib.Omega.{arith}
use lib.ListN.{get_or, length-set}
use lib.Seq.{sets}
use Rattle.base_lists.proofs.Sets.{sets_more}
use Rattle.sheet_operator.specs.Memory.{ways}
use Rattle.sheet_encode.proofs.put_ways.Goals as goal

pub loop-i-init : goal.loop-i-init
loop-i-init c = (omega arith, refl, refl)

pub loop-i-preserved : goal.loop-i-preserved
loop-i-preserved c =
    let at = c.loop-i in
    let more = sets_more c.args.s.now at.s _ c.args.at at.i (λ (k : ℕ). get_or c.args.queues k 0) at.invariant.2 refl in
    (omega arith, simp length-set at.invariant.1, more)

pub shape_of-s : goal.shape_of-s
shape_of-s c = c.loop-i.invariant.1

pub returns : goal.returns
returns c =
    let e : c.loop-i.i ≡ c.args.n = omega arith in
    c.loop-i.invariant.2 ∙ ap (λ (k : ℕ). sets c.args.s.now c.args.at (ways k c.args.queues)) e
