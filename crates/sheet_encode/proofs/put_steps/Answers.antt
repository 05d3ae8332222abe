-- `sheet_encode::put_steps` meets its contract. The loop's invariant: the first i steps are written.
use mathlib.Core.Path.{◌≡◌, refl, ap, ◌∙◌}
use Prim.Native.Nat.{ℕ}
use native.Mathlib.Omega.{arith}
use lib.ListN.{get_or}
use lib.Seq.{sets}
use Rattle.base_lists.specs.Lists.{chain}
use Rattle.sheet_step.specs.Step.{step_bytes, no_step}
use Rattle.sheet_operator.specs.Memory.{steps_in}
use Rattle.sheet_encode.proofs.Writes.{steps_more}
use Rattle.sheet_encode.proofs.put_steps.Goals as goal

pub loop-i-init : goal.loop-i-init
loop-i-init c = (omega arith, refl, refl)

pub loop-i-preserved : goal.loop-i-preserved
loop-i-preserved c =
    let p = c.put_step in
    let more = steps_more c.args.s.now c.loop-i.s p.new.s c.args.at c.loop-i.i (λ (k : ℕ). get_or c.args.steps k no_step) in
    (omega arith, p.auto.s ∙ c.loop-i.invariant.1, more c.loop-i.invariant.2 p.ensures)

pub shape_of-s : goal.shape_of-s
shape_of-s c = c.loop-i.invariant.1

pub returns : goal.returns
returns c =
    let e : c.loop-i.i ≡ c.args.n = omega arith in
    c.loop-i.invariant.2 ∙ ap (λ (k : ℕ). sets c.args.s.now c.args.at (chain step_bytes (steps_in k c.args.steps))) e
