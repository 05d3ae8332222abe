use mathlib.Core.Path.{◌≡◌, ap, ◌∙◌}
use Prim.Native.Nat.{ℕ, ◌-◌}
use native.Mathlib.Omega.{arith}
use Rattle.base_lists.specs.Lists.{build}
use Rattle.text_lists.specs.Names.{kept_of}
use Rattle.text_own.proofs.Loops.{inputs_more}
use Rattle.text_own.proofs.inputs.Goals as goal

pub loop-q-preserved : goal.loop-q-preserved
loop-q-preserved c =
    let l = c.loop-q in
    (omega arith, inputs_more l.names c.with_name-next.result l.q l.invariant.1 c.with_name-next.ensures)

pub returns : goal.returns
returns c =
    let l = c.loop-q in
    let e : l.q ≡ c.args.n = omega arith in
    l.invariant.1 ∙ ap (λ (n : ℕ). kept_of (build n (λ (k : ℕ). k))) e
