-- `sheet_judge::all_defined` meets its contract: the loop keeps that every queue passed is defined.
use mathlib.Core.Path.{refl, ◌∙◌, sym}
use Prim.Native.Nat.{ℕ}
use native.Mathlib.Omega.{arith}
use Rattle.base_lists.specs.Lists.{has}
use Rattle.base_lists.proofs.Tests.{all_more, all_stop}
use Rattle.sheet_judge.specs.Judge.{whole}
use Rattle.sheet_operator.proofs.InTurn.{all_end}
use Rattle.sheet_judge.proofs.all_defined.Goals as goal

pub loop-q-init : goal.loop-q-init
loop-q-init c = (omega arith, refl)

pub returns-then-not-flag : goal.returns-then-not-flag
unfolding whole
returns-then-not-flag c =
    sym (all_stop (has c.args.seen.defined) _ c.loop-q.q (λ (k : ℕ). k) c.loop-q-test.true
    (sym c.flag.ensures ∙ c.if-not-flag.true))

pub loop-q-preserved : goal.loop-q-preserved
loop-q-preserved c = (
  omega arith,
  all_more (has c.args.seen.defined) c.loop-q.q (λ (k : ℕ). k) c.loop-q.invariant.1
      (sym c.flag.ensures ∙ c.if-not-flag.false),
)

pub returns : goal.returns
unfolding whole
returns c =
    all_end (has c.args.seen.defined) _ c.loop-q.q (λ (k : ℕ). k) c.loop-q.invariant.0 c.loop-q-test.false c.loop-q.invariant.1
