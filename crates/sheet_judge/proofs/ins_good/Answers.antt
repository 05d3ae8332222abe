-- `sheet_judge::ins_good` meets its contract: the loop keeps that every queue passed was good.
use mathlib.Core.Path.{refl, ◌∙◌, sym}
use mathlib.Core.Bool.{◌&&◌}
use Prim.Native.Nat.{ℕ}
use native.Mathlib.Omega.{arith}
use lib.Dec.{ltb}
use lib.ListN.{get_or}
use Rattle.base_lists.specs.Lists.{has}
use Rattle.base_lists.proofs.Tests.{all_more, all_stop}
use Rattle.sheet_operator.proofs.InTurn.{all_end}
use Rattle.sheet_judge.proofs.ins_good.Goals as goal

pub loop-j-init : goal.loop-j-init
loop-j-init c = (omega arith, refl)

pub returns-then-not-in_good : goal.returns-then-not-in_good
returns-then-not-in_good c = sym (all_stop _ _ _ _ c.loop-j-test.true (sym c.in_good.ensures ∙ c.if-not-in_good.true))

pub loop-j-preserved : goal.loop-j-preserved
loop-j-preserved c =
    let a = c.args in (
      omega arith,
      all_more (λ (p : ℕ). ltb p a.queues && has a.defined p) c.loop-j.j (λ (k : ℕ). get_or a.ps k 0) c.loop-j.invariant.1
          (sym c.in_good.ensures ∙ c.if-not-in_good.false),
    )

pub returns : goal.returns
returns c = all_end _ _ _ _ c.loop-j.invariant.0 c.loop-j-test.false c.loop-j.invariant.1
