-- `sheet_judge::outs_good` meets its contract: the loop keeps that every queue passed was below Q.
use mathlib.Core.Path.{refl, sym}
use Prim.Native.Nat.{ℕ, ◌≤◌}
use native.Mathlib.Omega.{arith}
use lib.Dec.{ltb}
use lib.ListN.{get_or}
use borrow.Author.Tests.{lt-ltb, le-ltb}
use Rattle.base_lists.proofs.Tests.{all_more, all_stop}
use Rattle.sheet_operator.proofs.InTurn.{all_end}
use Rattle.sheet_judge.proofs.outs_good.Goals as goal

pub loop-j-init : goal.loop-j-init
loop-j-init c = (omega arith, refl)

pub returns-then-queues-qs : goal.returns-then-queues-qs
returns-then-queues-qs c =
    let a = c.args in
    let past : a.queues ≤ get_or a.qs c.loop-j.j 0 = omega arith in
    sym (all_stop _ _ _ _ c.loop-j-test.true (le-ltb _ _ past))

pub loop-j-preserved : goal.loop-j-preserved
loop-j-preserved c =
    let a = c.args in
    (omega arith, all_more (λ (q : ℕ). ltb q a.queues) c.loop-j.j (λ (k : ℕ). get_or a.qs k 0) c.loop-j.invariant.1 (lt-ltb _ _ c.if-queues-qs.false))

pub returns : goal.returns
returns c = all_end _ _ _ _ c.loop-j.invariant.0 c.loop-j-test.false c.loop-j.invariant.1
