-- `counts::feed_good` meets its contract: every fed number passed was good.
use mathlib.Core.Path.{refl, ◌∙◌, sym}
use mathlib.Core.Bool.{Bool, cond}
use mathlib.Core.List.{List}
use Prim.Native.Nat.{ℕ}
use native.Mathlib.Omega.{arith}
use lib.Dec.{ltb, leb, eqb}
use lib.ListN.{get_or}
use Rattle.base_lists.proofs.Tests.{all_more, all_stop}
use Rattle.sheet_operator.proofs.InTurn.{all_end}
use Rattle.base_bounds.specs.Bounds.{QUEUES, ROOM}
use Rattle.counts.specs.Worst.{feed_good}
use Rattle.counts.proofs.feed_good.Goals as goal

-- the test of one queue's number
abbrev test : ℕ → List ℕ → ℕ → Bool
test inputs fed q = cond (ltb q inputs) (leb (get_or fed q 0) ROOM) (eqb (get_or fed q 0) 0)

pub loop-q-init : goal.loop-q-init
loop-q-init c = (omega arith, refl)

pub returns-then-not-fed_good : goal.returns-then-not-fed_good
unfolding feed_good
returns-then-not-fed_good c =
    let a = c.args in
    sym (all_stop (test a.inputs a.fed) QUEUES c.loop-q.q (λ (k : ℕ). k) (omega arith) (sym c.fed_good.ensures ∙ c.if-not-fed_good.true))

pub loop-q-preserved : goal.loop-q-preserved
loop-q-preserved c =
    let a = c.args in (
      omega arith,
      all_more (test a.inputs a.fed) c.loop-q.q (λ (k : ℕ). k) c.loop-q.invariant.1
          (sym c.fed_good.ensures ∙ c.if-not-fed_good.false),
    )

pub returns : goal.returns
unfolding feed_good
returns c =
    all_end (test c.args.inputs c.args.fed) QUEUES c.loop-q.q (λ (k : ℕ). k) c.loop-q.invariant.0 c.loop-q-test.false c.loop-q.invariant.1
