use Prim.Native.Nat.{◌-◌}
use native.Mathlib.Omega.{arith}
use borrow.Author.Rules.{rules}
use Rattle.text_own.proofs.Loops.{same_more, counts_apart, places_apart, all_same}
use Rattle.text_own.proofs.same_names.Goals as goal

pub returns-then-a-b : goal.returns-then-a-b
returns-then-a-b c = counts_apart c.args.a c.args.b c.if-a-b.true

pub returns-then-ps-k : goal.returns-then-ps-k
returns-then-ps-k c =
    places_apart c.args.a c.args.b (search rules) (search rules) c.if-a-b.false c.loop-k.k c.loop-k-test.true
    c.if-ps-k.true

pub loop-k-preserved : goal.loop-k-preserved
loop-k-preserved c =
    let l = c.loop-k in
    (omega arith, same_more c.args.a.queues c.args.b.queues l.k l.invariant.1 c.if-ps-k.false)

pub returns : goal.returns
returns c =
    let l = c.loop-k in
    all_same c.args.a c.args.b (search rules) (search rules) c.if-a-b.false l.k l.invariant.0 c.loop-k-test.false l.invariant.1
