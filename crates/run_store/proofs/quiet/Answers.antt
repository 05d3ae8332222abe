-- `run_store::quiet` meets its contract: what is left to test is what was asked, and a queue that fails decides it.
use mathlib.Core.Path.{◌≡◌, sym, ap, ◌∙◌}
use mathlib.Core.Bool.{Bool, true, ◌&&◌}
use mathlib.Core.List.{List}
use Prim.Native.Nat.{ℕ, suc, ◌≤◌, ◌<◌}
use native.Mathlib.Numerals.{add-one}
use native.Mathlib.Omega.{arith}
use borrow.Author.Rules.{rules}
use lib.ListN.{length, get_or, drop, drop_of_length-le}
use lib.Seq.{drop-cons}
use lib.IntN.{ℤ}
use Rattle.run_store.specs.Store.{part}
use Rattle.base_bounds.specs.Bounds.{QUEUES}
use Rattle.run_store.specs.Quiet.{quiet_queue, quiet_from}
use Rattle.run_store.proofs.LentParts.{lent_part}
use Rattle.run_store.proofs.quiet.Goals as goal
use Rattle.run_store.proofs.quiet.Goals.{After-quiet_queue}

quiet_step : (s : List ℤ) (ns : List ℕ) (q : ℕ) → q < length ns →
    quiet_from s q (drop q ns) ≡ (quiet_queue (part s q) (get_or ns q 0) && quiet_from s (suc q) (drop (suc q) ns))
unfolding quiet_from
quiet_step s ns q h = ap (quiet_from s q) (drop-cons ns q 0 h)

quiet_end : (s : List ℤ) (ns : List ℕ) (q : ℕ) → length ns ≤ q → quiet_from s q (drop q ns) ≡ true
unfolding quiet_from
quiet_end s ns q h = rw (drop_of_length-le ns h)

-- one turn: what is left is this queue's test and then the rest
turn : (c : After-quiet_queue) →
    let s = c.args.store.now in
    let ns = c.args.counts in
    let q = c.loop-q.q in
    quiet_from s 0 ns ≡ (c.quiet_queue.result && quiet_from s (suc q) (drop (suc q) ns))
turn c =
    let s = c.args.store.now in
    let ns = c.args.counts in
    let q = c.loop-q.q in
    let r : c.quiet_queue.result ≡ quiet_queue (part s q) (get_or ns q 0) =
    c.quiet_queue.ensures ∙ ap (λ (l : List ℤ). quiet_queue l (get_or ns q 0)) (lent_part s q) in
    c.loop-q.invariant.1 ∙ quiet_step s ns q (search rules)
    ∙ ap (λ (b : Bool). b && quiet_from s (suc q) (drop (suc q) ns)) (sym r)

pub returns-then-not-quiet_queue : goal.returns-then-not-quiet_queue
returns-then-not-quiet_queue c = sym (rw c.if-not-quiet_queue.true at (turn (goal.at.returns-then-not-quiet_queue c).After-quiet_queue))

pub loop-q-preserved : goal.loop-q-preserved
loop-q-preserved c = (omega arith, rw add-one (rw c.if-not-quiet_queue.false at (turn (goal.at.loop-q-preserved c).After-quiet_queue)))

pub returns : goal.returns
returns c =
    let a = c.args in
    let l : length a.counts ≡ QUEUES = search rules in
    sym (c.loop-q.invariant.1 ∙ quiet_end a.store.now a.counts c.loop-q.q (omega arith))
