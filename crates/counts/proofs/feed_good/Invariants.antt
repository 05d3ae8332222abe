-- `counts::feed_good` meets its contract: every fed number passed was good.
use mathlib.Core.Path.{◌≡◌}
use mathlib.Core.Bool.{true, cond}
use Prim.Native.Nat.{ℕ, ◌≤◌}
use lib.Dec.{ltb, leb, eqb}
use lib.ListN.{get_or}
use Rattle.base_lists.specs.Lists.{build, all}
use Rattle.base_bounds.specs.Bounds.{QUEUES, ROOM}
use Rattle.counts.proofs.feed_good.Given as goal

abbrev pub invariant-loop-q : goal.invariant-loop-q
invariant-loop-q l =
    (l.q ≤ QUEUES)
    × (all (λ (q : ℕ). cond (ltb q l.inputs) (leb (get_or l.fed q 0) ROOM) (eqb (get_or l.fed q 0) 0)) (build l.q (λ (k : ℕ). k)) ≡ true)
