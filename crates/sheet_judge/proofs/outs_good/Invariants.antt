-- `sheet_judge::outs_good` meets its contract: the loop keeps that every queue passed was below Q.
use mathlib.Core.Path.{◌≡◌}
use mathlib.Core.Bool.{true}
use Prim.Native.Nat.{ℕ, ◌≤◌}
use lib.Dec.{ltb}
use Rattle.base_lists.specs.Lists.{all}
use Rattle.sheet_operator.specs.Memory.{ways}
use Rattle.sheet_judge.proofs.outs_good.Given as goal

abbrev pub invariant-loop-j : goal.invariant-loop-j
invariant-loop-j l = (l.j ≤ l.n) × (all (λ (q : ℕ). ltb q l.queues) (ways l.j l.qs) ≡ true)
