-- `sheet_judge::all_defined` meets its contract: the loop keeps that every queue passed is defined.
use mathlib.Core.Path.{◌≡◌}
use mathlib.Core.Bool.{true}
use Prim.Native.Nat.{ℕ, ◌≤◌}
use Rattle.base_lists.specs.Lists.{build, all, has}
use Rattle.sheet_judge.proofs.all_defined.Given as goal

abbrev pub invariant-loop-q : goal.invariant-loop-q
invariant-loop-q l = (l.q ≤ l.queues) × (all (has l.seen.defined) (build l.q (λ (k : ℕ). k)) ≡ true)
