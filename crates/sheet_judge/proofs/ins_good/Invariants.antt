-- `sheet_judge::ins_good` meets its contract: the loop keeps that every queue passed was good.
use mathlib.Core.Path.{◌≡◌}
use mathlib.Core.Bool.{true, ◌&&◌}
use Prim.Native.Nat.{ℕ, ◌≤◌}
use lib.Dec.{ltb}
use Rattle.base_lists.specs.Lists.{all, has}
use Rattle.sheet_operator.specs.Memory.{ways}
use Rattle.sheet_judge.proofs.ins_good.Given as goal

abbrev pub invariant-loop-j : goal.invariant-loop-j
invariant-loop-j l = (l.j ≤ l.n) × (all (λ (p : ℕ). ltb p l.queues && has l.defined p) (ways l.j l.ps) ≡ true)
