-- `rewrite_reorder::steps_left` meets its contract: the loop keeps that every step passed leaves the fields that s writes.
use mathlib.Core.Path.{◌≡◌}
use mathlib.Core.Bool.{true}
use Prim.Native.Nat.{◌≤◌}
use Rattle.base_lists.specs.Lists.{all}
use Rattle.sheet_operator.specs.Memory.{steps_in}
use Rattle.rewrite_reorder.specs.Working.{step_leaves}
use Rattle.rewrite_reorder.proofs.steps_left.Given as goal

abbrev pub invariant-loop-k : goal.invariant-loop-k
invariant-loop-k l = (l.k ≤ l.o.count) × (all (step_leaves l.s) (steps_in l.k l.o.steps) ≡ true)
