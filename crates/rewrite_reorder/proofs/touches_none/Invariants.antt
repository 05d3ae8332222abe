-- `rewrite_reorder::touches_none` meets its contract: the loop keeps that no step passed takes a variable.
use mathlib.Core.Path.{◌≡◌}
use mathlib.Core.Bool.{true}
use Prim.Native.Nat.{◌≤◌}
use Rattle.base_lists.specs.Lists.{all}
use Rattle.sheet_operator.specs.Memory.{steps_in}
use Rattle.rewrite_rules.specs.Rewrite.{touches_none}
use Rattle.rewrite_reorder.proofs.touches_none.Given as goal

abbrev pub invariant-loop-k : goal.invariant-loop-k
invariant-loop-k l = (l.k ≤ l.o.count) × (all touches_none (steps_in l.k l.o.steps) ≡ true)
