-- `rewrite_reorder::leaves` meets its contract: the loop keeps that no step of p touches a field that the steps of o passed write.
use mathlib.Core.Path.{◌≡◌}
use mathlib.Core.Bool.{Bool, true}
use Prim.Native.Nat.{◌≤◌}
use Rattle.base_lists.specs.Lists.{all}
use Rattle.sheet_operator.specs.Memory.{steps_in}
use Rattle.rewrite_reorder.specs.Working.{step_leaves}
use Rattle.sheet_operator.specs.declared.Operator.{Operator}
use Rattle.sheet_step.specs.declared.Step.{Step}
use Rattle.rewrite_reorder.proofs.leaves.Given as goal

-- a step whose fields the steps of p leave
abbrev pub leaving : Operator → Step → Bool
leaving p s = all (step_leaves s) (steps_in p.count p.steps)

abbrev pub invariant-loop-k : goal.invariant-loop-k
invariant-loop-k l = (l.k ≤ l.o.count) × (all (leaving l.p) (steps_in l.k l.o.steps) ≡ true)
