-- `rewrite_split::steps_free` meets its contract: the loop keeps that every step passed is one that a split may copy.
use mathlib.Core.Path.{◌≡◌}
use mathlib.Core.Bool.{Bool, true, ◌&&◌}
use Prim.Native.Nat.{◌≤◌}
use Rattle.base_lists.specs.Lists.{all}
use Rattle.sheet_operator.specs.Memory.{steps_in}
use Rattle.sheet_step.specs.declared.Step.{Step}
use Rattle.rewrite_rules.specs.Rewrite.{touches_none, writes_some}
use Rattle.rewrite_split.proofs.steps_free.Given as goal

abbrev pub free : Step → Bool
free t = touches_none t && writes_some t

abbrev pub invariant-loop-j : goal.invariant-loop-j
invariant-loop-j l = (l.j ≤ l.n) × (all free (steps_in l.j l.ss) ≡ true)
