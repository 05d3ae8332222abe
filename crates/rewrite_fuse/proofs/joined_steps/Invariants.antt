-- `rewrite_fuse::joined_steps` meets its contract: the places hold the first steps and those of the second line passed.
use mathlib.Core.Path.{◌≡◌}
use mathlib.Core.List.{List, ◌++◌}
use Prim.Native.Nat.{ℕ, ◌≤◌}
use Rattle.base_lists.specs.Lists.{pad}
use Rattle.sheet_step.specs.Step.{no_step}
use Rattle.sheet_step.specs.declared.Step.{Step}
use Rattle.sheet_operator.specs.Memory.{PLACES, steps_in}
use Rattle.rewrite_fuse.proofs.joined_steps.Given as goal

abbrev pub joined_to : List Step → ℕ → List Step → ℕ → List Step
joined_to ss n ts k = pad PLACES no_step (steps_in n ss ++ steps_in k ts)

abbrev pub invariant-loop-k : goal.invariant-loop-k
invariant-loop-k l = (l.k ≤ l.m) × (l.r ≡ joined_to l.initial.r l.n l.ts l.k)
