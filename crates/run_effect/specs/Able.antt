-- What a firing asks of its operator; an accepted sheet's operators have it.
use Rattle.std.specs.Prelude.{◌≡◌, true, ℕ, ◌<◌, get_or}
use Rattle.sheet_step.specs.Step.{no_step, row_of}
use Rattle.base_bounds.specs.Bounds.{FIELDS, VARIABLES}
use Rattle.sheet_step.specs.declared.Step.{Step}
use Rattle.sheet_operator.specs.Memory.{Ready}
use Rattle.sheet_operator.specs.declared.Operator.{Operator}

-- its fields and its variable, if it takes one, are in range
pub record StepAble (s : Step) : Type 0 where
  pub p : s.p < FIELDS
  pub r : s.r < FIELDS
  pub variable : (row_of s.func).variable ≡ true → s.variable < VARIABLES

-- a kind, a count in range, and variable, field and the steps that it counts in range
pub record Able (o : Operator) : Type 0 where
  pub ready : Ready o
  pub variable : o.variable < VARIABLES
  pub field : o.field < FIELDS
  pub steps : (k : ℕ) → k < o.count → StepAble (get_or o.steps k no_step)
