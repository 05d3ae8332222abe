-- What reading a line's steps answers.
use Rattle.std.specs.Prelude.{◌≤◌, ◌≡◌, List}
use Rattle.base_lists.specs.Lists.{pad}
use Rattle.sheet_step.specs.Step.{no_step}
use Rattle.sheet_step.specs.declared.Step.{Step}
use Rattle.sheet_operator.specs.Memory.{PLACES, steps_in}
use Rattle.text_steps.specs.declared.HeldSteps.{HeldSteps}

-- the steps that were read, and no step in the places behind them
abbrev pub steps_of : HeldSteps → List Step
steps_of h = steps_in h.count h.steps

pub record Filled (h : HeldSteps) : Type 0 where
  pub small : h.count ≤ PLACES
  pub places : h.steps ≡ pad PLACES no_step (steps_of h)
