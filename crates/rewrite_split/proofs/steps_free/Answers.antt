-- `rewrite_split::steps_free` meets its contract: the loop keeps that every step passed is one that a split may copy.
use mathlib.Core.Path.{◌∙◌, sym}
use Rattle.base_lists.proofs.Tests.{all_stop}
use Rattle.rewrite_split.proofs.steps_free.Goals as goal

pub returns-then-not-step_free : goal.returns-then-not-step_free
returns-then-not-step_free c =
    sym (all_stop _ _ _ _ c.loop-j-test.true (sym c.step_free.ensures ∙ c.if-not-step_free.true))
