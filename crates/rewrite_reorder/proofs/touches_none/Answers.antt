-- `rewrite_reorder::touches_none` meets its contract: the loop keeps that no step passed takes a variable.
use mathlib.Core.Path.{ap, ◌∙◌, sym}
use mathlib.Core.Bool.{not}
use Rattle.base_lists.proofs.Tests.{all_stop}
use Rattle.rewrite_reorder.proofs.touches_none.Goals as goal

pub returns-then-touches_variable : goal.returns-then-touches_variable
returns-then-touches_variable c =
    sym (all_stop _ _ _ _ c.loop-k-test.true (ap not (sym c.touches_variable.ensures ∙ c.if-touches_variable.true)))
