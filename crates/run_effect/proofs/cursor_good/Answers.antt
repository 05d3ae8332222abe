-- `run_effect::cursor_good` meets its contract: a deal's and a gather's cursor is tested. Assumes nothing.
use mathlib.Core.Path.{◌∙◌}
use mathlib.Core.Logic.{⊎_elim}
use Rattle.run_effect.proofs.Arms.{deal_test, gather_test}
use Rattle.run_effect.proofs.cursor_good.Goals as goal

pub returns-in-Deal : goal.returns-in-Deal
returns-in-Deal c =
    let a = c.args in
    let e = c.in_ways.ensures in
    ⊎_elim (λ k. e ∙ deal_test a.o a.vars k) (λ k. e ∙ gather_test a.o a.vars k) c.in-Deal.is
