-- `run_effect::has_to_wait` meets its contract: only a gather may have to wait. Assumes nothing.
use mathlib.Core.Path.{◌∙◌}
use Rattle.run_effect.proofs.Arms.{gather_test, gather_waits}
use borrow.Author.Rules.{rules}
use Rattle.run_effect.proofs.has_to_wait.Goals as goal

pub cursor-requires : goal.cursor-requires
cursor-requires c = (c.requires.0.variable, gather_test c.args.o c.args.vars (search rules) ∙ c.requires.1)

pub returns-in-Gather : goal.returns-in-Gather
returns-in-Gather c =
    let a = c.args in
    gather_waits a.o a.vars (search rules) a.q c.cursor.result c.cursor.ensures.0 c.cursor.ensures.1
