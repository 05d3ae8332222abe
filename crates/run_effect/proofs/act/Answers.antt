-- `run_effect::act` meets its contract, kind by kind. Assumes nothing.
use mathlib.Core.Path.{ap, ◌∙◌}
use lib.ListN.{get_or}
use Rattle.sheet_operator.specs.declared.Kind.TheVariants.{Line, Double}
use Rattle.sheet_operator.specs.Op.{Op}
use Rattle.sheet_operator.proofs.ViewLaws.{by_kind}
use Rattle.run_effect.specs.Effect.{line_result, effect}
use Rattle.run_effect.proofs.Arms.{deal_test, gather_test, latest_effect, deal_effect, gather_effect}
use borrow.Author.Rules.{rules}
use Rattle.run_effect.proofs.act.Goals as goal

pub cursor-c-requires : goal.cursor-c-requires
cursor-c-requires c =
    (c.requires.0.variable, deal_test c.args.o c.args.vars (search rules) ∙ c.requires.1)

pub move_on-requires : goal.move_on-requires
move_on-requires c =
    (c.requires.0.variable, deal_test c.args.o c.args.vars (search rules) ∙ c.requires.1)

pub move_on-requires-in-Gather : goal.move_on-requires-in-Gather
move_on-requires-in-Gather c =
    (c.requires.0.variable, gather_test c.args.o c.args.vars (search rules) ∙ c.requires.1)

pub returns-in-Line : goal.returns-in-Line
unfolding effect
returns-in-Line c =
    let a = c.args in
    c.line_effect.ensures ∙ ap (line_result (get_or a.o.outs 0 0)) c.run_line.ensures
    ∙ by_kind (λ (y : Op). effect y a.x a.vars) a.o Line (search rules)

pub returns-in-Latest : goal.returns-in-Latest
returns-in-Latest c =
    let a = c.args in
    let u = c.latest in
    c.to-in-Latest.ensures ∙ latest_effect a.o a.vars (search rules) a.x u.result u.ensures

pub returns-in-Double : goal.returns-in-Double
unfolding effect
returns-in-Double c =
    let a = c.args in
    c.to-in-Double.ensures ∙ by_kind (λ (y : Op). effect y a.x a.vars) a.o Double (search rules)

pub returns-in-Deal : goal.returns-in-Deal
returns-in-Deal c =
    let a = c.args in
    let n = c.cursor-c in
    let u = c.move_on in
    c.to-in-Deal.ensures ∙ deal_effect a.o a.vars (search rules) a.x n.result u.result n.ensures.0 n.ensures.1 u.ensures

pub returns-in-Gather : goal.returns-in-Gather
returns-in-Gather c =
    let a = c.args in
    let u = c.move_on-in-Gather in
    c.to-in-Gather.ensures ∙ gather_effect a.o a.vars (search rules) a.x u.result u.ensures
