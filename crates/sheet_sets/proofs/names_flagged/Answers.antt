-- `sheet_sets::names_flagged` meets its contract: each arm adds the names of its kind.
use mathlib.Core.Path.{◌∙◌}
use Rattle.sheet_operator.specs.Op.{names}
use Rattle.sheet_operator.specs.declared.Kind.TheVariants.{Line}
use Rattle.sheet_operator.proofs.ViewLaws.{by_kind}
use Rattle.sheet_sets.proofs.Sets.{set_by, names_flagged}
use Rattle.sheet_sets.proofs.names_flagged.Goals as goal

pub steps_flagged-requires : goal.steps_flagged-requires
steps_flagged-requires c =
    (c.requires.0.small, by_kind names_flagged c.args.o Line c.in-Line.is ∙ c.requires.1)

pub returns-in-Line : goal.returns-in-Line
returns-in-Line c =
    let a = c.args in
    set_by names a.o Line a.s c.steps_flagged.result c.in-Line.is c.steps_flagged.ensures
