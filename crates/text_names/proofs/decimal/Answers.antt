-- `text_names::decimal` meets its contract: what begins with a digit stays below the top.
-- Assumes nothing.
use mathlib.Core.Path.{sym}
use Rattle.text_names.proofs.Small.{here_small}
use Rattle.text_names.proofs.decimal.Goals as goal

pub returns-clause-small : goal.returns-clause-small
returns-clause-small c =
    here_small _ _ _ _ c.args.top _ _ c.requires.1 (sym c.in_ok-first.ensures.reads) (sym c.digits.ensures.1)
