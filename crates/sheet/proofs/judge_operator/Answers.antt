-- `sheet::judge_operator` meets its contract: an operator whose places are good is one that the judge takes.
use mathlib.Core.Path.{sym}
use native.Mathlib.Omega.{arith}
use Rattle.sheet_operator.proofs.ViewLaws.{ready_of_number}
use Rattle.sheet_format.proofs.Heads.{ranges_of_good}
use Rattle.sheet.proofs.judge_operator.Goals as goal

pub admit-requires : goal.admit-requires
admit-requires c =
    let t = c.args.t in
    let r = ranges_of_good t.inputs t.queues t.variables t.count c.requires in
    (ready_of_number c.args.o (sym c.in_ok-check_places.ensures), omega arith, omega arith)
