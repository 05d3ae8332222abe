use mathlib.Core.Path.{◌∙◌}
use Rattle.std.proofs.lemmas.Result.{err_from_is_err_and}
use Rattle.text_lists.proofs.TurnLaws.{turn_on, turn_less}
use Rattle.text_lists.proofs.turns.Goals as goal

pub returns-in_err-t : goal.returns-in_err-t
returns-in_err-t c =
    let r = err_from_is_err_and c.from_residual.result c.from_residual.ensures.1 in
    let e = turn_on c.args.s.now c.loop-t.from c.loop-t.names c.in_err-t.ensures in
    rw (r.1, r.2) (record { within = c.in_err-t.ensures.within; reads = e ∙ c.loop-t.invariant.rest })

pub loop-t-smaller : goal.loop-t-smaller
loop-t-smaller c = turn_less c.args.s.now c.loop-t.from c.loop-t.names c.in_ok-t.ensures

pub loop-t-preserved : goal.loop-t-preserved
loop-t-preserved c =
    let e = turn_on c.args.s.now c.loop-t.from c.loop-t.names c.in_ok-t.ensures in
    record { within = c.in_ok-t.ensures.within; rest = (rw c.in-Again.is at e) ∙ c.loop-t.invariant.rest }

pub returns-in-Last : goal.returns-in-Last
returns-in-Last c =
    let e = turn_on c.args.s.now c.loop-t.from c.loop-t.names c.in_ok-t.ensures in
    record { within = c.in_ok-t.ensures.within; reads = (rw c.in-Last.is at e) ∙ c.loop-t.invariant.rest }
