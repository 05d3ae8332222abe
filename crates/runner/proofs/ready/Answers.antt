-- `runner::ready` meets its contract: the test's refusal with the empty set, else the set that `ready_known` answers.
-- Assumes nothing.
use mathlib.Core.Path.{◌≡◌}
use borrow.Author.Rules.{rules}
use Rattle.std.specs.Prelude.{Err}
use Rattle.runner.proofs.Calling.{ready_answers, ready_refuses}
use Rattle.runner.proofs.ready.Goals as goal

pub returns-in_err-stands : goal.returns-in_err-stands
returns-in_err-stands c =
    let a = c.args in
    let e : c.from_residual.result ≡ Err c.in_err-stands.field-0.0 = search rules in
    rw e (ready_refuses a.t a.state a.store.now c.in_err-stands.field-0.0 c.in_err-stands.ensures)

pub returns : goal.returns
returns c =
    let a = c.args in
    ready_answers a.t a.state a.store.now c.in_ok-stands.ensures c.ready_known-set.result c.ready_known-set.ensures
