-- `runner::take` meets its contract: the test's refusal with all as it was, else what `take_known` answers.
-- Assumes nothing.
use mathlib.Core.Path.{◌≡◌}
use borrow.Author.Rules.{rules}
use Rattle.std.specs.Prelude.{Err}
use Rattle.runner.proofs.Calling.{take_answers, take_refuses}
use Rattle.runner.proofs.take.Goals as goal

pub returns-in_err-stands : goal.returns-in_err-stands
returns-in_err-stands c =
    let a = c.args in
    let e : c.from_residual.result ≡ Err c.in_err-stands.field-0.0 = search rules in
    rw e (take_refuses a.t a.state a.store.now c.in_err-stands.field-0.0 c.in_err-stands.ensures a.q)

pub returns : goal.returns
returns c =
    let a = c.args in
    take_answers a.t a.state a.store.now c.in_ok-stands.ensures c.take_known.new.store a.q _ c.take_known.ensures
