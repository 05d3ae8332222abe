-- `runner::fire` meets its contract: the answer of the test of sheet, state and store, or, where that accepts, what `fire_known` answers.
-- Assumes nothing.
use mathlib.Core.Path.{◌≡◌}
use borrow.Author.Rules.{rules}
use Rattle.std.specs.Prelude.{Err}
use Rattle.runner.proofs.Calling.{fire_answers, fire_refuses}
use Rattle.runner.proofs.fire.Goals as goal

pub returns-in_err-stands : goal.returns-in_err-stands
returns-in_err-stands c =
    let a = c.args in
    let e : c.from_residual.result ≡ Err c.in_err-stands.field-0.0 = search rules in
    rw e (fire_refuses a.t a.state a.store.now c.in_err-stands.field-0.0 c.in_err-stands.ensures a.q)

pub returns : goal.returns
returns c =
    let a = c.args in
    fire_answers a.t a.state a.store.now c.in_ok-stands.ensures c.fire_known.new.store a.q _ c.fire_known.ensures
