-- `runner::feed` meets its contract: the answer of the test of sheet, state and store, or, where that accepts, what `feed_known` answers.
-- Assumes nothing.
use mathlib.Core.Path.{◌≡◌}
use borrow.Author.Rules.{rules}
use Rattle.std.specs.Prelude.{Err}
use Rattle.runner.proofs.Calling.{feed_answers, feed_refuses}
use Rattle.runner.proofs.feed.Goals as goal

pub returns-in_err-stands : goal.returns-in_err-stands
returns-in_err-stands c =
    let a = c.args in
    let e : c.from_residual.result ≡ Err c.in_err-stands.field-0.0 = search rules in
    rw e (feed_refuses a.t a.state a.store.now c.in_err-stands.field-0.0 c.in_err-stands.ensures a.q a.x)

pub returns : goal.returns
returns c =
    let a = c.args in
    feed_answers a.t a.state a.store.now c.in_ok-stands.ensures c.feed_known.new.store a.q a.x _ c.feed_known.ensures
