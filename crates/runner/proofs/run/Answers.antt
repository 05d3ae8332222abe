-- `runner::run` meets its contract: where sheet, state and store stand the list is run, and otherwise the refusal is the answer and nothing changes.
-- Assumes nothing.
use mathlib.Core.Path.{◌≡◌}
use borrow.Author.Rules.{rules}
use Rattle.std.specs.Prelude.{Err}
use Rattle.runner.proofs.Calling.{run_answers, run_refuses}
use Rattle.runner.proofs.run.Goals as goal

pub returns-in_err-stands : goal.returns-in_err-stands
returns-in_err-stands c =
    let a = c.args in
    let e : c.from_residual.result ≡ Err c.in_err-stands.field-0.0 = search rules in
    rw e (run_refuses a.t a.state a.store.now c.in_err-stands.field-0.0 c.in_err-stands.ensures a.list.now)

pub returns : goal.returns
returns c =
    let a = c.args in
    run_answers a.t a.state a.store.now c.in_ok-stands.ensures c.run_known.new.store a.list.now _ c.run_known.ensures
