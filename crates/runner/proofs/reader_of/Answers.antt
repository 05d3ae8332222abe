-- `runner::reader_of` meets its contract: the check's refusal, else what the table of readers has for the queue.
-- Assumes nothing.
use mathlib.Core.Path.{◌≡◌, sym}
use borrow.Author.Rules.{rules}
use Rattle.std.specs.Prelude.{Err}
use Rattle.runner.proofs.Asking.{reader_found, reader_none, reader_refuses}
use Rattle.runner.proofs.reader_of.Goals as goal

pub returns-in_err-check : goal.returns-in_err-check
returns-in_err-check c =
    let e : c.from_residual.result ≡ Err c.in_err-check.field-0.0 = search rules in
    rw e (reader_refuses c.args.t c.args.q c.in_err-check.field-0.0 c.in_err-check.ensures)

pub returns-then-place-ge-OPERATORS : goal.returns-then-place-ge-OPERATORS
returns-then-place-ge-OPERATORS c =
    rw c.into.ensures
    (reader_none c.args.t c.args.q (sym c.in_ok-check.ensures) c.readers-readers.result c.reader_at-place.result
    c.readers-readers.ensures c.reader_at-place.ensures c.if-place-ge-OPERATORS.true)

pub returns : goal.returns
returns c =
    reader_found c.args.t c.args.q (sym c.in_ok-check.ensures) c.readers-readers.result c.reader_at-place.result
    c.readers-readers.ensures c.reader_at-place.ensures c.if-place-ge-OPERATORS.false
