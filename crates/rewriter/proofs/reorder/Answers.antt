-- `rewriter::reorder` meets its contract: a sheet that is not accepted and calm is refused, and any other is what `reorder_calm` answers.
-- Assumes nothing.
use mathlib.Core.Path.{◌≡◌}
use Rattle.std.proofs.Common.{rules}
use Rattle.std.specs.Prelude.{Err}
use Rattle.sheet.specs.Sheet.{view_sheet}
use Rattle.rewrite_rules.specs.Rewrite.{reorder}
use Rattle.rewriter.specs.Calls.{reorder_of}
use Rattle.rewriter.proofs.Answers.{calm_answers, calm_refuses}
use Rattle.rewriter.proofs.reorder.Goals as goal

pub returns-in_err-calm_stands : goal.returns-in_err-calm_stands
unfolding reorder_of
returns-in_err-calm_stands c =
    let f = c.in_err-calm_stands.field-0.0 in
    let e : c.from_residual.result ≡ Err f = search rules in
    rw e (calm_refuses c.args.t (reorder (view_sheet c.args.t) c.args.a) f c.in_err-calm_stands.ensures)

pub returns : goal.returns
unfolding reorder_of
returns c = calm_answers c.args.t (reorder (view_sheet c.args.t) c.args.a) c.in_ok-calm_stands.ensures c.reorder_calm.ensures
