-- `bench_lines::put_variables` meets its contract: the first i variables are put.
-- Assumes nothing.
use mir.Syntax.{w32}
use mathlib.Core.Path.{◌≡◌, ap, sym, ◌∙◌}
use mathlib.Core.List.{◌++◌}
use native.Mathlib.Omega.{arith}
use borrow.Author.Rules.{rules}
use lib.ListN.{get_or, take}
use lib.IntN.{ℤ, pos}
use mir.Val.{to_z, of_z}
use Rattle.bench_lines.specs.Lines.{variable_line, variable_lines, LINE}
use Rattle.bench_lines.proofs.Pieces.{piece_of, pieces_more}
use Rattle.bench_lines.proofs.LineLaws.{variables_more}
use Rattle.bench_lines.proofs.put_variables.Goals as goal

pub loop-i-preserved : goal.loop-i-preserved
loop-i-preserved c =
    let l = c.loop-i in
    let vs = c.args.vars.now in
    let back : to_z w32 (of_z w32 (get_or vs l.i (pos 0))) ≡ get_or vs l.i (pos 0) = search rules in
    let e = variables_more vs l.i (omega (arith, c.loop-i-test.true, c.requires.1))
    ∙ ap (λ (z : ℤ). variable_lines 0 (take l.i vs) ++ variable_line l.i z) (sym back) in
    (omega (arith, c.loop-i-test.true), pieces_more LINE l.i _ l.invariant.1 (piece_of c.put_variable-end.ensures) e)
