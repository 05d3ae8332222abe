-- `bench_lines::put_fields` meets its contract: the first i fields are put.
-- Assumes nothing.
use mir.Syntax.{w32}
use mathlib.Core.Path.{◌≡◌, ap, sym, ◌∙◌}
use mathlib.Core.List.{◌++◌}
use borrow.Author.Rules.{rules}
use lib.ListN.{get_or, take}
use lib.IntN.{ℤ, pos}
use mir.Val.{to_z, of_z}
use Rattle.base_lists.specs.Lists.{chain}
use Rattle.bench_lines.specs.Lines.{spaced, SPACED}
use Rattle.bench_lines.proofs.Pieces.{piece_of, pieces_more}
use Rattle.bench_lines.proofs.LineLaws.{chain_take}
use Rattle.bench_lines.proofs.put_fields.Goals as goal

pub loop-z-preserved : goal.loop-z-preserved
loop-z-preserved c =
    let l = c.loop-z in
    let k = l.z-index in
    let fs = c.args.fields.now in
    let back : to_z w32 (of_z w32 (get_or fs k (pos 0))) ≡ get_or fs k (pos 0) = search rules in
    let e = chain_take spaced fs (pos 0) k c.loop-z-test.true
    ∙ ap (λ (z : ℤ). chain spaced (take k fs) ++ spaced z) (sym back) in
    pieces_more SPACED k _ l.invariant (piece_of c.put_spaced-end.ensures) e
