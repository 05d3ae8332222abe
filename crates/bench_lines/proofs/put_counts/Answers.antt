-- `bench_lines::put_counts` meets its contract: one piece after another.
-- Assumes nothing.
use native.Mathlib.Omega.{arith}
use Rattle.base_words.proofs.Digits.{length_natural}
use Rattle.bench_lines.specs.Lines.{counts_line}
use Rattle.bench_lines.proofs.Pieces.{piece, piece_of, then, whole}
use Rattle.bench_lines.proofs.put_counts.Goals as goal

pub put_natural-b-requires : goal.put_natural-b-requires
put_natural-b-requires c =
    let p = piece 6 (omega arith) c.put_word-a.ensures in
    omega (arith, length_natural 19 c.args.fired (omega arith), c.requires)

pub put_word-d-requires : goal.put_word-d-requires
put_word-d-requires c =
    let p = piece 6 (omega arith) c.put_word-a.ensures in
    let n = piece 20 (length_natural 19 c.args.fired (omega arith)) c.put_natural-b.ensures in
    omega (arith, c.requires)

pub put_natural-e-requires : goal.put_natural-e-requires
put_natural-e-requires c =
    let p = piece 6 (omega arith) c.put_word-a.ensures in
    let n = piece 20 (length_natural 19 c.args.fired (omega arith)) c.put_natural-b.ensures in
    let o = piece 9 (omega arith) c.put_word-d.ensures in
    omega (arith, length_natural 19 c.args.skipped (omega arith), c.requires)

pub put_word-f-requires : goal.put_word-f-requires
put_word-f-requires c =
    let p = piece 6 (omega arith) c.put_word-a.ensures in
    let n = piece 20 (length_natural 19 c.args.fired (omega arith)) c.put_natural-b.ensures in
    let o = piece 9 (omega arith) c.put_word-d.ensures in
    let m = piece 20 (length_natural 19 c.args.skipped (omega arith)) c.put_natural-e.ensures in
    omega (arith, c.requires)

pub put_rest-requires : goal.put_rest-requires
put_rest-requires c =
    let p = piece 6 (omega arith) c.put_word-a.ensures in
    let n = piece 20 (length_natural 19 c.args.fired (omega arith)) c.put_natural-b.ensures in
    let o = piece 9 (omega arith) c.put_word-d.ensures in
    let m = piece 20 (length_natural 19 c.args.skipped (omega arith)) c.put_natural-e.ensures in
    let k = piece 6 (omega arith) c.put_word-f.ensures in
    omega (arith, c.requires)

pub returns : goal.returns
unfolding counts_line
returns c =
    let p = piece 6 (omega arith) c.put_word-a.ensures in
    let n = piece 20 (length_natural 19 c.args.fired (omega arith)) c.put_natural-b.ensures in
    let o = piece 9 (omega arith) c.put_word-d.ensures in
    let m = piece 20 (length_natural 19 c.args.skipped (omega arith)) c.put_natural-e.ensures in
    let k = piece 6 (omega arith) c.put_word-f.ensures in
    whole 68 (omega arith) (then p (then n (then o (then m (then k (piece_of c.put_rest.ensures))))))
