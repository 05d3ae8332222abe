-- `bench_lines::put_refusal` meets its contract: one piece after another.
-- Assumes nothing.
use native.Mathlib.Omega.{arith}
use Rattle.base_words.proofs.Digits.{length_natural}
use Rattle.bench_lines.specs.Lines.{refusal_line}
use Rattle.bench_lines.proofs.Pieces.{piece, byte, then, whole}
use Rattle.bench_lines.proofs.put_refusal.Goals as goal

pub put_natural-b-requires : goal.put_natural-b-requires
put_natural-b-requires c =
    let p = piece 8 (omega arith) c.put_word-a.ensures in
    omega (arith, length_natural 2 c.args.number (omega arith), c.requires)

pub put_word-d-requires : goal.put_word-d-requires
put_word-d-requires c =
    let p = piece 8 (omega arith) c.put_word-a.ensures in
    let n = piece 3 (length_natural 2 c.args.number (omega arith)) c.put_natural-b.ensures in
    omega (arith, c.requires)

pub put_natural-e-requires : goal.put_natural-e-requires
put_natural-e-requires c =
    let p = piece 8 (omega arith) c.put_word-a.ensures in
    let n = piece 3 (length_natural 2 c.args.number (omega arith)) c.put_natural-b.ensures in
    let o = piece 11 (omega arith) c.put_word-d.ensures in
    omega (arith, length_natural 19 c.args.spot (omega arith), c.requires)

pub bounds-s-e : goal.bounds-s-e
bounds-s-e c =
    let p = piece 8 (omega arith) c.put_word-a.ensures in
    let n = piece 3 (length_natural 2 c.args.number (omega arith)) c.put_natural-b.ensures in
    let o = piece 11 (omega arith) c.put_word-d.ensures in
    let m = piece 20 (length_natural 19 c.args.spot (omega arith)) c.put_natural-e.ensures in
    omega (arith, c.requires)

pub overflow_add-result : goal.overflow_add-result
overflow_add-result c =
    let p = piece 8 (omega arith) c.put_word-a.ensures in
    let n = piece 3 (length_natural 2 c.args.number (omega arith)) c.put_natural-b.ensures in
    let o = piece 11 (omega arith) c.put_word-d.ensures in
    let m = piece 20 (length_natural 19 c.args.spot (omega arith)) c.put_natural-e.ensures in
    omega (arith, c.requires)

pub returns : goal.returns
unfolding refusal_line
returns c =
    let p = piece 8 (omega arith) c.put_word-a.ensures in
    let n = piece 3 (length_natural 2 c.args.number (omega arith)) c.put_natural-b.ensures in
    let o = piece 11 (omega arith) c.put_word-d.ensures in
    let m = piece 20 (length_natural 19 c.args.spot (omega arith)) c.put_natural-e.ensures in
    whole 68 (omega arith) (then p (then n (then o (then m (byte 10 _ _)))))
