-- `bench_lines::put_item` meets its contract: one piece after another.
-- Assumes nothing.
use native.Mathlib.Omega.{arith}
use Rattle.base_words.proofs.Digits.{length_natural}
use Rattle.bench_lines.specs.Lines.{item_line}
use Rattle.bench_lines.proofs.Pieces.{piece, piece_of, byte, then, whole}
use Rattle.bench_lines.proofs.put_item.Goals as goal

pub put_natural-b-requires : goal.put_natural-b-requires
put_natural-b-requires c =
    let p = piece 2 (omega arith) c.put_word-a.ensures in
    omega (arith, length_natural 2 c.args.q (omega arith), c.requires.0)

pub put_fields-e-requires : goal.put_fields-e-requires
put_fields-e-requires c =
    let p = piece 2 (omega arith) c.put_word-a.ensures in
    let n = piece 3 (length_natural 2 c.args.q (omega arith)) c.put_natural-b.ensures in
    omega (arith, c.requires.0, c.requires.1)

pub bounds-s-e : goal.bounds-s-e
bounds-s-e c =
    let p = piece 2 (omega arith) c.put_word-a.ensures in
    let n = piece 3 (length_natural 2 c.args.q (omega arith)) c.put_natural-b.ensures in
    let o = piece_of c.put_fields-e.ensures in
    omega (arith, c.requires.0, c.requires.1)

pub overflow_add-result : goal.overflow_add-result
overflow_add-result c =
    let p = piece 2 (omega arith) c.put_word-a.ensures in
    let n = piece 3 (length_natural 2 c.args.q (omega arith)) c.put_natural-b.ensures in
    let o = piece_of c.put_fields-e.ensures in
    omega (arith, c.requires.0, c.requires.1)

pub returns : goal.returns
unfolding item_line
returns c =
    let p = piece 2 (omega arith) c.put_word-a.ensures in
    let n = piece 3 (length_natural 2 c.args.q (omega arith)) c.put_natural-b.ensures in
    let o = piece_of c.put_fields-e.ensures in
    whole 68 (omega (arith, c.requires.1)) (then p (then n (then o (byte 10 _ _))))
