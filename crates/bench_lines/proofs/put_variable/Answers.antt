-- `bench_lines::put_variable` meets its contract: one piece after another.
-- Assumes nothing.
use mir.Syntax.{w32}
use native.Mathlib.Omega.{arith}
use mir.Facts.{to_z-of_z}
use Rattle.base_words.proofs.Digits.{length_natural}
use Rattle.bench_lines.specs.Lines.{variable_line}
use Rattle.bench_lines.proofs.Pieces.{piece, piece_of, byte, then, whole}
use Rattle.bench_lines.proofs.put_variable.Goals as goal

pub put_natural-b-requires : goal.put_natural-b-requires
put_natural-b-requires c =
    let p = piece 2 (omega arith) c.put_word-a.ensures in
    omega (arith, length_natural 19 c.args.v (omega arith), c.requires)

pub put_spaced-e-requires : goal.put_spaced-e-requires
put_spaced-e-requires c =
    let p = piece 2 (omega arith) c.put_word-a.ensures in
    let n = piece 20 (length_natural 19 c.args.v (omega arith)) c.put_natural-b.ensures in
    omega (arith, c.requires)

pub bounds-s-e : goal.bounds-s-e
bounds-s-e c =
    let p = piece 2 (omega arith) c.put_word-a.ensures in
    let n = piece 20 (length_natural 19 c.args.v (omega arith)) c.put_natural-b.ensures in
    let o = piece_of c.put_spaced-e.ensures in
    omega (arith, c.requires)

pub overflow_add-result : goal.overflow_add-result
overflow_add-result c =
    let p = piece 2 (omega arith) c.put_word-a.ensures in
    let n = piece 20 (length_natural 19 c.args.v (omega arith)) c.put_natural-b.ensures in
    let o = piece_of c.put_spaced-e.ensures in
    omega (arith, c.requires)

pub returns : goal.returns
unfolding variable_line
returns c =
    let p = piece 2 (omega arith) c.put_word-a.ensures in
    let n = piece 20 (length_natural 19 c.args.v (omega arith)) c.put_natural-b.ensures in
    let o = piece_of (rw (to_z-of_z {w = w32} c.ranges.z) at c.put_spaced-e.ensures) in
    whole 68 (omega arith) (then p (then n (then o (byte 10 _ _))))
