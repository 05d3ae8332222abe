-- `bench_lines::put_spaced` meets its contract.
-- Assumes nothing.
use mir.Syntax.{w32}
use native.Mathlib.Omega.{arith}
use lib.ListN.{length-set}
use mir.Facts.{to_z-of_z}
use Rattle.base_words.proofs.Digits.{length_integer}
use Rattle.bench_lines.specs.Lines.{SPACED}
use Rattle.bench_lines.proofs.Pieces.{piece, byte, then, whole}
use Rattle.bench_lines.proofs.put_spaced.Goals as goal

pub put_integer-requires : goal.put_integer-requires
put_integer-requires c =
    rw (to_z-of_z {w = w32} c.ranges.z) (simp length-set (omega (arith, length_integer c.args.z c.ranges.z.sfits, c.requires)))

pub returns : goal.returns
returns c =
    let p = rw (to_z-of_z {w = w32} c.ranges.z) at c.put_integer.ensures in
    whole SPACED (omega arith) (then (byte 32 c.args.s.now c.args.at) (piece 11 (length_integer c.args.z c.ranges.z.sfits) p))
