-- `sheet_encode::put_double` meets its contract: three stores, in the order of the body's bytes.
use native.Mathlib.Omega.{arith}
use lib.ListN.{length-set}
use Rattle.sheet_encode.proofs.Bodies.{writes_kind, sets_three}
use Rattle.sheet_encode.proofs.put_double.Goals as goal

pub bounds-s-at-2 : goal.bounds-s-at-2
bounds-s-at-2 c = simp length-set (omega arith)

pub bounds-s-at-3 : goal.bounds-s-at-3
bounds-s-at-3 c = simp length-set (omega arith)

pub returns : goal.returns
returns c =
    writes_kind c.args.o c.args.s.now _ c.args.at c.requires.0 (sets_three c.args.s.now c.args.at _ _ _)
