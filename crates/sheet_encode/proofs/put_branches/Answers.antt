-- `sheet_encode::put_branches` meets its contract: cursor and queue, and then the ways.
use native.Mathlib.Omega.{arith}
use lib.ListN.{length-set}
use Rattle.sheet_operator.specs.Memory.{ways}
use Rattle.sheet_encode.proofs.Bodies.{sets_two_and}
use Rattle.sheet_encode.proofs.put_branches.Goals as goal

pub bounds-s-at-2 : goal.bounds-s-at-2
bounds-s-at-2 c = simp length-set (omega arith)

pub put_ways-requires : goal.put_ways-requires
put_ways-requires c = simp length-set (omega arith, omega arith)

pub shape_of-s : goal.shape_of-s
shape_of-s c = simp length-set at c.put_ways.auto.s

pub returns : goal.returns
returns c =
    let a = c.args in
    sets_two_and a.s.now _ a.at a.cursor a.one (ways a.n a.queues) c.put_ways.ensures
