-- `sheet_encode::put_line` meets its contract: in and out, and then the steps.
use Prim.Native.Nat.{◌+◌, ◌*◌, ◌≤◌}
use native.Mathlib.Omega.{arith}
use lib.ListN.{length, get_or, length-set}
use Rattle.base_lists.specs.Lists.{chain}
use Rattle.sheet_step.specs.Step.{STEP_BYTES, step_bytes}
use Rattle.sheet_operator.specs.Memory.{steps_in}
use Rattle.sheet_encode.proofs.Bodies.{length_of_line, writes_kind, sets_two_and}
use Rattle.sheet_encode.proofs.put_line.Goals as goal
use Rattle.sheet_encode.proofs.put_line.Goals.{Start}

-- what the body takes, by the count
room : (d : Start) → d.args.at + (2 + STEP_BYTES * d.args.o.count) ≤ length d.args.s.now
room d = omega (arith, length_of_line d.args.o d.requires.0)

pub bounds-s-at : goal.bounds-s-at
bounds-s-at c =
    let e = room (goal.at.bounds-s-at c).Start in omega arith

pub bounds-s-at-2 : goal.bounds-s-at-2
bounds-s-at-2 c =
    let e = room (goal.at.bounds-s-at-2 c).Start in simp length-set (omega arith)

pub put_steps-requires : goal.put_steps-requires
put_steps-requires c =
    let e = room (goal.at.put_steps-requires c).Start in simp length-set (omega arith, omega arith)

pub shape_of-s : goal.shape_of-s
shape_of-s c =
    simp length-set at c.put_steps.auto.s

pub returns : goal.returns
returns c =
    let o = c.args.o in
    let body = sets_two_and c.args.s.now _ c.args.at (get_or o.ins 0 0) (get_or o.outs 0 0) (chain step_bytes (steps_in o.count o.steps)) in
    writes_kind o c.args.s.now _ c.args.at c.requires.0 (body c.put_steps.ensures)
