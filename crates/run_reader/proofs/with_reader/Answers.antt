-- `run_reader::with_reader` meets its contract: the loop keeps that the operator stands as the reader of each in queue passed.
use mathlib.Core.Path.{◌≡◌, ap, ◌∙◌}
use mathlib.Core.List.{List}
use Prim.Native.Nat.{ℕ, ◌<◌}
use native.Mathlib.Omega.{arith}
use lib.Dec.{ltb}
use lib.ListN.{get_or}
use borrow.Author.Tests.{ltb-true}
use Rattle.base_lists.specs.Lists.{all}
use Rattle.base_lists.proofs.Tests.{all_build}
use Rattle.sheet_operator.specs.Memory.{ways}
use Rattle.sheet_judge.proofs.Shapes.{ins_told}
use Rattle.base_bounds.specs.Bounds.{QUEUES}
use Rattle.run_machine.specs.Readers.{readers_with}
use Rattle.run_reader.proofs.with_reader.Goals as goal
use Rattle.run_reader.proofs.with_reader.Goals.{In-loop-j}

-- a queue that the operator reads has a place in the table
small : (c : In-loop-j) → get_or c.args.o.ins c.loop-j.j 0 < QUEUES
small c =
    let a = c.args in
    let s = c.shape_of-s.result in
    ltb-true _ QUEUES
    (all_build (λ (q : ℕ). ltb q QUEUES) s.ins (λ (k : ℕ). get_or a.o.ins k 0)
    (ins_told a.o s c.requires.0 c.shape_of-s.ensures (all (λ (q : ℕ). ltb q QUEUES)) ∙ c.requires.1)
    c.loop-j.j c.loop-j-test.true)

pub bounds-r-o : goal.bounds-r-o
bounds-r-o c = small (goal.at.bounds-r-o c).In-loop-j

pub returns : goal.returns
returns c =
    let a = c.args in
    let n : c.loop-j.j ≡ c.shape_of-s.result.ins = omega arith in
    c.loop-j.invariant.1
    ∙ ap (λ (m : ℕ). readers_with a.readers (ways m a.o.ins) a.i) n
    ∙ ins_told a.o c.shape_of-s.result c.requires.0 c.shape_of-s.ensures (λ (l : List ℕ). readers_with a.readers l a.i)
