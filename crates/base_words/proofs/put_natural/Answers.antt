-- `base_words::put_natural` meets its contract: the digits are put from the last to the first.
-- Assumes nothing.
use mathlib.Core.Path.{refl, ap}
use Prim.Native.Nat.{ℕ, ◌+◌}
use native.Mathlib.Nat.{div-lt_self}
use native.Mathlib.Omega.{arith}
use lib.Dec.{lit<}
use lib.ListN.{length-set}
use Rattle.base_words.proofs.Digits.{length_some}
use Rattle.base_words.proofs.Putting.{filling_starts, filling_goes_on, filling_place, filling_ends}
use Rattle.base_words.proofs.put_natural.Goals as goal

pub overflow_sub-i : goal.overflow_sub-i
overflow_sub-i c = omega (arith, length_some c.args.n)

pub loop-m-init : goal.loop-m-init
loop-m-init c =
    filling_starts _ c.args.at c.args.n c.width-w.result _
    (omega (arith, length_some c.args.n)) c.width-w.ensures refl

pub overflow_sub-i-in-loop-m : goal.overflow_sub-i-in-loop-m
overflow_sub-i-in-loop-m c = filling_place c.loop-m.invariant c.loop-m-test.true

pub loop-m-smaller : goal.loop-m-smaller
loop-m-smaller c = omega (arith, div-lt_self {n = c.loop-m.m} {k = 10} (omega arith) (lit< tt))

pub loop-m-preserved : goal.loop-m-preserved
loop-m-preserved c = filling_goes_on c.loop-m.invariant c.loop-m-test.true

pub bounds-s-at-2 : goal.bounds-s-at-2
bounds-s-at-2 c =
    omega (arith, c.requires, c.loop-m.invariant.size, length_some c.args.n)

pub overflow_add-result : goal.overflow_add-result
overflow_add-result c = omega (arith, c.requires, c.width-w.ensures)

pub shape_of-s : goal.shape_of-s
shape_of-s c = simp length-set c.loop-m.invariant.size

pub returns : goal.returns
returns c =
    filling_ends c.loop-m.invariant (omega arith) _
    (ap (λ (k : ℕ). c.args.at + k) c.width-w.ensures)
