-- `base_words::width` meets its contract: each turn takes one digit away and counts it.
-- Assumes nothing.
use native.Mathlib.Nat.{div-lt_self}
use native.Mathlib.Omega.{arith}
use lib.Dec.{lit<}
use Rattle.base_words.proofs.Digits.{length_small, length_more, length_natural}
use Rattle.base_words.proofs.width.Goals as goal

pub overflow_add-w : goal.overflow_add-w
overflow_add-w c = omega (arith, length_natural 19 c.args.n (omega arith))

pub loop-m-smaller : goal.loop-m-smaller
loop-m-smaller c = omega (arith, div-lt_self {n = c.loop-m.m} {k = 10} (omega arith) (lit< tt))

pub loop-m-preserved : goal.loop-m-preserved
loop-m-preserved c = omega (arith, length_more c.loop-m.m (omega arith))

pub returns : goal.returns
returns c = omega (arith, length_small c.loop-m.m (omega arith))
