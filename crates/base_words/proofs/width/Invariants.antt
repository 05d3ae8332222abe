-- `base_words::width` meets its contract: each turn takes one digit away and counts it.
-- Assumes nothing.
use mathlib.Core.Path.{◌≡◌}
use Prim.Native.Nat.{◌+◌}
use lib.ListN.{length}
use Rattle.base_words.specs.Text.{natural}
use Rattle.base_words.proofs.width.Given as goal

abbrev pub invariant-loop-m : goal.invariant-loop-m
invariant-loop-m l = length (natural l.n) + 1 ≡ l.w + length (natural l.m)

abbrev pub decreases-loop-m : goal.decreases-loop-m
decreases-loop-m l = l.m
