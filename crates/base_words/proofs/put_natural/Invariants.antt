-- `base_words::put_natural` meets its contract: the digits are put from the last to the first.
-- Assumes nothing.
use Rattle.base_words.proofs.Putting.{Filling}
use Rattle.base_words.proofs.put_natural.Given as goal

abbrev pub invariant-loop-m : goal.invariant-loop-m
invariant-loop-m l = Filling l.initial.s l.at l.n l.s l.m l.i

abbrev pub decreases-loop-m : goal.decreases-loop-m
decreases-loop-m l = l.m
