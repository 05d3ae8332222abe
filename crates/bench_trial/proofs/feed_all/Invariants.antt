-- `bench_trial::feed_all` meets its contract: between two records state and store hold what `Feeding` says.
-- Assumes nothing.
use Prim.Native.Nat.{◌-◌}
use lib.ListN.{length}
use Rattle.run_machine.specs.Numbers.{decode}
use Rattle.bench_trial.proofs.Feeding.{Feeding}
use Rattle.bench_trial.proofs.feed_all.Given as goal

abbrev pub invariant-loop-t : goal.invariant-loop-t
invariant-loop-t l = Feeding l.t l.s l.from (decode l.initial.st l.initial.store) l.st l.store l.at

abbrev pub decreases-loop-t : goal.decreases-loop-t
decreases-loop-t l = length l.s - l.at
