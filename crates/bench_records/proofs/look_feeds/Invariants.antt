-- `bench_records::look_feeds` meets its contract: between two records the counts are those of a machine that was fed so far.
-- Assumes nothing.
use Prim.Native.Nat.{◌-◌}
use lib.ListN.{length}
use Rattle.bench_records.proofs.Looking.{Looking}
use Rattle.bench_records.proofs.look_feeds.Given as goal

abbrev pub invariant-loop-t : goal.invariant-loop-t
invariant-loop-t l = Looking l.t l.s l.from l.counts l.at l.spot

abbrev pub decreases-loop-t : goal.decreases-loop-t
decreases-loop-t l = length l.s - l.at
