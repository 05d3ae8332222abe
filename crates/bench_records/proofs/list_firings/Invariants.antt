-- `bench_records::list_firings` meets its contract: between two records the list holds what `Listing` says.
-- Assumes nothing.
use Prim.Native.Nat.{◌-◌}
use lib.ListN.{length}
use Rattle.bench_records.proofs.Listing.{Listing}
use Rattle.bench_records.proofs.list_firings.Given as goal

abbrev pub invariant-loop-at : goal.invariant-loop-at
invariant-loop-at l = Listing l.s l.from l.spot l.initial.list l.list l.at l.n

abbrev pub decreases-loop-at : goal.decreases-loop-at
decreases-loop-at l = length l.s - l.at
