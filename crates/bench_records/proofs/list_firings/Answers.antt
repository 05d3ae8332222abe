-- `bench_records::list_firings` meets its contract: between two records the list holds what `Listing` says.
-- Assumes nothing.
use mathlib.Core.Path.{◌≡◌}
use native.Mathlib.Omega.{arith}
use Rattle.std.specs.Prelude.{Some, ◌+◌}
use Rattle.base_refusal.specs.Refusal.{refusal}
use Rattle.bench_records.proofs.Listing.{listing_goes_on, listing_stops, listing_ends}
use Rattle.bench_records.proofs.list_firings.Goals as goal

pub returns-in-Err : goal.returns-in-Err
returns-in-Err c =
    let told : c.at.result ≡ refusal c.in-Err.reason (Some (c.args.spot + c.loop-at.n)) = c.at.ensures in
    rw told (listing_stops c.loop-at.invariant c.loop-at-test.true c.in-Err.reason c.in-Err.ensures)

pub loop-at-preserved : goal.loop-at-preserved
loop-at-preserved c = listing_goes_on c.loop-at.invariant c.loop-at-test.true c.in-Ok.q c.in-Ok.ensures

pub returns : goal.returns
returns c = listing_ends c.loop-at.invariant (omega arith)
