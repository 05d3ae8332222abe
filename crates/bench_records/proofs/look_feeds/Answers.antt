-- `bench_records::look_feeds` meets its contract: between two records the counts are those of a machine that was fed so far.
-- Assumes nothing.
use mathlib.Core.Path.{◌≡◌, refl, sym, ◌∙◌}
use Prim.Native.Nat.{◌<◌}
use native.Mathlib.Omega.{arith}
use lib.ListN.{get_or, drop}
use Rattle.std.specs.Prelude.{Some}
use Rattle.base_refusal.specs.Refusal.{refusal}
use Rattle.bench_records.proofs.RecordLaws.{feed_room}
use Rattle.bench_records.proofs.Looking.{number_none, looking_starts, looking_ends, looking_stops, looking_goes_on}
use Rattle.bench_records.proofs.look_feeds.Goals as goal

pub loop-t-init : goal.loop-t-init
loop-t-init c =
    looking_starts c.args.t c.args.s.now c.args.from _ c.requires.0 c.requires.1 refl _ refl

pub returns-in-Err : goal.returns-in-Err
returns-in-Err c =
    let told : c.at.result ≡ refusal c.in-Err.reason (Some c.loop-t.spot) = c.at.ensures in
    rw told (looking_stops c.loop-t.invariant (sym c.is_feed.ensures ∙ c.loop-t-test.true) c.in-Err.reason c.in-Err.ensures)

-- a feed that is not refused: its queue, and the room there
pub bounds-counts-q : goal.bounds-counts-q
bounds-counts-q c =
    let l = c.loop-t in
    let p = number_none c.args.t.inputs l.counts (drop l.at c.args.s.now) (sym c.in-Ok.ensures.number) in
    omega (arith, p.1, l.invariant.inputs, c.in-Ok.ensures.queue)

pub overflow_add-counts : goal.overflow_add-counts
overflow_add-counts c =
    let l = c.loop-t in
    let p = number_none c.args.t.inputs l.counts (drop l.at c.args.s.now) (sym c.in-Ok.ensures.number) in
    let n : get_or l.counts c.in-Ok.q 0 < 64 = rw c.in-Ok.ensures.queue p.2 in
    omega arith

pub bounds-counts-q-in-Ok : goal.bounds-counts-q-in-Ok
bounds-counts-q-in-Ok c =
    let l = c.loop-t in
    let p = number_none c.args.t.inputs l.counts (drop l.at c.args.s.now) (sym c.in-Ok.ensures.number) in
    omega (arith, p.1, l.invariant.inputs, c.in-Ok.ensures.queue)

pub loop-t-smaller : goal.loop-t-smaller
loop-t-smaller c =
    omega (arith, (feed_room c.args.s.now c.loop-t.at (sym c.is_feed.ensures ∙ c.loop-t-test.true)).0)

pub loop-t-preserved : goal.loop-t-preserved
loop-t-preserved c =
    looking_goes_on c.loop-t.invariant (sym c.is_feed.ensures ∙ c.loop-t-test.true) c.in-Ok.q c.in-Ok.ensures

pub returns : goal.returns
returns c = looking_ends c.loop-t.invariant (sym c.is_feed.ensures ∙ c.loop-t-test.false)
