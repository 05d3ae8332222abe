-- `bench_records::is_feed` meets its contract: a record that is not cut short, of kind 16.
-- Assumes nothing.
use mathlib.Core.Path.{sym}
use Prim.Native.Nat.{◌+◌, ◌≤◌}
use native.Mathlib.Omega.{arith}
use lib.ListN.{length}
use Rattle.bench_records.proofs.RecordLaws.{feed_cut, feed_kind_lem, not_cut_room}
use Rattle.bench_records.proofs.is_feed.Goals as goal

pub returns-then-is_cut : goal.returns-then-is_cut
returns-then-is_cut c =
    sym (feed_cut c.args.s.now c.args.at c.is_cut.result c.is_cut.ensures c.if-is_cut.true)

pub short_at-requires : goal.short_at-requires
short_at-requires c =
    let r : c.args.at + 4 ≤ length c.args.s.now = not_cut_room c.args.s.now c.args.at _ c.is_cut.ensures
    c.if-is_cut.false in
    omega arith

pub returns : goal.returns
returns c =
    sym (feed_kind_lem c.args.s.now c.args.at _ c.is_cut.ensures c.if-is_cut.false c.short_at.result
    c.short_at.ensures.0)
