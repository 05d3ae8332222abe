-- `bench_records::fired_queue` meets its contract: cut short 1, kind 2, body length 1, else the queue.
-- Assumes nothing.
use mathlib.Core.Path.{◌≡◌, sym}
use Prim.Native.Nat.{◌+◌, ◌≤◌}
use native.Mathlib.Omega.{arith}
use lib.ListN.{length, drop}
use lib.Seq.{get_or-drop}
use Rattle.sheet_format.specs.Record.{HEADER}
use Rattle.bench_records.specs.Records.{firing_number}
use Rattle.bench_records.proofs.RecordLaws.{not_cut_room, firing_cut, firing_kind_lem, firing_body_lem, firing_good, firing_room}
use Rattle.bench_records.proofs.fired_queue.Goals as goal
use Rattle.bench_records.proofs.fired_queue.Goals.{Else-short_at-ne-FIRING_BODY}

pub returns-then-is_cut : goal.returns-then-is_cut
returns-then-is_cut c =
    record { number = sym (firing_cut c.args.s.now c.args.at c.is_cut.result c.is_cut.ensures c.if-is_cut.true); queue = tt }

pub short_at-requires : goal.short_at-requires
short_at-requires c =
    let r : c.args.at + 4 ≤ length c.args.s.now = not_cut_room c.args.s.now c.args.at _ c.is_cut.ensures
    c.if-is_cut.false in
    omega arith

pub returns-then-short_at-ne-FIRING : goal.returns-then-short_at-ne-FIRING
returns-then-short_at-ne-FIRING c =
    record {
      number =
          sym (firing_kind_lem c.args.s.now c.args.at c.is_cut.result c.is_cut.ensures c.if-is_cut.false
          c.short_at.result
          c.short_at.ensures.0 c.if-short_at-ne-FIRING.true);
      queue = tt;
    }

pub short_at-requires-2 : goal.short_at-requires-2
short_at-requires-2 c =
    let r : c.args.at + 4 ≤ length c.args.s.now =
    not_cut_room c.args.s.now c.args.at _ c.is_cut.ensures c.if-is_cut.false in
    omega arith

pub returns-then-short_at-ne-FIRING_BODY : goal.returns-then-short_at-ne-FIRING_BODY
returns-then-short_at-ne-FIRING_BODY c =
    record {
      number =
          sym (firing_body_lem c.args.s.now c.args.at c.is_cut.result c.is_cut.ensures c.if-is_cut.false c.short_at.result
          c.short_at.ensures.0 c.if-short_at-ne-FIRING.false c.short_at-2.result c.short_at-2.ensures.0 c.if-short_at-ne-FIRING_BODY.true);
      queue = tt;
    }

good : (c : Else-short_at-ne-FIRING_BODY) → firing_number (drop c.args.at c.args.s.now) ≡ 0
good c =
    firing_good c.args.s.now c.args.at c.is_cut.result c.is_cut.ensures c.if-is_cut.false c.short_at.result
    c.short_at.ensures.0 c.if-short_at-ne-FIRING.false c.short_at-2.result c.short_at-2.ensures.0 c.if-short_at-ne-FIRING_BODY.false

pub bounds-s-at : goal.bounds-s-at
bounds-s-at c =
    omega (arith, firing_room c.args.s.now c.args.at (good (goal.at.bounds-s-at c).Else-short_at-ne-FIRING_BODY))

pub returns : goal.returns
returns c =
    record {
      number = sym (good (goal.at.returns c).Else-short_at-ne-FIRING_BODY);
      queue = sym (get_or-drop c.args.at c.args.s.now HEADER 0);
    }
