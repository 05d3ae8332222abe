-- `bench_report::put_outputs` meets its contract: the lines of the first q queues are put.
-- Assumes nothing.
use mathlib.Core.Path.{◌≡◌}
use Prim.Native.Nat.{◌≤◌}
use native.Mathlib.Omega.{arith}
use borrow.Author.Rules.{rules}
use lib.ListN.{length}
use Rattle.base_bounds.specs.Bounds.{QUEUES}
use Rattle.bench_report.proofs.Outputs.{printing_goes_on, printing_ends, printing_queues, printing_store, printing_room}
use Rattle.bench_report.proofs.put_outputs.Goals as goal
use Rattle.bench_report.proofs.put_outputs.Goals.{Start}

many : (d : Start) → length d.args.state.counts ≡ QUEUES
many d = search rules

queues : (d : Start) → d.args.t.queues ≤ QUEUES
queues d = printing_queues d.args.t d.args.state d.args.store.now d.requires.1

pub bounds-counts-j : goal.bounds-counts-j
bounds-counts-j c = omega (arith, queues (goal.at.bounds-counts-j c).Start, c.loop-q-test.true)

pub put_output-end-requires : goal.put_output-end-requires
put_output-end-requires c =
    let l = c.loop-q in
    let t = c.loop-q-test.true in (
      omega (arith, c.requires.0, queues (goal.at.put_output-end-requires c).Start, l.invariant.1.most, l.invariant.1.size),
      printing_store c.args.t c.args.state c.args.store.now c.requires.1,
      omega (arith, queues (goal.at.put_output-end-requires c).Start),
      printing_room c.args.t c.args.state c.args.store.now c.requires.1 (many (goal.at.put_output-end-requires c).Start) l.q,
    )

pub loop-q-preserved : goal.loop-q-preserved
loop-q-preserved c =
    let l = c.loop-q in
    printing_goes_on c.args.s.now c.args.at c.args.store.now c.readers-rs.result c.args.state.counts
    c.args.t.queues
    l.s l.end l.q _ c.put_output-end.result c.reader_at-i.result l.invariant c.loop-q-test.true
    c.reader_at-i.ensures
    c.put_output-end.ensures

pub returns : goal.returns
returns c =
    let l = c.loop-q in
    printing_ends c.args.t c.args.state c.args.store.now c.requires.1 _ c.readers-rs.ensures c.args.s.now
    c.args.at
    l.s l.end l.q l.invariant (omega arith)
