-- `run_calls::run_known` meets its contract: each turn runs one entry more, and at the end what was run is the whole list.
-- Assumes nothing.
use native.Mathlib.Omega.{arith}
use lib.ListN.{get_or}
use borrow.Author.Rules.{rules}
use Rattle.run_machine.specs.Numbers.{decode}
use Rattle.run_machine.specs.Working.{state_with}
use Rattle.run_machine.proofs.Found.{fire_as_found, can_fire_as_found}
use Rattle.run_calls.proofs.Running.{running_turn, running_end}
use Rattle.run_calls.proofs.run_known.Goals as goal

pub fire_reader-a-requires : goal.fire_reader-a-requires
fire_reader-a-requires c = (
  c.loop-k.invariant.counts,
  can_fire_as_found c.args.t (search rules) (get_or c.args.list.now c.loop-k.k 0) c.reader_at-i.result c.readers-rs.result
      c.readers-rs.ensures c.reader_at-i.ensures c.get.result c.get.ensures.lookup c.copied-reader.result c.copied-reader.ensures
      (state_with c.loop-k.counts c.loop-k.vars) c.loop-k.store c.loop-k.invariant.stands,
)

pub loop-k-preserved : goal.loop-k-preserved
loop-k-preserved c =
    let f = c.fire_reader-a in
    running_turn c.args.t c.args.state c.args.store.now c.args.list.now (state_with c.loop-k.counts c.loop-k.vars) c.loop-k.store
    c.loop-k.fired c.loop-k.skipped c.loop-k.k c.loop-k.invariant c.copied-reader.result
    (fire_as_found c.args.t (search rules) (get_or c.args.list.now c.loop-k.k 0) c.reader_at-i.result c.readers-rs.result
    c.readers-rs.ensures c.reader_at-i.ensures c.get.result c.get.ensures.lookup c.copied-reader.result c.copied-reader.ensures
    c.loop-k.invariant.stands.sheet (decode (state_with c.loop-k.counts c.loop-k.vars) c.loop-k.store))
    f.result f.new.counts f.new.vars f.new.store c.one_if_done-n.result
    (omega arith) f.ensures c.one_if_done-n.ensures.0

pub returns : goal.returns
returns c =
    running_end c.args.t c.args.state c.args.store.now c.args.list.now (state_with c.loop-k.counts c.loop-k.vars) c.loop-k.store
    c.loop-k.fired c.loop-k.skipped c.loop-k.k c.loop-k.invariant (omega arith)
