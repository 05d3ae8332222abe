-- `bench_trial::run_list` meets its contract: the run and the ready set from numbers that stand, as a trial ends.
-- Assumes nothing.
use Rattle.bench_trial.proofs.Running.{stands_then, run_ended}
use borrow.Author.Rules.{rules}
use Rattle.bench_trial.proofs.run_list.Goals as goal

pub ready_known-ready-requires : goal.ready_known-ready-requires
ready_known-ready-requires c =
    stands_then c.args.t c.args.state c.args.store.now c.args.list.now c.requires.0 (search rules) (search rules)
    c.run_known-f.ensures

pub returns : goal.returns
returns c =
    run_ended c.args.t c.args.state c.args.store.now c.args.list.now c.requires.0 (search rules) (search rules)
    c.run_known-f.ensures c.requires.1 c.ready_known-ready.result c.ready_known-ready.ensures
