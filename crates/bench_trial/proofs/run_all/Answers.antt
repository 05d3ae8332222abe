-- `bench_trial::run_all` meets its contract: from a fresh start the feeds, and after them the firings.
-- Assumes nothing.
use mathlib.Core.Path.{ap, ◌∙◌}
use lib.ListN.{drop}
use Rattle.sheet.specs.Sheet.{view_sheet}
use Rattle.run_machine.specs.Machine.{Machine, run_m}
use Rattle.run_machine.specs.Calls.{fresh_state}
use Rattle.bench_records.specs.Records.{all_fed}
use Rattle.bench_records.specs.Looks.{feeds_after}
use Rattle.bench_trial.proofs.Ending.{same_end, fresh_taken, fresh_stands, fresh_start, fed_from_start}
use Rattle.bench_trial.proofs.run_all.Goals as goal

pub returns-in_err-state : goal.returns-in_err-state
returns-in_err-state c = absurd (fresh_taken fresh_state _ c.requires.1 (c.in_err-state.ensures fresh_state))

pub feed_all-st-requires : goal.feed_all-st-requires
feed_all-st-requires c =
    let t = c.args.t in
    let a = c.in_ok-state.ensures fresh_state in
    record {
      stands = fresh_stands t c.requires.0.sheet _ _ c.requires.1 a;
      inside = c.requires.0.inside;
      all = ap (λ (m : Machine). all_fed (feeds_after t m (drop c.args.end c.args.s.now))) (fresh_start t c.requires.0.sheet _ _ c.requires.1 a)
          ∙ c.requires.2;
    }

pub returns : goal.returns
returns c =
    let t = c.args.t in
    let z = fresh_start t c.requires.0.sheet _ _ c.requires.1 (c.in_ok-state.ensures fresh_state) in
    let e = fed_from_start t (drop c.args.end c.args.s.now) c.feed_all-st.ensures.machine z in
    same_end (view_sheet t) _ _ (ap (λ (m : Machine). run_m (view_sheet t) c.args.list.now m) e) _ _ c.run_list.ensures
