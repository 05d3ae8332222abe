-- `bench_report::report` meets its contract: a short buffer is refused; else the input is tried and its lines are put.
-- Assumes nothing.
use native.Mathlib.Omega.{arith}
use Rattle.bench_trial.specs.Trial.{trial_of}
use Rattle.bench_trial.proofs.Within.{trial_within}
use Rattle.bench_report.proofs.Printing.{report_short, report_done}
use Rattle.bench_report.proofs.Telling.{tells, shows}
use borrow.Author.Rules.{rules}
use Rattle.bench_report.proofs.report.Goals as goal

pub returns-then-buffer-lt-TEXT : goal.returns-then-buffer-lt-TEXT
returns-then-buffer-lt-TEXT c = rw c.at.ensures (report_short c.args.input.now c.args.buffer.now c.if-buffer-lt-TEXT.true)

pub put_trial-requires : goal.put_trial-requires
put_trial-requires c =
    let i = c.args.input.now in
    let w = trial_within i (λ j. (c.type_inv.input j).fits) in
    (search rules, shows (trial_of i) _ c.try_input-r.result _ c.try_input-r.ensures w)

pub returns : goal.returns
returns c =
    let i = c.args.input.now in
    let w = trial_within i (λ j. (c.type_inv.input j).fits) in
    report_done i c.args.buffer.now _ c.put_trial.result _ (omega arith)
    (tells (trial_of i) _ c.try_input-r.result _ c.try_input-r.ensures w) c.put_trial.ensures
