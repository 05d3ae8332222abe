-- `bench_report::put_output` meets its contract.
-- Assumes nothing.
use mathlib.Core.Path.{ap}
use mathlib.Core.Bool.{not}
use Rattle.bench_report.proofs.Outputs.{some_lines}
use Rattle.bench_report.proofs.put_output.Goals as goal

pub returns : goal.returns
returns c =
    some_lines c.args.output c.args.q c.args.n c.args.store.now c.args.s.now c.args.at _
    c.put_items.result
    (ap not c.if-not-output.false) c.requires.3 c.put_items.ensures
