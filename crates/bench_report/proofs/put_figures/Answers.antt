-- `bench_report::put_figures` meets its contract: the counts, the outputs and the variables.
-- Assumes nothing.
use mathlib.Core.Path.{◌≡◌}
use Prim.Native.Nat.{◌*◌}
use native.Mathlib.Omega.{arith}
use lib.ListN.{length}
use Rattle.base_bounds.specs.Bounds.{VARIABLES, QUEUES, ROOM}
use Rattle.sheet.specs.Sheet.{view_sheet}
use Rattle.sheet.proofs.Accepted.{ranges_of_accepted}
use Rattle.run_machine.specs.Numbers.{decode}
use Rattle.bench_lines.specs.Lines.{LINE}
use Rattle.bench_lines.proofs.Pieces.{piece_of}
use Rattle.bench_report.proofs.Printing.{figures_printed}
use borrow.Author.Rules.{rules}
use Rattle.bench_report.proofs.put_figures.Goals as goal
use Rattle.bench_report.proofs.put_figures.Goals.{Start}

-- a state has its sixteen variables
wide : (d : Start) → length d.args.r.state.vars ≡ VARIABLES
wide d = search rules

pub put_variables-requires : goal.put_variables-requires
put_variables-requires c =
    let p = piece_of {n = LINE} c.put_counts-a.ensures in
    let o = piece_of {n = LINE * ROOM * QUEUES} c.put_outputs-b.ensures in (
      omega (arith, c.requires.0, ranges_of_accepted c.args.r.sheet c.requires.1.stands.sheet),
      omega
          (arith, wide (goal.at.put_variables-requires c).Start, ranges_of_accepted c.args.r.sheet c.requires.1.stands.sheet),
    )

pub returns : goal.returns
returns c =
    let r = c.args.r in
    figures_printed (view_sheet r.sheet)
    (record { fired = r.fired; skipped = r.skipped; machine = decode r.state c.args.store.now }) r.rest c.requires.1.rest
    r.sheet.variables
    (omega (arith, ranges_of_accepted c.args.r.sheet c.requires.1.stands.sheet)) c.put_counts-a.ensures
    c.put_outputs-b.ensures
    c.put_variables.ensures
