-- `text_programs::refused` meets its contract: the line is at the front.
-- Assumes nothing.
use mathlib.Core.Path.{refl}
use native.Mathlib.Omega.{arith}
use Rattle.std.specs.Prelude.{Err}
use Rattle.text_programs.proofs.Sending.{sends_puts}
use Rattle.bench_lines.specs.Lines.{refusal_line}
use Rattle.text_programs.specs.Output.{err}
use Rattle.text_programs.proofs.refused.Goals as goal

pub returns : goal.returns
returns c =
    let p = c.put_refusal-n.ensures in
    let e = c.args.e in
    rw (← c.into.ensures, ← c.unwrap_or.ensures)
    (sends_puts (err (refusal_line c.into.result c.unwrap_or.result)) (Err _) refl p.0 (omega (arith, p.1)) c.requires)
