-- `bench_report::put_trial` meets its contract: a refusal's line, or the lines of an input that is not refused.
-- Assumes nothing.
use native.Mathlib.Omega.{arith}
use Rattle.bench_report.specs.Print.{printed}
use Rattle.bench_report.proofs.put_trial.Goals as goal

pub returns-in-Err : goal.returns-in-Err
unfolding printed
returns-in-Err c = rw (c.in-Err.is, ← c.into.ensures, ← c.unwrap_or.ensures) (c.put_refusal.ensures.0, omega arith)
