-- `bench_report::put_outputs` meets its contract: the lines of the first q queues are put.
-- Assumes nothing.
use Rattle.bench_report.proofs.Outputs.{Printing}
use Rattle.bench_report.proofs.put_outputs.Given as goal

abbrev pub invariant-loop-q : goal.invariant-loop-q
invariant-loop-q l = Printing l.initial.s l.at l.store l.rs l.counts l.n l.s l.end l.q
