-- `run_calls::run_known` meets its contract: each turn runs one entry more, and at the end what was run is the whole list.
-- Assumes nothing.
use Rattle.run_machine.specs.Working.{state_with}
use Rattle.run_calls.proofs.Running.{Running}
use Rattle.run_calls.proofs.run_known.Given as goal

abbrev pub invariant-loop-k : goal.invariant-loop-k
invariant-loop-k l =
    Running l.t (state_with l.initial.counts l.initial.vars) l.initial.store l.list (state_with l.counts l.vars) l.store l.fired l.skipped l.k
