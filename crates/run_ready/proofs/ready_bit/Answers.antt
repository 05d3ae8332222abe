-- `run_ready::ready_bit` meets its contract: a reader is ready where trying it answers an effect.
-- Assumes nothing.
use native.Mathlib.Omega.{arith}
use Rattle.sheet_operator.specs.Memory.{view}
use Rattle.run_machine.specs.Numbers.{decode}
use Rattle.run_ready.proofs.Readies.{bit_accepted}
use Rattle.run_ready.proofs.ready_bit.Goals as goal

pub returns-in-Ok : goal.returns-in-Ok
returns-in-Ok c =
    let a = c.args in
    rw c.in-Some.is (bit_accepted (view c.in-Some.o) (decode a.state a.store.now) a.q c.in-Ok.ensures.number, omega arith)
