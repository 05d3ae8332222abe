-- `run_store::zeros_from` meets its contract: what was asked is what was seen so far and what is left to test.
use Rattle.std.proofs.Common.{◌≡◌, ◌+◌, ◌&&◌}
use Rattle.run_store.specs.Quiet.{zeros_past}
use Rattle.run_store.proofs.zeros_from.Given as goal

abbrev pub invariant-loop-v : goal.invariant-loop-v
invariant-loop-v l = zeros_past l.part l.from ≡ (l.clean && zeros_past l.part (l.from + l.v-index))
