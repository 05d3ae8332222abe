-- `replay_printer::Printer::hex_into` is safe: two digits a byte fit behind what waits.
use Rattle.std.proofs.Common.{◌≡◌, ◌+◌, ◌*◌, length}
use Rattle.replay_printer.proofs.Printer.hex_into.Given as goal

abbrev pub invariant-loop-b : goal.invariant-loop-b
invariant-loop-b l =
    (l.at ≡ l.initial.at + 2 * l.b-index) × (length l.out ≡ length l.initial.out)
