-- `replay_printer::Printer::hex_by_byte` is safe: there is always room for one byte more.
use Rattle.std.proofs.Common.{◌≡◌, ◌<◌, length}
use Rattle.replay_printer.proofs.Printer.hex_by_byte.Given as goal

abbrev pub invariant-loop-b : goal.invariant-loop-b
invariant-loop-b l = (l.at < length l.out) × (length l.out ≡ length l.initial.out)
