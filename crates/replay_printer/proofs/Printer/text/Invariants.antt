-- `replay_printer::Printer::text` is safe: there is always room for one byte more.
use Rattle.std.proofs.Common.{◌≡◌, ◌<◌, length}
use Rattle.replay_printer.proofs.Printer.text.Given as goal

abbrev pub invariant-loop-b : goal.invariant-loop-b
invariant-loop-b l = (l.at < length l.out) × (length l.out ≡ length l.initial.out)
