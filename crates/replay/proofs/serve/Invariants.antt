-- `replay::serve` is safe: the window stays within the input.
-- Assumes nothing.
use Rattle.std.proofs.Common.{◌≡◌, ◌≤◌, length}
use Rattle.replay.proofs.serve.Given as goal

abbrev pub invariant-loop : goal.invariant-loop
invariant-loop l =
    (l.w.at ≤ l.w.end) × (l.w.end ≤ length l.input)
    × (length l.input ≡ length l.initial.input) × (length l.store ≡ length l.initial.store)
    × (length l.text ≡ length l.initial.text)
