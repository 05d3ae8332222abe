-- `text_scan::digits` meets its contract. The loop's invariant: from here on the same is read as from the beginning.
-- Assumes nothing.
use mathlib.Core.Path.{◌≡◌}
use Prim.Native.Nat.{◌-◌, ◌≤◌, ◌<◌}
use lib.ListN.{length, drop}
use Rattle.text_scan.specs.Reader.{digits}
use Rattle.text_scan.proofs.digits.Given as goal

abbrev pub invariant-loop-at : goal.invariant-loop-at
invariant-loop-at l =
    (l.at ≤ length l.s) × (l.n < 4294967296) × (digits l.top l.n (drop l.at l.s) ≡ digits l.top (l.first - 48) (drop l.from l.s))
