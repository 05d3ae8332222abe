-- `text_scan::skip` meets its contract. The loop's invariant: what follows the blanks from i on is what was asked for.
-- Assumes nothing.
use mathlib.Core.Path.{◌≡◌}
use Prim.Native.Nat.{◌≤◌}
use lib.ListN.{length, drop}
use Rattle.text_scan.specs.Reads.{after_blanks}
use Rattle.text_scan.proofs.skip.Given as goal

abbrev pub invariant-loop-i : goal.invariant-loop-i
invariant-loop-i l = (l.i ≤ length l.s) × (after_blanks (drop l.i l.s) ≡ after_blanks (drop l.at l.s))
