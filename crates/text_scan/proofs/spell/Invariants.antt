-- `text_scan::spell` meets its contract. The loop's invariant: what is left of the word gives, from here, what the word gives.
-- Assumes nothing.
use mathlib.Core.Path.{◌≡◌}
use Prim.Native.Nat.{◌≤◌}
use lib.ListN.{length, drop}
use Rattle.text_scan.specs.Reader.{spell}
use Rattle.text_scan.proofs.spell.Given as goal

abbrev pub invariant-loop-b : goal.invariant-loop-b
invariant-loop-b l = (l.end ≤ length l.s) × (spell (drop l.b-index l.w) (drop l.end l.s) ≡ spell l.w (drop l.at l.s))
