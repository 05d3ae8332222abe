-- `rewrite_split::parts` meets its contract: the places below m hold what they are to hold, the others what they held.
use mathlib.Core.Path.{◌≡◌}
use Prim.Native.Nat.{◌≤◌}
use Rattle.sheet.specs.Sheet.{HeldSheet}
use Rattle.rewrite_split.specs.Working.{Splits}
use Rattle.rewrite_split.proofs.Parting.{filled}
use Rattle.rewrite_split.proofs.parts.Given as goal

abbrev pub invariant-loop-m : goal.invariant-loop-m
invariant-loop-m l = (l.i ≤ l.m) × ((s : Splits l.t l.i l.k) (h : HeldSheet l.t) → l.r ≡ filled l.t l.i l.k s h l.m)
