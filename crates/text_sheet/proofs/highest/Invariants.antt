use mathlib.Core.Path.{◌≡◌}
use Prim.Native.Nat.{◌-◌, ◌≤◌}
use Rattle.text_sheet.specs.Built.{highest_from}
use Rattle.sheet_operator.specs.Memory.{PLACES, ways}
use Rattle.text_sheet.proofs.highest.Given as goal

abbrev pub invariant-loop-i : goal.invariant-loop-i
invariant-loop-i l = (l.i ≤ PLACES) × (l.h ≡ highest_from l.m (ways l.i l.l))
