use mathlib.Core.Path.{◌≡◌}
use Prim.Native.Nat.{◌-◌, ◌≤◌}
use Rattle.text_sheet.specs.Built.{highest_from}
use Rattle.base_bounds.specs.Bounds.{INPUTS}
use Rattle.sheet_operator.specs.Memory.{ways}
use Rattle.text_sheet.proofs.highest_input.Given as goal

abbrev pub invariant-loop-i : goal.invariant-loop-i
invariant-loop-i l = (l.i ≤ INPUTS) × (l.h ≡ highest_from 0 (ways l.i l.l))
