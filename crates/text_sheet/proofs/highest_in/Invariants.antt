use Prim.Native.Nat.{ℕ, ◌-◌, ◌≤◌}
use mathlib.Core.Path.{◌≡◌}
use lib.ListN.{get_or}
use Rattle.base_bounds.specs.Bounds.{OPERATORS}
use Rattle.base_lists.specs.Lists.{build}
use Rattle.sheet.specs.Sheet.{missing}
use Rattle.text_sheet.specs.Built.{highest_of}
use Rattle.text_sheet.proofs.highest_in.Given as goal

abbrev pub invariant-loop-i : goal.invariant-loop-i
invariant-loop-i l = (l.i ≤ l.end) × (l.end ≤ OPERATORS) × (l.m ≡ highest_of l.initial.m (build l.i (λ (k : ℕ). get_or l.h.operators k missing)))
