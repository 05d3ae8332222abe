-- `sheet_judge::inputs_seen` meets its contract: the loop keeps that exactly the inputs passed are defined.
use mathlib.Core.Path.{◌≡◌}
use Prim.Native.Nat.{ℕ, ◌≤◌}
use lib.Dec.{ltb}
use lib.ListN.{length}
use Rattle.base_lists.specs.Lists.{has}
use Rattle.sheet_judge.proofs.inputs_seen.Given as goal

abbrev pub invariant-loop-q : goal.invariant-loop-q
invariant-loop-q l = (l.q ≤ l.inputs) × (length l.defined ≡ 32) × (has l.defined ≡ (λ (k : ℕ). ltb k l.q))
