-- `text_own::inputs` meets its contract: what is kept is kept of the first q queues.
-- Assumes nothing.
use mathlib.Core.Path.{◌≡◌}
use Prim.Native.Nat.{ℕ, ◌-◌, ◌≤◌}
use Rattle.base_lists.specs.Lists.{build}
use Rattle.text_lists.specs.Names.{kept_of}
use Rattle.text_own.proofs.inputs.Given as goal

abbrev pub invariant-loop-q : goal.invariant-loop-q
invariant-loop-q l = (l.q ≤ l.n) × (l.names ≡ kept_of (build l.q (λ (k : ℕ). k)))
