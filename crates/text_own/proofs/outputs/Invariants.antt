-- `text_own::outputs` meets its contract: what is kept is kept of the outputs among the first q queues.
-- Assumes nothing.
use mathlib.Core.Path.{◌≡◌}
use Prim.Native.Nat.{◌-◌, ◌≤◌}
use Rattle.sheet.specs.Sheet.{view_sheet}
use Rattle.text_lists.specs.Names.{kept_of}
use Rattle.text_own.proofs.Loops.{outputs_to}
use Rattle.text_own.proofs.outputs.Given as goal

abbrev pub invariant-loop-q : goal.invariant-loop-q
invariant-loop-q l = (l.q ≤ l.fn.t.queues) × (l.names ≡ kept_of (outputs_to (view_sheet l.fn.t) l.q))
