-- `text_tree::operators` meets its contract. The loop's invariant: what is read from here on with what is kept is what is read from the beginning.
-- Assumes nothing.
use Prim.Native.Nat.{◌-◌, ◌≤◌}
use mathlib.Core.Path.{◌≡◌}
use lib.ListN.{length}
use Rattle.text_tree.specs.Tree.{none}
use Rattle.text_tree.proofs.ToEnd.{to_end_of}
use Rattle.text_tree.proofs.operators.Given as goal

abbrev pub invariant-loop-held : goal.invariant-loop-held
invariant-loop-held l = (l.from ≤ length l.s) × (to_end_of l.s l.from l.held ≡ to_end_of l.s l.at none)

abbrev pub decreases-loop-held : goal.decreases-loop-held
decreases-loop-held l = length l.s - l.from
