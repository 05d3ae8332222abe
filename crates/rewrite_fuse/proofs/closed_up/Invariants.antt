-- `rewrite_fuse::closed_up` meets its contract: the places hold what has come to them so far, each operator without the queue.
use mathlib.Core.Path.{◌≡◌}
use mathlib.Core.List.{List}
use Prim.Native.Nat.{ℕ, ◌-◌, ◌≤◌}
use Rattle.base_lists.specs.Lists.{build, pad}
use Rattle.sheet_operator.specs.Memory.{no_operator}
use Rattle.sheet_operator.specs.declared.Operator.{Operator}
use Rattle.base_bounds.specs.Bounds.{OPERATORS}
use Rattle.sheet.specs.Sheet.{missing}
use Rattle.rewrite_fuse.specs.Working.{skip, lowered_in}
use lib.ListN.{get_or}
use Rattle.rewrite_fuse.proofs.closed_up.Given as goal

abbrev pub closed_to : ℕ → ℕ → List Operator → ℕ → List Operator
closed_to j m os i = pad OPERATORS no_operator (build i (λ (k : ℕ). lowered_in m (get_or os (skip j k) missing)))

abbrev pub invariant-loop-k : goal.invariant-loop-k
invariant-loop-k l = (l.k ≤ l.n - 1) × (l.r ≡ closed_to l.j l.m l.operators l.k)
