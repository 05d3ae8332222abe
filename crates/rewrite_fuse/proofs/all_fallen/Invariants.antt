-- `rewrite_fuse::all_fallen` meets its contract: the places hold the numbers passed, each fallen.
use mathlib.Core.Path.{◌≡◌}
use mathlib.Core.List.{List}
use Prim.Native.Nat.{ℕ, ◌≤◌}
use Rattle.sheet_operator.specs.Memory.{PLACES}
use Rattle.base_lists.specs.Lists.{build, pad}
use Rattle.rewrite_rules.specs.Rewrite.{fallen}
use lib.ListN.{get_or}
use Rattle.rewrite_fuse.proofs.all_fallen.Given as goal

abbrev pub fallen_to : ℕ → List ℕ → ℕ → List ℕ
fallen_to m qs i = pad PLACES 0 (build i (λ (k : ℕ). fallen m (get_or qs k 0)))

abbrev pub invariant-loop-k : goal.invariant-loop-k
invariant-loop-k l = (l.k ≤ PLACES) × (l.r ≡ fallen_to l.m l.qs l.k)
