-- `rewrite_split::numbers_from` meets its contract: the places hold the numbers so far, and then 0.
use mathlib.Core.Path.{◌≡◌}
use mathlib.Core.List.{List}
use Prim.Native.Nat.{ℕ, ◌+◌, ◌≤◌}
use Rattle.base_lists.specs.Lists.{build, pad}
use Rattle.sheet_operator.specs.Memory.{PLACES}
use Rattle.rewrite_split.proofs.numbers_from.Given as goal

abbrev pub from : ℕ → ℕ → List ℕ
from q j = pad PLACES 0 (build j (λ (i : ℕ). q + i))

abbrev pub invariant-loop-j : goal.invariant-loop-j
invariant-loop-j l = (l.j ≤ l.n) × (l.r ≡ from l.q l.j)
