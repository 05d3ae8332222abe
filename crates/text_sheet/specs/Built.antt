-- The sheet that the program builds of what it keeps of a text.
use Rattle.std.specs.Prelude.{ℕ, ◌+◌, cond, List, [], ◌∷◌, ltb, get_or}
use Rattle.base_bounds.specs.Bounds.{INPUTS, OPERATORS}
use Rattle.base_lists.specs.Lists.{build}
use Rattle.sheet_operator.specs.Memory.{PLACES, ways}
use Rattle.sheet_operator.specs.declared.Operator.{Operator}
use Rattle.sheet.specs.declared.Sheet.{Sheet}
use Rattle.sheet.specs.Sheet.{missing}
use Rattle.text_lists.specs.declared.KeptNames.{KeptNames}
use Rattle.text_tree.specs.declared.HeldOperators.{HeldOperators}

abbrev pub larger : ℕ → ℕ → ℕ
larger m q = cond (ltb m q) q m

abbrev pub smaller : ℕ → ℕ → ℕ
smaller n k = cond (ltb k n) k n

-- the highest of some numbers and of m; of those in operators' places
abbrev pub highest_from : ℕ → List ℕ → ℕ
highest_from m [] = m
highest_from m (q ∷ l) = highest_from (larger m q) l

abbrev pub highest_place : ℕ → Operator → ℕ
highest_place m o = highest_from (highest_from m (ways PLACES o.ins)) (ways PLACES o.outs)

abbrev pub highest_of : ℕ → List Operator → ℕ
highest_of m [] = m
highest_of m (o ∷ os) = highest_of (highest_place m o) os

unfoldable pub highest_in : KeptNames → HeldOperators → ℕ
highest_in n h =
    highest_of (highest_from 0 (ways INPUTS n.queues)) (build (smaller h.count OPERATORS) (λ (k : ℕ). get_or h.operators k missing))

abbrev pub built : KeptNames → ℕ → HeldOperators → Sheet
built n v h = record { inputs = n.count; queues = highest_in n h + 1; variables = v; count = h.count; operators = h.operators }
