-- What the rewritings' inner functions ask and answer of a line and the line after it.
use Rattle.std.specs.Prelude.{ℕ, ◌<◌, ◌≡◌, true, cond, ◌&&◌, ltb, length, Result, IfOk}
use Rattle.base_refusal.specs.declared.Reason.{Reason}
use Rattle.base_refusal.specs.Refusal.{number_or_zero}
use Rattle.sheet_operator.specs.Op.{Abstract}
use Rattle.sheet_operator.specs.Memory.{view, memory}
use Rattle.sheet_operator.specs.declared.Operator.{Operator}
use Rattle.base_bounds.specs.Bounds.{OPERATORS}
use Rattle.sheet.specs.declared.Sheet.{Sheet}
use Rattle.sheet.specs.Sheet.{op_at, view_sheet}
use Rattle.rewrite_rules.specs.Rewrite.{is_line, at, next_of, to_line}

-- the refusal's number where operator i is no line before a line, and 0 where it is
abbrev pub pair_number : Abstract → ℕ → ℕ
pair_number a i = cond (ltb i (length a.ops)) (cond (is_line (at a i) && to_line a i) 0 15) 14

-- operators i and j are lines, and j reads the out queue of i
pub record Pair (t : Sheet) (i j : ℕ) : Type 0 where
  pub here : i < t.count
  pub below : j < t.count
  pub within : (i < OPERATORS) × (j < OPERATORS)
  pub test : (is_line (at (view_sheet t) i) && to_line (view_sheet t) i) ≡ true
  pub next : j ≡ next_of (view_sheet t) i
  pub first : is_line (view (op_at t i)) ≡ true
  pub second : is_line (view (op_at t j)) ≡ true

-- the number is that one; the place is the second line's where there is none
pub record Follows (t : Sheet) (i : ℕ) (r : Result ℕ Reason) : Type 0 where
  pub numbered : number_or_zero r ≡ pair_number (view_sheet t) i
  pub found : IfOk r (λ (j : ℕ). Pair t i j)

-- two lines, each in the places of the operator that it stands for
pub record TwoLines (o p : Operator) : Type 0 where
  pub first : is_line (view o) ≡ true
  pub second : is_line (view p) ≡ true
  pub first_placed : memory (view o) ≡ o
  pub second_placed : memory (view p) ≡ p
