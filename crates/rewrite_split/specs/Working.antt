-- What split's inner functions ask: a line, and room for its pieces.
use Rattle.std.specs.Prelude.{◌≡◌, ℕ, ◌+◌, ◌*◌, ◌<◌, ◌≤◌, true}
use Rattle.sheet_operator.specs.Memory.{PLACES, memory_number, view}
use Rattle.sheet_operator.specs.declared.Operator.{Operator}
use Rattle.base_bounds.specs.Bounds.{OPERATORS, VARIABLES, QUEUES}
use Rattle.sheet.specs.declared.Sheet.{Sheet}
use Rattle.sheet.specs.Answer.{accepted}
use Rattle.sheet.specs.Sheet.{op_at}
use Rattle.sheet.specs.Check.{check_of}
use Rattle.rewrite_rules.specs.Rewrite.{is_line}

-- an operator in memory that is a line
pub record LineIn (o : Operator) : Type 0 where
  pub number : memory_number o ≡ 0
  pub line : is_line (view o) ≡ true

-- the numbers of the new queues and variables are in their ranges
pub record SplitRoom (q v k : ℕ) : Type 0 where
  pub ways : k ≤ PLACES
  pub queues : q + 2 * k ≤ QUEUES
  pub variables : v + 2 ≤ VARIABLES

-- operator i of an accepted sheet is a line, and the sheet has room for its pieces
pub record Splits (t : Sheet) (i k : ℕ) : Type 0 where
  pub sheet : check_of t ≡ accepted
  pub below : i < t.count
  pub line : is_line (view (op_at t i)) ≡ true
  pub room : SplitRoom t.queues t.variables k
  pub count : t.count + k + 1 ≤ OPERATORS
