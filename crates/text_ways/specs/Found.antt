-- What reading an operator and reading the ways of a deal or a gather answer.
use Rattle.std.specs.Prelude.{ℕ, ◌≤◌, ◌≡◌, List, Result}
use Rattle.base_lists.specs.Lists.{pad}
use Rattle.sheet_operator.specs.Op.{Op}
use Rattle.sheet_operator.specs.Memory.{PLACES, ways, memory}
use Rattle.sheet_operator.specs.declared.Operator.{Operator}
use Rattle.text_scan.specs.declared.Read.{Read}
use Rattle.text_scan.specs.declared.Lost.{Lost}
use Rattle.text_scan.specs.Reader.{Reader, got, bind}
use Rattle.text_scan.specs.Reads.{same, Reads}
use Rattle.text_ways.specs.declared.HeldWays.{HeldWays}

-- an operator, as it stands in memory
abbrev pub ReadsOp : List ℕ → ℕ → Reader Op → Result (Read Operator) Lost → Type 0
ReadsOp s at P r = Reads same s at (λ (t : List ℕ). bind (P t) (λ (o : Op). got (memory o))) r

-- the ways that were read, and 0 in the places behind them
abbrev pub queues_of : HeldWays → List ℕ
queues_of w = ways w.count w.queues

pub record FilledWays (w : HeldWays) : Type 0 where
  pub small : w.count ≤ PLACES
  pub places : w.queues ≡ pad PLACES 0 (queues_of w)
