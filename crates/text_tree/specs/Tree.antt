-- What the program keeps of a text's head and operators, and what reading them answers.
use Rattle.std.specs.Prelude.{ℕ, suc, ◌+◌, ◌-◌, ◌≤◌, ◌≡◌, cond, List, [], map, leb, length, drop, set, Result, IfOk}
use Rattle.base_bounds.specs.Bounds.{OPERATORS}
use Rattle.base_lists.specs.Lists.{pad}
use Rattle.sheet_operator.specs.Op.{Op}
use Rattle.sheet_operator.specs.Memory.{memory, no_operator}
use Rattle.sheet_operator.specs.declared.Operator.{Operator}
use Rattle.text_scan.specs.declared.Read.{Read}
use Rattle.text_scan.specs.declared.Lost.{Lost}
use Rattle.text_scan.specs.Reader.{got, bind, to_end}
use Rattle.text_scan.specs.Kept.{counted}
use Rattle.text_scan.specs.Reads.{same, Reads}
use Rattle.text_grammar.specs.Readers.{Tree, snoc, head, item_by}
use Rattle.text_grammar.specs.Begins.{from_outputs, from_inputs}
use Rattle.text_lists.specs.declared.KeptNames.{KeptNames}
use Rattle.text_lists.specs.Names.{kept_of}
use Rattle.text_tree.specs.declared.HeldOperators.{HeldOperators}
use Rattle.text_tree.specs.declared.TextHead.{TextHead}

-- the first operators in their places, and how many there are; one past the places stands for any more
abbrev pub held_of : List Op → HeldOperators
held_of os = record { count = counted OPERATORS (length os); operators = pad OPERATORS no_operator (map memory os) }

-- no operator yet
abbrev pub none : HeldOperators
none = held_of []

-- one more: the place it goes to, and how many there are then
abbrev pub next_place : ℕ → ℕ
next_place k = cond (leb OPERATORS k) (OPERATORS - 1) k

abbrev pub next_count : ℕ → ℕ
next_count k = cond (leb OPERATORS k) (suc OPERATORS) (k + 1)

unfoldable pub put : HeldOperators → Operator → HeldOperators
put h o = record { count = next_count h.count; operators = cond (leb OPERATORS h.count) h.operators (set h.operators h.count o) }

abbrev pub put_op : HeldOperators → Op → HeldOperators
put_op h o = put h (memory o)

-- what is kept of an item: the operator in memory
abbrev pub itself : Operator → Op → Operator
itself old o = memory o

-- one operator and its semicolon
abbrev pub ReadsItem : List ℕ → ℕ → Result (Read Operator) Lost → Type 0
ReadsItem s at r = Reads same s at (item_by itself no_operator) r

-- the operators up to the end
abbrev pub ReadsOperators : List ℕ → ℕ → Result (Read HeldOperators) Lost → Type 0
ReadsOperators s at r = Reads same s at (λ (t : List ℕ). bind (to_end (item_by snoc) [] t) (λ (os : List Op). got (held_of os))) r

-- the head: what is kept of its lists, where they begin, and the variables
pub record KeptHead : Type 0 where
  pub outputs : KeptNames
  pub inputs : KeptNames
  pub variables : ℕ

abbrev pub head_of : Tree → KeptHead
head_of t = record { outputs = kept_of t.outputs; inputs = kept_of t.inputs; variables = t.variables }

abbrev pub head_in : TextHead → KeptHead
head_in r = record { outputs = r.outputs.names; inputs = r.inputs.names; variables = r.variables }

pub record Begins (s : List ℕ) (h : TextHead) : Type 0 where
  pub outputs_in_lem : h.outputs.start ≤ length s
  pub outputs_begin : drop h.outputs.start s ≡ from_outputs s
  pub inputs_in : h.inputs.start ≤ length s
  pub inputs_begin : drop h.inputs.start s ≡ from_inputs s

pub record Heads (s : List ℕ) (r : Result (Read TextHead) Lost) : Type 0 where
  pub reads : Reads head_in s 0 (λ (t : List ℕ). bind (head t) (λ (u : Tree). got (head_of u))) r
  pub begins : IfOk r (λ (x : Read TextHead). Begins s x.value)
