-- What reading one record answers, for any bytes: an operator's at a place, and the head's at the front.
use Rattle.std.specs.Prelude.{List, ℕ, zero, suc, ◌+◌, get_or, drop, Result, Ok, Err}
use Rattle.base_number.specs.Number.{short_of}
use Rattle.base_refusal.specs.declared.Reason.{Reason}
use Rattle.base_refusal.specs.Refusal.{number_of}
use Rattle.sheet_operator.specs.Memory.{memory, no_operator}
use Rattle.sheet_operator.specs.declared.Operator.{Operator}
use Rattle.sheet_decode.specs.declared.Head.{Head}
use Rattle.sheet_decode.specs.declared.TakenRecord.{TakenRecord}
use Rattle.sheet_format.specs.Record as format
use Rattle.sheet_format.specs.Head.{head_number}

-- the number of the refusal, 0 for none, where the next record starts, and the operator
pub record RecordTaken : Type 0 where
  pub number : ℕ
  pub next : ℕ
  pub op : Operator

-- the same of the head, with its numbers
pub record HeadTaken : Type 0 where
  pub number : ℕ
  pub inputs : ℕ
  pub queues : ℕ
  pub variables : ℕ
  pub count : ℕ

-- a refusal, with nothing in the other places
abbrev pub no_record : ℕ → RecordTaken
no_record n = record { number = n; next = 0; op = no_operator }

-- the operator in memory, and where its record, a header and a body, ends; or the refusal
abbrev pub record_as : List ℕ → ℕ → format.Taken → RecordTaken
record_as s at (format.bad n) = no_record n
record_as s at (format.took o rest) = record { number = 0; next = at + format.HEADER + short_of (drop at s); op = memory o }

unfoldable pub record_at : List ℕ → ℕ → RecordTaken
record_at s at = record_as s at (format.taken (drop at s))

abbrev pub no_head : ℕ → HeadTaken
no_head n = record { number = n; inputs = 0; queues = 0; variables = 0; count = 0 }

-- the head's four numbers where it is not refused
abbrev pub head_as : ℕ → List ℕ → HeadTaken
head_as zero s = record { number = 0; inputs = get_or s 4 0; queues = get_or s 5 0; variables = get_or s 6 0; count = get_or s 7 0 }
head_as (suc n) s = no_head (suc n)

unfoldable pub head_taken : List ℕ → HeadTaken
head_taken s = head_as (head_number s) s

-- what the functions answer, in these words
abbrev pub record_answered : Result TakenRecord Reason → RecordTaken
record_answered (Ok r) = record { number = 0; next = r.next; op = r.op }
record_answered (Err reason) = no_record (number_of reason)

abbrev pub head_answered : Result Head Reason → HeadTaken
head_answered (Ok h) = record { number = 0; inputs = h.inputs; queues = h.queues; variables = h.variables; count = h.count }
head_answered (Err reason) = no_head (number_of reason)
