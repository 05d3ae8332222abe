-- Reading a sheet: the head, N operators, then what is left over, then queues that are never defined.
use Rattle.std.specs.Prelude.{ℕ, zero, suc, ◌-◌, Bool, false, cond, not, List, [], eqb, length, get_or, drop}
use Rattle.sheet_operator.specs.Op.{Abstract, with}
use Rattle.sheet_judge.specs.Judge.{known, judge, whole}
use Rattle.sheet_format.specs.Record.{Taken, bad, took, taken, op_in, rest_in}
use Rattle.sheet_format.specs.Head.{head_number, HEAD_BYTES}
use Rattle.sheet.specs.declared.Sheet.{Sheet}
use Rattle.sheet.specs.Answer.{Paper, accepted, refused_at, is_accepted}
use Rattle.sheet.specs.Sheet.{memory_sheet, no_sheet}
use Rattle.sheet.specs.Check.{Kept, stopped, kept, next_record, ending}

-- an operator's record after those kept: its own refusal, then the judge
abbrev pub number_after : Abstract → Taken → ℕ
number_after a (bad n) = n
number_after a (took o rest) = judge a o

-- the n records after those kept
unfoldable pub read_from : ℕ → Abstract → List ℕ → Kept
read_from zero a s = kept a s
read_from (suc n) a s =
    let r = taken s in
    cond (eqb (number_after a r) 0) (read_from n (with a (op_in r)) (rest_in r)) (stopped (number_after a r) (next_record a))

-- the head, and then its N operators
abbrev pub head_in : List ℕ → Abstract
head_in s = record { inputs = get_or s 4 0; queues = get_or s 5 0; variables = get_or s 6 0; ops = [] }

unfoldable pub front_of : List ℕ → Kept
front_of s = cond (eqb (head_number s) 0) (read_from (get_or s 7 0) (head_in s) (drop HEAD_BYTES s)) (stopped (head_number s) 0)

-- what reading the head and the operators answers: the sheet, where it ends, and whether each queue is defined
abbrev pub front_answer : Kept → Paper
front_answer (stopped number spot) = refused_at number spot
front_answer (kept a rest) = accepted

abbrev pub front_sheet : Kept → Sheet
front_sheet (stopped number spot) = no_sheet
front_sheet (kept a rest) = memory_sheet a

abbrev pub front_end : ℕ → Kept → ℕ
front_end n (stopped number spot) = 0
front_end n (kept a rest) = n - length rest

abbrev pub front_whole : Kept → Bool
front_whole (stopped number spot) = false
front_whole (kept a rest) = whole a.queues (known a)

-- what reading answers: a refused sheet is the one fixed sheet
pub record Reading : Type 0 where
  pub answer : Paper
  pub sheet : Sheet

abbrev pub read_end : Kept → Reading
read_end (stopped number spot) = record { answer = refused_at number spot; sheet = no_sheet }
read_end (kept a rest) =
    let p = ending (not (eqb (length rest) 0)) a in
    record { answer = p; sheet = cond (is_accepted p) (memory_sheet a) no_sheet }

unfoldable pub read_of : List ℕ → Reading
read_of s = read_end (front_of s)
