-- What the functions of reading answer, against the definitions.
use Rattle.std.specs.Prelude.{◌≡◌, List, [], ℕ, ◌+◌, ◌≤◌, false, cond, ◌&&◌, eqb, length, drop, Result, Ok, Err}
use Rattle.std.specs.Result.{result_unwrap_or}
use Rattle.base_refusal.specs.declared.Reason.{Reason}
use Rattle.base_refusal.specs.declared.Refusal.{Refusal}
use Rattle.base_refusal.specs.Refusal.{number_of}
use Rattle.sheet_operator.specs.Op.{Abstract}
use Rattle.sheet_operator.specs.Memory.{memory}
use Rattle.sheet_judge.specs.declared.Seen.{Seen}
use Rattle.sheet_judge.specs.Judge.{judge_by, after}
use Rattle.sheet_judge.specs.Seen.{known_by}
use Rattle.sheet_format.specs.Record.{Taken, bad, took, taken, op_in, rest_in}
use Rattle.sheet_decode.specs.declared.Head.{Head}
use Rattle.sheet.specs.declared.Sheet.{Sheet}
use Rattle.sheet.specs.Answer.{paper, accepted, refused_at}
use Rattle.sheet.specs.Sheet.{no_sheet}
use Rattle.codec_read.specs.declared.Front.{Front}
use Rattle.codec_read.specs.declared.ReadOperator.{ReadOperator}
use Rattle.codec_read.specs.Read.{front_of, front_answer, front_sheet, front_end, front_whole, read_of}

-- a head with no operator yet
abbrev pub headed : Head → Abstract
headed h = record { inputs = h.inputs; queues = h.queues; variables = h.variables; ops = [] }

-- a record after the operators seen: its own refusal, then the judge's
abbrev pub number_of_next : ℕ → ℕ → Seen → Taken → ℕ
number_of_next queues variables seen (bad n) = n
number_of_next queues variables seen (took o rest) = judge_by queues variables (known_by seen) o

-- what was read of a record that is kept: the operator in memory, what is known with it, and where in the bytes the next record starts
pub record NextRead (s : List ℕ) (seen : Seen) (x : Taken) (r : ReadOperator) : Type 0 where
  pub op : r.op ≡ memory (op_in x)
  pub known : known_by r.seen ≡ after (known_by seen) (op_in x)
  pub rest : drop r.next s ≡ rest_in x
  pub inside : r.next ≤ length s

abbrev pub ReadsNext : ℕ → ℕ → Seen → List ℕ → Taken → Result ReadOperator Reason → Type 0
ReadsNext queues variables seen s x (Ok r) = (number_of_next queues variables seen x ≡ 0) × NextRead s seen x r
ReadsNext queues variables seen s x (Err reason) = number_of_next queues variables seen x ≡ number_of reason

-- the record at that place
abbrev pub ReadsOperator : ℕ → ℕ → Seen → List ℕ → ℕ → Result ReadOperator Reason → Type 0
ReadsOperator queues variables seen s at r = ReadsNext queues variables seen s (taken (drop at s)) r

-- what stands in a front's place on a refusal
abbrev pub no_front : Front
no_front = record { sheet = no_sheet; end = 0; whole = false }

pub record Fronts (s : List ℕ) (r : Result Front Refusal) : Type 0 where
  pub answer : paper r ≡ front_answer (front_of s)
  pub sheet : (result_unwrap_or r no_front).sheet ≡ front_sheet (front_of s)
  pub end : (result_unwrap_or r no_front).end ≡ front_end (length s) (front_of s)
  pub whole : (result_unwrap_or r no_front).whole ≡ front_whole (front_of s)

-- at record N+1
pub record Ends (size : ℕ) (f : Front) (r : Result Sheet Refusal) : Type 0 where
  pub answer : paper r ≡ cond (eqb f.end size) (cond f.whole accepted (refused_at 5 (f.sheet.count + 1))) (refused_at 1 (f.sheet.count + 1))
  pub sheet : result_unwrap_or r no_sheet ≡ cond (eqb f.end size && f.whole) f.sheet no_sheet

pub record Reads (s : List ℕ) (r : Result Sheet Refusal) : Type 0 where
  pub answer : paper r ≡ (read_of s).answer
  pub sheet : result_unwrap_or r no_sheet ≡ (read_of s).sheet
