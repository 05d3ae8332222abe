-- Which operator reads a queue, and what the runner answers when it is asked.
use Rattle.std.specs.Prelude.{ℕ, suc, ◌≡◌, cond, List, [], ◌∷◌, ltb, set, Result}
use Rattle.std.specs.Result.{result_unwrap_or}
use Rattle.base_lists.specs.Lists.{build, member}
use Rattle.sheet_operator.specs.Op.{Op, reads}
use Rattle.base_bounds.specs.Bounds.{OPERATORS, QUEUES}
use Rattle.base_refusal.specs.declared.Refusal.{Refusal}
use Rattle.sheet.specs.declared.Sheet.{Sheet}
use Rattle.sheet.specs.Answer.{Paper, accepted, refused, is_accepted, paper}
use Rattle.sheet.specs.Sheet.{view_sheet}
use Rattle.sheet.specs.Check.{check_of}

-- the place of the operator that reads q, and OPERATORS where none does
abbrev pub reader_from : List Op → ℕ → ℕ → ℕ
reader_from [] i q = OPERATORS
reader_from (o ∷ os) i q = cond (member q (reads o)) i (reader_from os (suc i) q)

-- the same of every queue, as a table
abbrev pub readers_of : List Op → List ℕ
readers_of os = build QUEUES (reader_from os 0)

-- the table with operator i as the reader of each of the queues
abbrev pub readers_with : List ℕ → List ℕ → ℕ → List ℕ
readers_with r [] i = r
readers_with r (q ∷ qs) i = readers_with (set r q i) qs i

-- the operator's place; on a refusal OPERATORS
pub record ReaderCall : Type 0 where
  pub answer : Paper
  pub place : ℕ

abbrev pub no_reader : Paper → ReaderCall
no_reader p = record { answer = p; place = OPERATORS }

-- 9 where no operator reads the queue, also where the number is no queue's
abbrev pub reader_at : ℕ → ReaderCall
reader_at i = cond (ltb i OPERATORS) (record { answer = accepted; place = i }) (no_reader (refused 9))

unfoldable pub reader_of : Sheet → ℕ → ReaderCall
reader_of t q = cond (is_accepted (check_of t)) (reader_at (reader_from (view_sheet t).ops 0 q)) (no_reader (check_of t))

-- answer and place are the call's
pub record ReaderAnswers (c : ReaderCall) (r : Result ℕ Refusal) : Type 0 where
  pub answered : paper r ≡ c.answer
  pub placed : result_unwrap_or r OPERATORS ≡ c.place
