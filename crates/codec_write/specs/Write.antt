-- Writing a sheet: its bytes, and what the lent buffer then holds.
use Rattle.std.specs.Prelude.{◌≡◌, ℕ, cond, List, ◌++◌, leb, length, drop, Result}
use Rattle.std.specs.Result.{result_unwrap_or}
use Rattle.base_refusal.specs.declared.Refusal.{Refusal}
use Rattle.base_lists.specs.Lists.{chain}
use Rattle.sheet_operator.specs.Op.{Abstract}
use Rattle.sheet_format.specs.Record.{op_bytes}
use Rattle.sheet_format.specs.Head.{head_bytes}
use Rattle.sheet.specs.declared.Sheet.{Sheet}
use Rattle.sheet.specs.Answer.{Paper, paper, accepted, refused_at, is_accepted}
use Rattle.sheet.specs.Sheet.{view_sheet}
use Rattle.sheet.specs.Check.{check_of}

abbrev pub sheet_bytes : Abstract → List ℕ
sheet_bytes a = head_bytes a.inputs a.queues a.variables (length a.ops) ++ chain op_bytes a.ops

-- what writing answers: how many bytes it wrote, 0 where it is refused, and the buffer afterwards
pub record Writing : Type 0 where
  pub answer : Paper
  pub size : ℕ
  pub buffer : List ℕ

-- the bytes at the front of the buffer, and the rest of it as it was
abbrev pub writing : List ℕ → List ℕ → Writing
writing bytes l =
    cond (leb (length bytes) (length l))
    (record { answer = accepted; size = length bytes; buffer = bytes ++ drop (length bytes) l })
    (record { answer = refused_at 18 0; size = 0; buffer = l })

-- the sheet's own refusal, or what writing its bytes answers
abbrev pub writing_of : Sheet → List ℕ → List ℕ → Writing
writing_of t bytes l = cond (is_accepted (check_of t)) (writing bytes l) (record { answer = check_of t; size = 0; buffer = l })

unfoldable pub write_of : Sheet → List ℕ → Writing
write_of t l = writing_of t (sheet_bytes (view_sheet t)) l

-- what a function answers and leaves in the buffer, against a definition
pub record Wrote (w : Writing) (after : List ℕ) (r : Result ℕ Refusal) : Type 0 where
  pub answer : paper r ≡ w.answer
  pub size : result_unwrap_or r 0 ≡ w.size
  pub buffer : after ≡ w.buffer

abbrev pub Writes : Sheet → List ℕ → List ℕ → Result ℕ Refusal → Type 0
Writes t before after r = Wrote (write_of t before) after r
