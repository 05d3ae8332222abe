-- A sheet that is written and read back.
use Rattle.std.specs.Prelude.{◌≡◌, cond, List, ℕ, ◌≤◌, length, Result, Ok}
use Rattle.std.specs.Result.{result_unwrap_or}
use Rattle.base_refusal.specs.declared.Refusal.{Refusal}
use Rattle.sheet.specs.declared.Sheet.{Sheet}
use Rattle.sheet.specs.Answer.{paper, accepted, is_accepted}
use Rattle.sheet.specs.Sheet.{view_sheet, no_sheet}
use Rattle.sheet.specs.Check.{check_of}
use Rattle.codec_write.specs.Write.{sheet_bytes, write_of}

-- itself where the check and the buffer allow it, else the writing's refusal
pub record Agains (t : Sheet) (before after : List ℕ) (r : Result Sheet Refusal) : Type 0 where
  pub same : check_of t ≡ accepted → length (sheet_bytes (view_sheet t)) ≤ length before → r ≡ Ok t
  pub answer : paper r ≡ (write_of t before).answer
  pub sheet : result_unwrap_or r no_sheet ≡ cond (is_accepted (write_of t before).answer) t no_sheet
  pub buffer : after ≡ (write_of t before).buffer
