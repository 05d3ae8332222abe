-- What a report answers and leaves in the lent buffer, for every input.
use Rattle.std.specs.Prelude.{◌≡◌, cond, List, ◌++◌, ℕ, ◌≤◌, leb, length, drop, Result}
use Rattle.std.specs.Result.{result_unwrap_or}
use Rattle.base_refusal.specs.declared.Refusal.{Refusal}
use Rattle.sheet.specs.Answer.{Paper, accepted, refused_at, paper}
use Rattle.bench_report.specs.Print.{text_of}

-- a buffer of this length is always enough
abbrev pub TEXT : ℕ
TEXT = 131072

pub record Report : Type 0 where
  pub answer : Paper
  pub size : ℕ
  pub buffer : List ℕ

-- the text at the front of the buffer and the rest of it as it was; a shorter buffer is 18 and stays as it was
unfoldable pub report_of : List ℕ → List ℕ → Report
report_of s l =
    cond (leb TEXT (length l))
    (record { answer = accepted; size = length (text_of s); buffer = text_of s ++ drop (length (text_of s)) l })
    (record { answer = refused_at 18 0; size = 0; buffer = l })

pub record Reports (input before after : List ℕ) (r : Result ℕ Refusal) : Type 0 where
  pub answer : paper r ≡ (report_of input before).answer
  pub size : result_unwrap_or r 0 ≡ (report_of input before).size
  pub buffer : after ≡ (report_of input before).buffer
  pub fits : result_unwrap_or r 0 ≤ TEXT
