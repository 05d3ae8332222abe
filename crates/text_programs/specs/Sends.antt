-- What the functions answer and leave in the lent buffer, against the definitions.
use Rattle.std.specs.Prelude.{◌≡◌, List, ◌++◌, ℕ, ◌+◌, ◌≤◌, Result, Ok, Err, is_err, length, drop}
use Rattle.text_print.specs.Names.{SHEET_TEXT}
use Rattle.text_programs.specs.Output.{Output}

-- no output is longer
abbrev pub OUTPUT : ℕ
OUTPUT = SHEET_TEXT + 1

-- how many bytes are put out, to either stream
abbrev pub sent : Result ℕ ℕ → ℕ
sent (Ok n) = n
sent (Err n) = n

-- the output at the front of the buffer, and the rest of it as it was
pub record Sends (o : Output) (before after : List ℕ) (r : Result ℕ ℕ) : Type 0 where
  pub failed : is_err r ≡ o.failed
  pub size : sent r ≡ length o.bytes
  pub buffer : after ≡ o.bytes ++ drop (length o.bytes) before
  pub fits : sent r ≤ OUTPUT
