-- What a call answers in the paper's words: accepted, or the number of the refusal and, for sheets, the record.
use Rattle.std.specs.Prelude.{ℕ, Bool, true, false, Result, Ok, Err, Some, None}
use Rattle.std.proofs.Math.Option.{Option, some, none}
use Rattle.std.specs.Prelude as rattle
use Rattle.base_refusal.specs.declared.Reason.{Reason}
use Rattle.base_refusal.specs.declared.Refusal.{Refusal}
use Rattle.base_refusal.specs.Refusal.{number_of}

abbrev pub Paper : Type 0
Paper = Option (ℕ × Option ℕ)

abbrev pub accepted : Paper
accepted = none

abbrev pub refused_at : ℕ → ℕ → Paper
refused_at number spot = some (number, some spot)

abbrev pub refused : ℕ → Paper
refused number = some (number, none)

-- the paper's number of a reason, with the record where one is told
abbrev pub refused_for : Reason → rattle.Option ℕ → Paper
refused_for reason (Some spot) = refused_at (number_of reason) spot
refused_for reason None = refused (number_of reason)

-- what the program's answer is in the paper's words
abbrev pub paper : {A : Type 0} → Result A Refusal → Paper
paper (Ok x) = accepted
paper (Err e) = refused_for e.reason e.spot

abbrev pub is_accepted : Paper → Bool
is_accepted none = true
is_accepted (some x) = false
