-- The paper's number of each reason, and what a call answers in the paper's words.
use Rattle.std.specs.Prelude.{ℕ, Option, Result, Ok, Err}
use Rattle.base_refusal.specs.declared.Reason.{Reason}
use Rattle.base_refusal.specs.declared.Reason.TheVariants.{BadLength, BadKind, BadHead, BadQueue, QueueNotOnce, BadVariable, BadStep, BadState, WrongQueue, EmptyQueue, Waits, FullQueue, NotCalm, NoOperator, NoLine, TooLarge, Forbidden, TooShort}
use Rattle.base_refusal.specs.declared.Refusal.{Refusal}

abbrev pub number_of : Reason → ℕ
number_of BadLength = 1
number_of BadKind = 2
number_of BadHead = 3
number_of BadQueue = 4
number_of QueueNotOnce = 5
number_of BadVariable = 6
number_of BadStep = 7
number_of BadState = 8
number_of WrongQueue = 9
number_of EmptyQueue = 10
number_of Waits = 11
number_of FullQueue = 12
number_of NotCalm = 13
number_of NoOperator = 14
number_of NoLine = 15
number_of TooLarge = 16
number_of Forbidden = 17
number_of TooShort = 18

abbrev pub refusal : Reason → Option ℕ → Refusal
refusal reason spot = record { reason = reason; spot = spot }

-- the number of the reason, 0 where nothing is refused
abbrev pub number_or_zero : {A : Type 0} → Result A Reason → ℕ
number_or_zero (Ok x) = 0
number_or_zero (Err reason) = number_of reason
