-- No two reasons have one number, and none has the number 0.
-- Assumes nothing.
use mathlib.Core.Path.{◌≡◌, refl, sym, ap, ◌∙◌}
use mathlib.Core.Bool.{cond}
use Prim.Native.Nat.{ℕ, ◌≤◌}
use native.Mathlib.Omega.{arith}
use lib.Dec.{eqb}
use Rattle.base_refusal.specs.declared.Reason.{Reason}
use Rattle.base_refusal.specs.declared.Reason.TheVariants.{BadLength, BadKind, BadHead, BadQueue, QueueNotOnce, BadVariable, BadStep, BadState, WrongQueue, EmptyQueue, Waits, FullQueue, NotCalm, NoOperator, NoLine, TooLarge, Forbidden, TooShort}
use Rattle.base_refusal.specs.Refusal.{number_of}

abbrev reason_of : ℕ → Reason
reason_of n =
    (cond (eqb n 1) BadLength
    (cond (eqb n 2) BadKind
    (cond (eqb n 3) BadHead
    (cond (eqb n 4) BadQueue
    (cond (eqb n 5) QueueNotOnce
    (cond (eqb n 6) BadVariable
    (cond (eqb n 7) BadStep
    (cond (eqb n 8) BadState
    (cond (eqb n 9) WrongQueue
    (cond (eqb n 10) EmptyQueue
    (cond (eqb n 11) Waits
    (cond (eqb n 12) FullQueue
    (cond (eqb n 13) NotCalm
    (cond (eqb n 14) NoOperator
    (cond (eqb n 15) NoLine
    (cond (eqb n 16) TooLarge
    (cond (eqb n 17) Forbidden
    TooShort
    )))))))))))))))))

reason_of_number : (r : Reason) → reason_of (number_of r) ≡ r
reason_of_number BadLength = refl
reason_of_number BadKind = refl
reason_of_number BadHead = refl
reason_of_number BadQueue = refl
reason_of_number QueueNotOnce = refl
reason_of_number BadVariable = refl
reason_of_number BadStep = refl
reason_of_number BadState = refl
reason_of_number WrongQueue = refl
reason_of_number EmptyQueue = refl
reason_of_number Waits = refl
reason_of_number FullQueue = refl
reason_of_number NotCalm = refl
reason_of_number NoOperator = refl
reason_of_number NoLine = refl
reason_of_number TooLarge = refl
reason_of_number Forbidden = refl
reason_of_number TooShort = refl

pub number_injective : (r s : Reason) → number_of r ≡ number_of s → r ≡ s
number_injective r s e = sym (reason_of_number r) ∙ ap reason_of e ∙ reason_of_number s

-- and none has the number 0
pub some_number : (reason : Reason) → 1 ≤ number_of reason
some_number reason = grind arith
