-- Two outcomes of the call that asks for a reader, if both meet its contract, are equal; the other calls' theorems stand with the machine.
-- Assumes nothing.
use mathlib.Core.Path.{◌≡◌, sym, ◌∙◌}
use Prim.Native.Nat.{ℕ}
use Rattle.std.specs.Prelude.{Result}
use Rattle.base_bounds.specs.Bounds.{OPERATORS}
use Rattle.base_refusal.specs.declared.Refusal.{Refusal}
use Rattle.sheet.proofs.AnswerLaws.{answer_injective}
use Rattle.run_machine.specs.Readers.{ReaderCall, ReaderAnswers}

pub reader_one : {c : ReaderCall} {r r' : Result ℕ Refusal} → ReaderAnswers c r → ReaderAnswers c r' → r ≡ r'
reader_one {r = r} {r' = r'} h k = answer_injective r r' OPERATORS (h.answered ∙ sym k.answered) (h.placed ∙ sym k.placed)
