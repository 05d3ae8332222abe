-- The round trip of the program has one outcome: two that meet the same contract are equal.
-- Assumes nothing.
use mathlib.Core.Path.{◌≡◌, ◌∙◌, sym}
use mathlib.Core.List.{List}
use Prim.Native.Nat.{ℕ}
use Rattle.std.specs.Prelude.{Result}
use Rattle.base_refusal.specs.declared.Refusal.{Refusal}
use Rattle.sheet.specs.declared.Sheet.{Sheet}
use Rattle.sheet.specs.Sheet.{no_sheet}
use Rattle.sheet.proofs.AnswerLaws.{answer_injective}
use Rattle.codec.specs.Again.{Agains}

pub again_one : (t : Sheet) (l m m' : List ℕ) (r r' : Result Sheet Refusal) → Agains t l m r → Agains t l m' r' → (r ≡ r') × (m ≡ m')
again_one t l m m' r r' f g = (answer_injective r r' no_sheet (f.answer ∙ sym g.answer) (f.sheet ∙ sym g.sheet), f.buffer ∙ sym g.buffer)
