-- Reading has one outcome: two that meet the same contract are equal.
-- Assumes nothing.
use mathlib.Core.Path.{◌≡◌, ◌∙◌, sym}
use mathlib.Core.Bool.{Bool}
use mathlib.Core.List.{List}
use Prim.Native.Nat.{ℕ}
use Rattle.std.specs.Prelude.{Result}
use Rattle.base_refusal.specs.declared.Refusal.{Refusal}
use Rattle.sheet.specs.declared.Sheet.{Sheet}
use Rattle.sheet.specs.Sheet.{no_sheet}
use Rattle.sheet.proofs.AnswerLaws.{answer_injective}
use Rattle.codec_read.specs.declared.Front.{Front}
use Rattle.codec_read.specs.Fronts.{no_front, Fronts, Reads}

front_eq : {t t' : Sheet} {n n' : ℕ} {w w' : Bool} → t ≡ t' → n ≡ n' → w ≡ w' →
    ◌≡◌ {A = Front} (record { sheet = t; end = n; whole = w }) (record { sheet = t'; end = n'; whole = w' })
front_eq p q r = cc

pub front_one : (s : List ℕ) (r r' : Result Front Refusal) → Fronts s r → Fronts s r' → r ≡ r'
front_one s r r' f g =
    answer_injective r r' no_front (f.answer ∙ sym g.answer) (front_eq (f.sheet ∙ sym g.sheet) (f.end ∙ sym g.end) (f.whole ∙ sym g.whole))

pub read_one : (s : List ℕ) (r r' : Result Sheet Refusal) → Reads s r → Reads s r' → r ≡ r'
read_one s r r' f g = answer_injective r r' no_sheet (f.answer ∙ sym g.answer) (f.sheet ∙ sym g.sheet)
