-- Reading a text has one outcome: two that meet the same contract are equal.
-- Assumes nothing.
use mathlib.Core.Path.{◌≡◌, ◌∙◌, sym}
use mathlib.Core.List.{List}
use Prim.Native.Nat.{ℕ}
use Rattle.std.specs.Prelude.{Result}
use Rattle.sheet.specs.declared.Sheet.{Sheet}
use Rattle.sheet.specs.Sheet.{no_sheet}
use Rattle.text_read.specs.declared.TextRefusal.{TextRefusal}
use Rattle.text_read.specs.Reads.{ReadsText}
use Rattle.text_read.proofs.AnswerLaws.{text_paper_injective}

pub read_text_one : (s : List ℕ) (r r' : Result Sheet TextRefusal) → ReadsText s r → ReadsText s r' → r ≡ r'
read_text_one s r r' f g = text_paper_injective r r' no_sheet (f.answer ∙ sym g.answer) (f.sheet ∙ sym g.sheet)
