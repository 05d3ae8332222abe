-- Writing has one outcome: two that meet the same contract are equal, and so are the buffers.
-- Assumes nothing.
use mathlib.Core.Path.{◌≡◌, ◌∙◌, sym}
use mathlib.Core.List.{List}
use Prim.Native.Nat.{ℕ}
use Rattle.std.specs.Prelude.{Result}
use Rattle.base_refusal.specs.declared.Refusal.{Refusal}
use Rattle.sheet.specs.declared.Sheet.{Sheet}
use Rattle.sheet.proofs.AnswerLaws.{answer_injective}
use Rattle.codec_write.specs.Write.{Writing, write_of, Wrote, Writes}

pub wrote_one : (w : Writing) (m m' : List ℕ) (r r' : Result ℕ Refusal) → Wrote w m r → Wrote w m' r' → (r ≡ r') × (m ≡ m')
wrote_one w m m' r r' f g = (answer_injective r r' 0 (f.answer ∙ sym g.answer) (f.size ∙ sym g.size), f.buffer ∙ sym g.buffer)

pub write_one : (t : Sheet) (l m m' : List ℕ) (r r' : Result ℕ Refusal) → Writes t l m r → Writes t l m' r' → (r ≡ r') × (m ≡ m')
write_one t l = wrote_one (write_of t l)
