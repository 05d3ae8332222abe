-- Each call has one outcome: what the definitions ask of an answer leaves no choice.
-- Assumes nothing.
use mathlib.Core.Path.{◌≡◌, ◌∙◌, sym}
use mathlib.Core.Bool.{Bool, false}
use mathlib.Core.List.{List}
use Prim.Native.Nat.{ℕ}
use lib.ListN.{replicate}
use Rattle.std.specs.Prelude.{Result}
use Rattle.base_bounds.specs.Bounds.{QUEUES}
use Rattle.base_refusal.specs.declared.Refusal.{Refusal}
use Rattle.sheet.specs.declared.Sheet.{Sheet}
use Rattle.sheet.proofs.AnswerLaws.{answer_injective}
use Rattle.counts.specs.Answers.{Calms, Worsts}

pub calm_one : {t : Sheet} {r r' : Result Bool Refusal} → Calms t r → Calms t r' → r ≡ r'
calm_one {t} {r} {r'} h k = answer_injective r r' false (h.answer ∙ sym k.answer) (h.calm ∙ sym k.calm)

pub worst_one : {t : Sheet} {fed : List ℕ} {r r' : Result (List ℕ) Refusal} → Worsts t fed r → Worsts t fed r' → r ≡ r'
worst_one {t} {fed} {r} {r'} h k = answer_injective r r' (replicate QUEUES 0) (h.answer ∙ sym k.answer) (h.counts ∙ sym k.counts)
