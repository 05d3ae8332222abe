-- Two outcomes that meet the contract of `try_input` are equal.
-- Assumes nothing.
use mathlib.Core.Path.{◌≡◌, sym, ◌∙◌}
use mathlib.Core.List.{List}
use lib.IntN.{ℤ}
use Rattle.std.specs.Prelude.{Result}
use Rattle.base_refusal.specs.declared.Refusal.{Refusal}
use Rattle.sheet.proofs.AnswerLaws.{answer_injective}
use Rattle.bench_trial.specs.declared.Tried.{Tried}
use Rattle.bench_trial.specs.Trial.{Trial}
use Rattle.bench_trial.specs.Tries.{none_tried, Tries}

pub tried_one : {f : Trial} {before after after' : List ℤ} {r r' : Result Tried Refusal} → Tries f before r after → Tries f before r' after' →
    (r ≡ r') × (after ≡ after')
tried_one {r = r} {r' = r'} h k =
    (answer_injective r r' none_tried (h.answered ∙ sym k.answered) (h.tried ∙ sym k.tried), h.stored ∙ sym k.stored)
