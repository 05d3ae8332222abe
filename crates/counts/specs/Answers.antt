-- What the calm test and the worst counts answer, on any sheet in memory.
use Rattle.std.specs.Prelude.{◌≡◌, Bool, false, cond, ◌&&◌, List, ℕ, replicate, Result}
use Rattle.std.specs.Result.{result_unwrap_or}
use Rattle.base_refusal.specs.declared.Refusal.{Refusal}
use Rattle.base_bounds.specs.Bounds.{QUEUES}
use Rattle.sheet.specs.declared.Sheet.{Sheet}
use Rattle.sheet.specs.Answer.{Paper, accepted, refused, is_accepted, paper}
use Rattle.sheet.specs.Sheet.{view_sheet}
use Rattle.sheet.specs.Check.{check_of}
use Rattle.counts.specs.Calm.{is_calm}
use Rattle.counts.specs.Worst.{feed_good, worst_from}

-- the sheet's own refusal; else calm or not
pub record Calms (t : Sheet) (r : Result Bool Refusal) : Type 0 where
  pub answer : paper r ≡ check_of t
  pub calm : result_unwrap_or r false ≡ (is_accepted (check_of t) && is_calm (view_sheet t))

-- the sheet's own refusal, then 8, each with 24 zeros; else the counts
pub record Counting : Type 0 where
  pub answer : Paper
  pub counts : List ℕ

abbrev pub no_counts : Paper → Counting
no_counts p = record { answer = p; counts = replicate QUEUES 0 }

unfoldable pub worst_of : Sheet → List ℕ → Counting
worst_of t fed =
    cond (is_accepted (check_of t))
    (cond (feed_good t.inputs fed) (record { answer = accepted; counts = worst_from fed (view_sheet t).ops }) (no_counts (refused 8)))
    (no_counts (check_of t))

pub record Worsts (t : Sheet) (fed : List ℕ) (r : Result (List ℕ) Refusal) : Type 0 where
  pub answer : paper r ≡ (worst_of t fed).answer
  pub counts : result_unwrap_or r (replicate QUEUES 0) ≡ (worst_of t fed).counts
