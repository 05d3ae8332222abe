-- What judging the operators in memory answers, against the definition.
use Rattle.std.specs.Prelude.{◌≡◌, [], ℕ, cond, eqb, Result, Ok, Err, IsSome, unwrap_or}
use Rattle.std.specs.Result.{result_unwrap_or}
use Rattle.base_refusal.specs.declared.Reason.{Reason}
use Rattle.base_refusal.specs.declared.Refusal.{Refusal}
use Rattle.base_refusal.specs.Refusal.{number_of, number_or_zero}
use Rattle.sheet_operator.specs.declared.Operator.{Operator}
use Rattle.sheet_operator.specs.Memory.{view, memory_number}
use Rattle.sheet_judge.specs.declared.Seen.{Seen}
use Rattle.sheet_judge.specs.Judge.{known, judge_by, after}
use Rattle.sheet_judge.specs.Seen.{known_by}
use Rattle.sheet.specs.declared.Sheet.{Sheet}
use Rattle.sheet.specs.Sheet.{view_to, view_sheet}
use Rattle.sheet.specs.Check.{stopped, kept, check_from}

-- one operator after those seen: its number in memory, then the judge's
abbrev pub judged_number : Sheet → Seen → Operator → ℕ
judged_number t seen o =
    cond (eqb (memory_number o) 0) (judge_by t.queues t.variables (known_by seen) (view o)) (memory_number o)

-- and what is then known: with the operator where it is kept, else what was known before
pub record Judged (t : Sheet) (seen : Seen) (o : Operator) (r : Result Seen Reason) : Type 0 where
  pub number : number_or_zero r ≡ judged_number t seen o
  pub known : known_by (result_unwrap_or r seen) ≡ cond (eqb (number_or_zero r) 0) (after (known_by seen) (view o)) (known_by seen)

-- all of them: every operator is kept and known, or the first that is not is told at its record
abbrev pub Judges : Sheet → Result Seen Refusal → Type 0
Judges t (Ok seen) = (check_from t t.count (view_to t 0) ≡ kept (view_sheet t) []) × (known_by seen ≡ known (view_sheet t))
Judges t (Err e) = (check_from t t.count (view_to t 0) ≡ stopped (number_of e.reason) (unwrap_or e.spot 0)) × IsSome e.spot
