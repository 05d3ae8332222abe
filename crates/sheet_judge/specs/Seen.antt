-- What is known of the operators kept, as flags; and what the judge's function answers.
use Rattle.std.specs.Prelude.{◌≡◌, true, cond, ℕ, eqb, ltb, Result}
use Rattle.std.specs.Result.{result_unwrap_or}
use Rattle.base_lists.specs.Lists.{all, has}
use Rattle.base_refusal.specs.declared.Reason.{Reason}
use Rattle.base_refusal.specs.Refusal.{number_or_zero}
use Rattle.sheet_operator.specs.Op.{reads, defines}
use Rattle.sheet_operator.specs.Memory.{view}
use Rattle.sheet_operator.specs.declared.Operator.{Operator}
use Rattle.sheet_sets.specs.Sets.{FLAGS}
use Rattle.sheet_judge.specs.declared.Seen.{Seen}
use Rattle.sheet_judge.specs.Judge.{Known, judge_by, after}

abbrev pub known_by : Seen → Known
known_by s = record { defined = has s.defined; used = has s.used; named = has s.named; cursor = has s.cursor }

-- its queues have flags
pub record Flagged (o : Operator) : Type 0 where
  pub ins : all (λ (q : ℕ). ltb q FLAGS) (reads (view o)) ≡ true
  pub outs : all (λ (q : ℕ). ltb q FLAGS) (defines (view o)) ≡ true

-- what the judge answers: its number, and what is then known: with the operator where it is kept, else what was known before
pub record Admits (queues variables : ℕ) (seen : Seen) (o : Operator) (r : Result Seen Reason) : Type 0 where
  pub number : number_or_zero r ≡ judge_by queues variables (known_by seen) (view o)
  pub known : known_by (result_unwrap_or r seen) ≡ cond (eqb (number_or_zero r) 0) (after (known_by seen) (view o)) (known_by seen)
