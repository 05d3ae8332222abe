-- The check of a sheet in memory: records in order, then what stands past the last operator, then queues that are never defined.
use Rattle.std.specs.Prelude.{ℕ, zero, suc, ◌+◌, Bool, cond, not, ◌||◌, List, [], eqb, ltb, length}
use Rattle.base_lists.specs.Lists.{build, all}
use Rattle.sheet_operator.specs.Op.{Abstract, with}
use Rattle.sheet_operator.specs.Memory.{view, memory_number, vacant}
use Rattle.sheet_operator.specs.declared.Operator.{Operator}
use Rattle.sheet_judge.specs.Judge.{known, judge, whole}
use Rattle.sheet_format.specs.Head.{head_good}
use Rattle.base_bounds.specs.Bounds.{OPERATORS}
use Rattle.sheet.specs.declared.Sheet.{Sheet}
use Rattle.sheet.specs.Answer.{Paper, accepted, refused_at}
use Rattle.sheet.specs.Sheet.{op_at, view_to}

-- the sheet that is kept and the bytes after it, or the refusal and its record
pub data Kept : Type 0 where
  stopped : (number spot : ℕ) → Kept
  kept : Abstract → List ℕ → Kept

-- the record of the next operator: the head is record 0, operator i is record i + 1
abbrev pub next_record : Abstract → ℕ
next_record a = length a.ops + 1

-- an operator in memory after those kept: 2 and 1, then the judge
abbrev pub number_in : Abstract → Operator → ℕ
number_in a o = cond (eqb (memory_number o) 0) (judge a (view o)) (memory_number o)

-- the n operators after those kept
unfoldable pub check_from : Sheet → ℕ → Abstract → Kept
check_from t zero a = kept a []
check_from t (suc n) a =
    let o = op_at t (length a.ops) in
    cond (eqb (number_in a o) 0) (check_from t n (with a (view o))) (stopped (number_in a o) (next_record a))

-- at record N+1: 1 where something is left over, then 5 where a queue is never defined
unfoldable pub ending : Bool → Abstract → Paper
ending over a = cond over (refused_at 1 (next_record a)) (cond (whole a.queues (known a)) accepted (refused_at 5 (next_record a)))

-- every place from N on holds the empty operator
abbrev pub vacant_from : Sheet → Bool
vacant_from t = all (λ (k : ℕ). ltb k t.count || vacant (op_at t k)) (build OPERATORS (λ (k : ℕ). k))

abbrev pub check_end : Sheet → Kept → Paper
check_end t (stopped number spot) = refused_at number spot
check_end t (kept a rest) = ending (not (vacant_from t)) a

unfoldable pub check_of : Sheet → Paper
check_of t =
    cond (head_good t.inputs t.queues t.variables t.count) (check_end t (check_from t t.count (view_to t 0))) (refused_at 3 0)
