-- The check of a sheet's operators, turn by turn: one operator more, the first that is refused, and the end.
-- Assumes nothing.
use mathlib.Core.Path.{◌≡◌, refl, ap, ◌∙◌, sym}
use mathlib.Core.Logic.{◌⊎◌, inl, inr, ⊎_elim}
use mathlib.Core.Bool.{Bool, true, false, cond}
use mathlib.Core.List.{List, []}
use Prim.Native.Nat.{ℕ, zero, suc, ◌+◌, ◌-◌, ◌<◌, ◌≤◌}
use native.Mathlib.Omega.{arith}
use lib.Dec.{eqb}
use lib.ListN.{length}
use borrow.Author.Tests.{eq-eqb, ne_eqb}
use Rattle.base_lists.proofs.Build.{build_length, build_snoc, same_or}
use Rattle.base_lists.proofs.Tests.{cond_le}
use Rattle.sheet_operator.specs.Op.{Op, Abstract, with}
use Rattle.sheet_operator.specs.Memory.{view, memory_number, is_empty, tidy}
use Rattle.sheet_operator.specs.declared.Operator.{Operator}
use Rattle.sheet_judge.specs.Judge.{Known, four, five, six, seven, judge_by, judge, known}
use Rattle.sheet.specs.declared.Sheet.{Sheet}
use Rattle.sheet.specs.Sheet.{op_at, view_to}
use Rattle.sheet.specs.Check.{stopped, kept, number_in, check_from}

pub view_more : (t : Sheet) (i : ℕ) → with (view_to t i) (view (op_at t i)) ≡ view_to t (i + 1)
view_more t i =
    ap (λ (os : List Op). record { inputs = t.inputs; queues = t.queues; variables = t.variables; ops = os })
    (sym (build_snoc i (λ (k : ℕ). view (op_at t k))))

-- the number of the operator at a place, after those before it
abbrev pub number_at : Sheet → ℕ → ℕ
number_at t i = number_in (view_to t i) (op_at t i)

-- one operator of those that are left
turn : (t : Sheet) (n i m : ℕ) → m ≡ i →
    cond (eqb (number_in (view_to t i) (op_at t m)) 0) (check_from t n (with (view_to t i) (view (op_at t m)))) (stopped (number_in (view_to t i) (op_at t m)) (m + 1))
    ≡ cond (eqb (number_at t i) 0) (check_from t n (view_to t (i + 1))) (stopped (number_at t i) (i + 1))
turn t n i m e = rw (e, view_more)

check_suc : (t : Sheet) (n i : ℕ) →
    check_from t (suc n) (view_to t i) ≡ cond (eqb (number_at t i) 0) (check_from t n (view_to t (i + 1))) (stopped (number_at t i) (i + 1))
unfolding check_from
check_suc t n i = turn t n i (length (view_to t i).ops) (build_length i (λ (k : ℕ). view (op_at t k)))

check_more : (t : Sheet) (n i : ℕ) → number_at t i ≡ 0 → check_from t (suc n) (view_to t i) ≡ check_from t n (view_to t (i + 1))
check_more t n i h =
    check_suc t n i ∙ ap (λ (b : Bool). cond b (check_from t n (view_to t (i + 1))) (stopped (number_at t i) (i + 1))) (eq-eqb (number_at t i) 0 h)

check_refuse : (t : Sheet) (n i : ℕ) → (number_at t i ≡ 0 → ⊥) → check_from t (suc n) (view_to t i) ≡ stopped (number_at t i) (i + 1)
check_refuse t n i h =
    check_suc t n i ∙ ap (λ (b : Bool). cond b (check_from t n (view_to t (i + 1))) (stopped (number_at t i) (i + 1))) (ne_eqb (number_at t i) 0 h)

-- the same at turn i of a loop over n operators
pub check_next : (t : Sheet) (n i : ℕ) → i < n → number_in (view_to t i) (op_at t i) ≡ 0 →
    check_from t (n - i) (view_to t i) ≡ check_from t (n - (i + 1)) (view_to t (i + 1))
check_next t n i l h =
    let e : n - i ≡ suc (n - (i + 1)) = omega arith in
    ap (λ (m : ℕ). check_from t m (view_to t i)) e ∙ check_more t (n - (i + 1)) i h

pub check_stop : (t : Sheet) (n i : ℕ) → i < n → (number_in (view_to t i) (op_at t i) ≡ 0 → ⊥) →
    check_from t (n - i) (view_to t i) ≡ stopped (number_in (view_to t i) (op_at t i)) (i + 1)
check_stop t n i l h =
    let e : n - i ≡ suc (n - (i + 1)) = omega arith in
    ap (λ (m : ℕ). check_from t m (view_to t i)) e ∙ check_refuse t (n - (i + 1)) i h

check_none : (t : Sheet) (m i n : ℕ) → m ≡ 0 → i ≡ n → check_from t m (view_to t i) ≡ kept (view_to t n) []
unfolding check_from
check_none t m i n e d = rw (e, d)

pub check_end_lem : (t : Sheet) (n i : ℕ) → n ≤ i → i ≤ n → check_from t (n - i) (view_to t i) ≡ kept (view_to t n) []
check_end_lem t n i a b = check_none t (n - i) i n (omega arith) (omega arith)

-- an operator's number is 0 exactly where its places and the judge give 0
parts_zero : (m j : ℕ) → cond (eqb m 0) j m ≡ 0 → (m ≡ 0) × (j ≡ 0)
parts_zero m j h =
    ⊎_elim (λ (e : m ≡ 0). (e, ap (λ (b : Bool). cond b j m) (sym (eq-eqb m 0 e)) ∙ h))
    (λ (ne : m ≡ 0 → ⊥). absurd (ne (ap (λ (b : Bool). cond b j m) (sym (ne_eqb m 0 ne)) ∙ h)))
    (same_or m 0)

pub number_parts : (a : Abstract) (o : Operator) → number_in a o ≡ 0 → (memory_number o ≡ 0) × (judge a (view o) ≡ 0)
number_parts a o h = parts_zero (memory_number o) (judge a (view o)) h

pub number_of_parts : (a : Abstract) (o : Operator) → memory_number o ≡ 0 → judge a (view o) ≡ 0 → number_in a o ≡ 0
number_of_parts a o m j = ap (λ (b : Bool). cond b (judge a (view o)) (memory_number o)) (eq-eqb (memory_number o) 0 m) ∙ j

-- no number is above 7
memory_most : (o : Operator) → memory_number o ≤ 7
unfolding memory_number
memory_most o = cond_le (is_empty o.kind) 2 (cond (tidy o) 0 1) 7 (omega arith) (cond_le (tidy o) 0 1 7 (omega arith) (omega arith))

judge_most : (a b c d : Bool) → cond a (cond b (cond c (cond d 0 7) 6) 5) 4 ≤ 7
judge_most true true true true = omega arith
judge_most true true true false = omega arith
judge_most true true false d = omega arith
judge_most true false c d = omega arith
judge_most false b c d = omega arith

pub judged_most : (Q vs : ℕ) (k : Known) (o : Op) → judge_by Q vs k o ≤ 7
unfolding judge_by
judged_most Q vs k o = judge_most (four Q k o) (five k o) (six vs k o) (seven o)

pub number_most : (a : Abstract) (o : Operator) → number_in a o ≤ 7
number_most a o =
    cond_le (eqb (memory_number o) 0) (judge a (view o)) (memory_number o) 7 (judged_most a.queues a.variables (known a) (view o))
    (memory_most o)

-- what the check of the n operators from i on comes to: each is numbered 0, or one is refused
pub record Keeps (t : Sheet) (n i : ℕ) : Type 0 where
  pub keeps : check_from t n (view_to t i) ≡ kept (view_to t (i + n)) []
  pub zeros : (j : ℕ) → i ≤ j → j < i + n → number_at t j ≡ 0

pub record Stops (t : Sheet) (n i : ℕ) : Type 0 where
  pub number : ℕ
  pub spot : ℕ
  pub stops : check_from t n (view_to t i) ≡ stopped number spot
  pub least : 1 ≤ number
  pub most : number ≤ 7
  pub within : spot ≤ i + n

pub check_zeros : (t : Sheet) (n i : ℕ) → ((j : ℕ) → i ≤ j → j < i + n → number_at t j ≡ 0) → check_from t n (view_to t i) ≡ kept (view_to t (i + n)) []
check_zeros t zero i h = check_none t 0 i (i + 0) refl (omega arith)
check_zeros t (suc n) i h =
    let e : i + 1 + n ≡ i + suc n = omega arith in
    check_more t n i (h i (omega arith) (omega arith)) ∙ check_zeros t n (i + 1) (λ j a b. h j (omega arith) (omega arith))
    ∙ ap (λ (m : ℕ). kept (view_to t m) []) e

pub check_cases : (t : Sheet) (n i : ℕ) → Keeps t n i ⊎ Stops t n i
check_cases t zero i = inl (record { keeps = check_none t 0 i (i + 0) refl (omega arith); zeros = λ j a b. absurd (omega arith) })
check_cases t (suc n) i =
    ⊎_elim
    (λ (z : number_at t i ≡ 0).
    ⊎_elim (λ (k : Keeps t n (i + 1)). inl (keeps_more t n i z k)) (λ (s : Stops t n (i + 1)). inr (stops_more t n i z s)) (check_cases t n (i + 1)))
    (λ (nz : number_at t i ≡ 0 → ⊥).
    inr
    (record {
      number = number_at t i;
      spot = i + 1;
      stops = check_refuse t n i nz;
      least = omega arith;
      most = number_most (view_to t i) (op_at t i);
      within = omega arith;
    }))
    (same_or (number_at t i) 0)
  where
    keeps_more : (t : Sheet) (n i : ℕ) → number_at t i ≡ 0 → Keeps t n (i + 1) → Keeps t (suc n) i
    keeps_more t n i z k =
        let all_zero : (j : ℕ) → i ≤ j → j < i + suc n → number_at t j ≡ 0 =
        λ j a b.
        ⊎_elim (λ (e : j ≡ i). ap (number_at t) e ∙ z) (λ (ne : j ≡ i → ⊥). k.zeros j (omega arith) (omega arith)) (same_or j i) in
        record { keeps = check_zeros t (suc n) i all_zero; zeros = all_zero }

    stops_more : (t : Sheet) (n i : ℕ) → number_at t i ≡ 0 → Stops t n (i + 1) → Stops t (suc n) i
    stops_more t n i z s =
        record {
          number = s.number;
          spot = s.spot;
          stops = check_more t n i z ∙ s.stops;
          least = s.least;
          most = s.most;
          within = omega (arith, s.within);
        }
