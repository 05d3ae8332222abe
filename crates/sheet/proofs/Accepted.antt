-- What an accepted sheet satisfies, place by place, and that it is accepted for no other reason; and what a refusal of a sheet carries.
-- Assumes nothing.
use mathlib.Core.Path.{◌≡◌, refl, ap, ◌∙◌, sym}
use mathlib.Core.Logic.{◌⊎◌, inl, inr, ⊎_elim}
use mathlib.Core.Bool.{Bool, true, false, cond, not, ◌||◌}
use mathlib.Core.List.{[]}
use Prim.Native.Nat.{ℕ, ◌+◌, ◌<◌, ◌≤◌}
use native.Mathlib.Nat.{zero-add}
use native.Mathlib.Omega.{arith}
use lib.Dec.{ltb}
use borrow.Author.Tests.{lt-ltb, le-ltb}
use Rattle.base_lists.proofs.Build.{order, build_length}
use Rattle.base_lists.proofs.Tests.{all_build, all_build_of}
use Rattle.sheet_operator.specs.Memory.{view, memory_number, vacant}
use Rattle.sheet_judge.specs.Judge.{known, judge, whole}
use Rattle.sheet_format.specs.Head.{head_good}
use Rattle.base_bounds.specs.Bounds.{OPERATORS}
use Rattle.sheet_format.proofs.Heads.{HeadRanges, ranges_of_good}
use Rattle.sheet.specs.declared.Sheet.{Sheet}
use Rattle.sheet.specs.Answer.{accepted, refused_at, refused}
use Rattle.sheet.specs.Sheet.{op_at, view_to, view_sheet}
use Rattle.sheet.specs.Check.{Kept, stopped, kept, check_from, ending, vacant_from, check_end, check_of}
use Rattle.sheet.proofs.AnswerLaws.{same_refusal, record_apart}
use Rattle.sheet.proofs.Turns.{number_parts, number_of_parts, Keeps, Stops, check_cases, check_zeros}

pub record Accepted (t : Sheet) : Type 0 where
  pub head : head_good t.inputs t.queues t.variables t.count ≡ true
  pub shaped : (i : ℕ) → i < t.count → memory_number (op_at t i) ≡ 0
  pub judged : (i : ℕ) → i < t.count → judge (view_to t i) (view (op_at t i)) ≡ 0
  pub vacant : (i : ℕ) → t.count ≤ i → i < OPERATORS → vacant (op_at t i) ≡ true
  pub defined : whole t.queues (known (view_sheet t)) ≡ true

-- the other way in which a check of a sheet ends: with a number, and the record where it stopped
pub record Refuses (t : Sheet) : Type 0 where
  pub number : ℕ
  pub spot : ℕ
  pub refuses : check_of t ≡ refused_at number spot
  pub least : 1 ≤ number
  pub most : number ≤ 7
  pub within : spot ≤ t.count + 1

-- the places past the last operator
vacant_at : (t : Sheet) → vacant_from t ≡ true → (i : ℕ) → t.count ≤ i → i < OPERATORS → vacant (op_at t i) ≡ true
vacant_at t h i l b = simp (le-ltb i t.count l) at (all_build (λ (k : ℕ). ltb k t.count || vacant (op_at t k)) OPERATORS (λ (k : ℕ). k) h i b)

vacant_all : (t : Sheet) → ((i : ℕ) → t.count ≤ i → i < OPERATORS → vacant (op_at t i) ≡ true) → vacant_from t ≡ true
vacant_all t h =
    all_build_of (λ (k : ℕ). ltb k t.count || vacant (op_at t k)) OPERATORS (λ (k : ℕ). k)
    (λ k b. ⊎_elim (λ (l : k < t.count). rw (lt-ltb k t.count l)) (λ (l : t.count ≤ k). rw (le-ltb k t.count l) (h k l b)) (order k t.count))

-- a case of the check, from what it tests
check_good : (t : Sheet) (k : Kept) → head_good t.inputs t.queues t.variables t.count ≡ true → check_from t t.count (view_to t 0) ≡ k →
    check_of t ≡ check_end t k
unfolding check_of
check_good t k h e = rw (h, e)

check_bad_head : (t : Sheet) → head_good t.inputs t.queues t.variables t.count ≡ false → check_of t ≡ refused_at 3 0
unfolding check_of
check_bad_head t h = rw h

check_ends : (t : Sheet) (v w : Bool) → vacant_from t ≡ v → whole t.queues (known (view_sheet t)) ≡ w →
    check_end t (kept (view_sheet t) []) ≡ cond (not v) (refused_at 1 (t.count + 1)) (cond w accepted (refused_at 5 (t.count + 1)))
unfolding ending
check_ends t v w e d = rw (e, d, build_length)

check_kept : (t : Sheet) → Keeps t t.count 0 → check_from t t.count (view_to t 0) ≡ kept (view_sheet t) []
check_kept t k = k.keeps ∙ ap (λ (m : ℕ). kept (view_to t m) []) (zero-add t.count)

pub facts_accepted : (t : Sheet) → Accepted t → check_of t ≡ accepted
facts_accepted t f =
    let k = check_zeros t t.count 0 (λ j a b. number_of_parts (view_to t j) (op_at t j) (f.shaped j (omega arith)) (f.judged j (omega arith))) in
    check_good t (kept (view_sheet t) []) f.head (k ∙ ap (λ (m : ℕ). kept (view_to t m) []) (zero-add t.count))
    ∙ check_ends t true true (vacant_all t f.vacant) f.defined

cases : (t : Sheet) (h v w : Bool) → head_good t.inputs t.queues t.variables t.count ≡ h → vacant_from t ≡ v →
    whole t.queues (known (view_sheet t)) ≡ w → Keeps t t.count 0 ⊎ Stops t t.count 0 → Accepted t ⊎ Refuses t
cases t false v w e d g k =
    inr (record { number = 3; spot = 0; refuses = check_bad_head t e; least = omega arith; most = omega arith; within = omega arith })
cases t true v w e d g (inr s) =
    inr
    (record {
      number = s.number;
      spot = s.spot;
      refuses = check_good t (stopped s.number s.spot) e s.stops;
      least = s.least;
      most = s.most;
      within = omega (arith, s.within);
    })
cases t true false w e d g (inl k) =
    inr
    (record {
      number = 1;
      spot = t.count + 1;
      refuses = check_good t (kept (view_sheet t) []) e (check_kept t k) ∙ check_ends t false w d g;
      least = omega arith;
      most = omega arith;
      within = omega arith;
    })
cases t true true false e d g (inl k) =
    inr
    (record {
      number = 5;
      spot = t.count + 1;
      refuses = check_good t (kept (view_sheet t) []) e (check_kept t k) ∙ check_ends t true false d g;
      least = omega arith;
      most = omega arith;
      within = omega arith;
    })
cases t true true true e d g (inl k) =
    inl
    (record {
      head = e;
      shaped = λ i l. (number_parts (view_to t i) (op_at t i) (k.zeros i (omega arith) (omega arith))).0;
      judged = λ i l. (number_parts (view_to t i) (op_at t i) (k.zeros i (omega arith) (omega arith))).1;
      vacant = vacant_at t d;
      defined = g;
    })

pub check_answers : (t : Sheet) → Accepted t ⊎ Refuses t
check_answers t = cases t _ _ _ refl refl refl (check_cases t t.count 0)

pub accepted_facts : (t : Sheet) → check_of t ≡ accepted → Accepted t
accepted_facts t h =
    ⊎_elim (λ f. f) (λ (r : Refuses t). let z : ◌≡◌ {A = ℕ} 0 1 = cc r.refuses in absurd (omega arith)) (check_answers t)

-- a refusal of a sheet carries a number and a record
pub refusal_bounds : (t : Sheet) (number spot : ℕ) → check_of t ≡ refused_at number spot → (1 ≤ number) × (number ≤ 7) × (spot ≤ t.count + 1)
refusal_bounds t number spot h =
    ⊎_elim (λ (f : Accepted t). let z : ◌≡◌ {A = ℕ} 0 1 = cc (facts_accepted t f) in absurd (omega arith))
    (λ (r : Refuses t). let e = same_refusal r.number number r.spot spot (sym r.refuses ∙ h) in omega (arith, r.least, r.most, r.within))
    (check_answers t)

pub refusal_record : (t : Sheet) (number spot : ℕ) → check_of t ≡ refused_at number spot → spot ≤ t.count + 1
refusal_record t number spot h = (refusal_bounds t number spot h).2

pub refusal_number : (t : Sheet) (number spot : ℕ) → check_of t ≡ refused_at number spot → (1 ≤ number) × (number ≤ 7)
refusal_number t number spot h = let b = refusal_bounds t number spot h in (b.0, b.1)

pub refusal_has_record : (t : Sheet) (n : ℕ) → check_of t ≡ refused n → ⊥
refusal_has_record t n h =
    ⊎_elim (λ (f : Accepted t). let z : ◌≡◌ {A = ℕ} 0 1 = cc (facts_accepted t f) in omega arith)
    (λ (r : Refuses t). record_apart r.number n r.spot (sym r.refuses ∙ h))
    (check_answers t)

-- an accepted sheet's head lies in its ranges
pub ranges_of_accepted : (t : Sheet) → check_of t ≡ accepted → HeadRanges t.inputs t.queues t.variables t.count
ranges_of_accepted t h = ranges_of_good t.inputs t.queues t.variables t.count (accepted_facts t h).head
