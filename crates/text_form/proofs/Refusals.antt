-- What reading a text can answer: accepted, 19 at one of its bytes or its end, or 3 to 7 at a record. 1 and 2, of places that are not as they have to be, never
-- come, since the places are filled from operators of a text.
-- Assumes nothing.
use mathlib.Core.Path.{◌≡◌, refl, ap, ◌∙◌, sym}
use mathlib.Core.Logic.{⊎_elim}
use mathlib.Core.Bool.{Bool, true, false, cond, not, ◌||◌}
use mathlib.Core.List.{List, ◌∷◌}
use mathlib.Core.Option.{some, none}
use Prim.Native.Nat.{ℕ, zero, suc, ◌+◌, ◌-◌, ◌<◌, ◌≤◌}
use native.Mathlib.Nat.{sub-zero}
use native.Mathlib.Omega.{arith}
use lib.Dec.{ltb}
use lib.ListN.{length, length-append}
use borrow.Author.Tests.{lt-ltb, le-ltb, eq-eqb}
use Rattle.base_lists.proofs.Build.{order, same_or}
use Rattle.base_lists.proofs.Tests.{all_build_of}
use Rattle.base_bounds.specs.Bounds.{OPERATORS}
use Rattle.sheet_operator.specs.Op.{Op, Abstract}
use Rattle.sheet_operator.specs.Memory.{view, memory_number, vacant}
use Rattle.sheet_operator.proofs.ViewLaws.{Small, number_memory, vacant_no_operator}
use Rattle.sheet_judge.specs.Judge.{Known, known, judge, judge_by, whole, four, five, six, seven}
use Rattle.sheet_format.specs.Head.{head_good}
use Rattle.sheet_format.proofs.Heads.{ranges_of_good}
use Rattle.sheet.specs.declared.Sheet.{Sheet}
use Rattle.sheet.specs.Answer.{Paper, accepted, refused_at, refused, is_accepted}
use Rattle.sheet.specs.Sheet.{op_at, view_to, memory_sheet}
use Rattle.sheet.specs.Check.{Kept, stopped, kept, next_record, number_in, check_from, ending, vacant_from, check_end, check_of}
use Rattle.sheet.proofs.AnswerLaws.{same_refusal, accepted_apart}
use Rattle.sheet.proofs.Accepted.{refusal_bounds, refusal_has_record}
use Rattle.sheet.proofs.Turns.{check_next, check_stop, check_end_lem}
use Rattle.sheet.proofs.Placed.{nth, place_used, place_past}
use Rattle.text_grammar.specs.Readers.{Tree}
use Rattle.text_grammar.specs.Tokens.{GoodTree}
use Rattle.text_form.specs.Form.{tree_of, sheet_of}
use Rattle.text_grammar.specs.Begins.{from_outputs, from_inputs}
use Rattle.text_form.specs.Reading.{at_record, TextPaper, outside, spotted, byte_of, same_list, lists_answer, tree_answer, read_text_of}
use Rattle.text_form.proofs.GoodSheet.{small_ops}
use Rattle.text_form.proofs.Outside.{OutsideExact, a_text, refused_at_lem, cut_short, outside_exact, text_never_outside}

-- ---- the check of a sheet whose places are filled from operators

judge_least : (a b c d : Bool) → (◌≡◌ {A = ℕ} (cond a (cond b (cond c (cond d 0 7) 6) 5) 4) 0 → ⊥) → 4 ≤ cond a (cond b (cond c (cond d 0 7) 6) 5) 4
judge_least true true true true h = absurd (h refl)
judge_least true true true false h = omega arith
judge_least true true false d h = omega arith
judge_least true false c d h = omega arith
judge_least false b c d h = omega arith

judged_least : (Q vs : ℕ) (k : Known) (o : Op) → (judge_by Q vs k o ≡ 0 → ⊥) → 4 ≤ judge_by Q vs k o
unfolding judge_by
judged_least Q vs k o h = judge_least (four Q k o) (five k o) (six vs k o) (seven o) h

stopped_is : {m n r s : ℕ} → stopped m r ≡ stopped n s → m ≡ n
stopped_is e = cc

not_stopped : {a : Abstract} {l : List ℕ} {n s : ℕ} → kept a l ≡ stopped n s → ⊥
not_stopped e = let z : ◌≡◌ {A = ℕ} 0 1 = cc in omega arith

-- the operators are refused by the judge, where their places are as they have to be
module _ (t : Sheet) (n : ℕ) (tidy : (j : ℕ) → j < n → memory_number (op_at t j) ≡ 0) where
  number_judged : (i : ℕ) → i < n → number_in (view_to t i) (op_at t i) ≡ judge (view_to t i) (view (op_at t i))
  number_judged i l =
      ap (λ (b : Bool). cond b (judge (view_to t i) (view (op_at t i))) (memory_number (op_at t i))) (eq-eqb (memory_number (op_at t i)) 0 (tidy i l))

  stops_from : (m i number spot : ℕ) → n - i ≡ m → i ≤ n → check_from t (n - i) (view_to t i) ≡ stopped number spot → 4 ≤ number
  stops_from zero i number spot e l h = absurd (not_stopped (sym (check_end_lem t n i (omega arith) l) ∙ h))
  stops_from (suc m) i number spot e l h =
      let b : i < n = omega arith in
      let f = number_judged i b in
      ⊎_elim
      (λ (z : number_in (view_to t i) (op_at t i) ≡ 0).
      stops_from m (i + 1) number spot (omega arith) (omega arith) (sym (check_next t n i b z) ∙ h))
      (λ (ne : number_in (view_to t i) (op_at t i) ≡ 0 → ⊥).
      omega (
        arith,
        f,
        stopped_is (sym (check_stop t n i b ne) ∙ h),
        judged_least t.queues t.variables (known (view_to t i)) (view (op_at t i)) (λ z. ne (f ∙ z)),
      ))
      (same_or (number_in (view_to t i) (op_at t i)) 0)

  stops_judged : (number spot : ℕ) → check_from t n (view_to t 0) ≡ stopped number spot → 4 ≤ number
  stops_judged number spot h = stops_from n 0 number spot (sub-zero n) (omega arith) (ap (λ (m : ℕ). check_from t m (view_to t 0)) (sub-zero n) ∙ h)

ended_number : (w : Bool) (k number spot : ℕ) → cond w accepted (refused_at 5 k) ≡ refused_at number spot → number ≡ 5
ended_number true k number spot h = absurd (accepted_apart number spot h)
ended_number false k number spot h = sym (same_refusal 5 number k spot h).0

module _ (b : Abstract) (small : (k : ℕ) → k < length b.ops → Small (nth b.ops k)) where
  filled_vacant : length b.ops ≤ OPERATORS → vacant_from (memory_sheet b) ≡ true
  filled_vacant room =
      let t = memory_sheet b in
      all_build_of (λ (k : ℕ). ltb k t.count || vacant (op_at t k)) OPERATORS (λ (k : ℕ). k)
      (λ k u.
      ⊎_elim (λ (l : k < t.count). rw (lt-ltb k t.count l))
      (λ (l : t.count ≤ k). rw (le-ltb k t.count l) (ap vacant (place_past b.ops k u l) ∙ vacant_no_operator))
      (order k t.count))

  end_least : (k : Kept) (number spot : ℕ) → length b.ops ≤ OPERATORS → ((m s : ℕ) → k ≡ stopped m s → 4 ≤ m) →
      check_end (memory_sheet b) k ≡ refused_at number spot → 3 ≤ number
  unfolding ending
  end_least (stopped m s) number spot room low h = omega (arith, low m s refl, (same_refusal m number s spot h).0)
  end_least (kept a rest) number spot room low h =
      omega (
        arith,
        ended_number (whole a.queues (known a)) (next_record a) number spot
            (sym (ap (λ (v : Bool). cond (not v) (refused_at 1 (next_record a)) (cond (whole a.queues (known a)) accepted (refused_at 5 (next_record a))))
            (filled_vacant room)) ∙ h),
      )

  least_by : (g : Bool) → head_good b.inputs b.queues b.variables (length b.ops) ≡ g → (number spot : ℕ) →
      check_of (memory_sheet b) ≡ refused_at number spot → (3 ≤ number) × (spot ≤ OPERATORS + 1)
  unfolding check_of
  least_by true e number spot h =
      let t = memory_sheet b in
      let room = (ranges_of_good b.inputs b.queues b.variables (length b.ops) e).count in
      let k = check_from t t.count (view_to t 0) in (
        end_least k number spot room
            (stops_judged t t.count (λ j l. ap memory_number (place_used b.ops j (omega arith) l) ∙ number_memory (nth b.ops j) (small j l)))
            (sym (ap (λ (g : Bool). cond g (check_end t k) (refused_at 3 0)) e) ∙ h),
        omega (arith, room, (refusal_bounds t number spot h).2),
      )
  least_by false e number spot h =
      let t = memory_sheet b in
      let f = same_refusal 3 number 0 spot (sym (ap (λ (g : Bool). cond g (check_end t (check_from t t.count (view_to t 0))) (refused_at 3 0)) e) ∙ h) in
      (omega (arith, f.0), omega (arith, f.1))

  -- such a sheet is never refused with 1 or 2
  pub filled_refusal : (number spot : ℕ) → check_of (memory_sheet b) ≡ refused_at number spot → (3 ≤ number) × (number ≤ 7) × (spot ≤ OPERATORS + 1)
  filled_refusal number spot h =
      let f = least_by (head_good b.inputs b.queues b.variables (length b.ops)) refl number spot h in
      (f.0, (refusal_bounds (memory_sheet b) number spot h).1, f.1)

-- ---- the answers of reading

pub data Answers (s : List ℕ) : TextPaper → Type 0 where
  accepts : Answers s none
  at_byte_lem : (byte : ℕ) → byte ≤ length s → Answers s (outside byte)
  at_record_lem : (number spot : ℕ) → 3 ≤ number → number ≤ 7 → spot ≤ OPERATORS + 1 → Answers s (some (number, at_record spot))

lists_say : (s : List ℕ) (a b : Bool) (i j : ℕ) → i ≤ length s → j ≤ length s → Answers s (cond a (cond b none (outside i)) (outside j))
lists_say s true true i j hi hj = accepts
lists_say s true false i j hi hj = at_byte_lem i hi
lists_say s false b i j hi hj = at_byte_lem j hj

byte_within : (s l : List ℕ) → byte_of s l ≤ length s
byte_within s l = omega arith

tree_says : (s : List ℕ) (t : Tree) (p : Paper) → GoodTree t → check_of (memory_sheet (sheet_of t)) ≡ p →
    Answers s (cond (is_accepted p) (lists_answer s t (tree_of (sheet_of t))) (spotted p))
tree_says s t none g e =
    let own = tree_of (sheet_of t) in
    lists_say s (same_list t.outputs own.outputs) (same_list t.inputs own.inputs) (byte_of s (from_inputs s)) (byte_of s (from_outputs s))
    (byte_within s (from_inputs s)) (byte_within s (from_outputs s))
tree_says s t (some (number, none)) g e = absurd (refusal_has_record (memory_sheet (sheet_of t)) number e)
tree_says s t (some (number, some spot)) g e =
    let f = filled_refusal (sheet_of t) (small_ops g.ops) number spot e in
    at_record_lem number spot f.0 f.1 f.2

answer_says : (s : List ℕ) (t : Tree) → GoodTree t → Answers s (tree_answer s t)
unfolding tree_answer
answer_says s t g = tree_says s t (check_of (memory_sheet (sheet_of t))) g refl

says_by : (s : List ℕ) → OutsideExact s → Answers s (read_text_of s).answer
says_by s (a_text t h e) = rw (text_never_outside t s h).1 (answer_says s t h.good)
says_by s (refused_at_lem u b v e g a c d) = rw a (at_byte_lem (length u) (omega (arith, ap length e, length-append u (b ∷ v))))
says_by s (cut_short g a c d) = rw a (at_byte_lem (length s) (omega arith))

pub read_refusal_numbers : (s : List ℕ) → Answers s (read_text_of s).answer
read_refusal_numbers s = says_by s (outside_exact s)
