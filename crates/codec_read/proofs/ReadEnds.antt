-- Where reading ends: what the front answers, with at most 16 operators and bytes left of those that were given, and what the whole answers.
-- Assumes nothing.
use mathlib.Core.Path.{◌≡◌, refl, ap, ◌∙◌, sym}
use mathlib.Core.Logic.{⊎_elim}
use mathlib.Core.Bool.{Bool, true, false, cond, not, ◌&&◌}
use mathlib.Core.List.{List, [], ◌∷◌}
use Prim.Native.Nat.{ℕ, zero, suc, ◌+◌, ◌-◌, ◌≤◌}
use native.Mathlib.Omega.{arith}
use lib.Dec.{eqb}
use lib.ListN.{length, get_or, drop, length-drop, length-append}
use borrow.Author.Tests.{eq-eqb, ne_eqb}
use Rattle.std.specs.Prelude.{Result, Ok, Err, Some}
use Rattle.base_number.specs.Number.{short_of}
use Rattle.base_lists.proofs.Build.{same_or}
use Rattle.base_refusal.specs.declared.Reason.{Reason}
use Rattle.base_refusal.specs.declared.Refusal.{Refusal}
use Rattle.base_refusal.specs.Refusal.{number_of, refusal}
use Rattle.sheet_operator.specs.Op.{Op, Abstract, with}
use Rattle.sheet_operator.specs.Memory.{is_empty}
use Rattle.sheet_judge.specs.Judge.{known, whole}
use Rattle.sheet_format.specs.Record.{HEADER, cut, body_good, kind_of, op_of, bad, took, taken, op_in, rest_in}
use Rattle.sheet_format.specs.Head.{HEAD_BYTES, head_number}
use Rattle.base_bounds.specs.Bounds.{OPERATORS}
use Rattle.sheet_format.proofs.Heads.{ranges_of_good, head_good_of_number}
use Rattle.sheet.specs.declared.Sheet.{Sheet}
use Rattle.sheet.specs.Answer.{accepted, refused_at, is_accepted}
use Rattle.sheet.specs.Sheet.{memory_sheet, no_sheet}
use Rattle.sheet.specs.Check.{Kept, stopped, kept, ending}
use Rattle.sheet.proofs.AnswerLaws.{accepted_apart, refusal_apart}
use Rattle.codec_read.specs.declared.Front.{Front}
use Rattle.codec_read.specs.Read.{number_after, read_from, head_in, front_of, front_answer, front_sheet, front_end, front_whole, read_end, read_of}
use Rattle.codec_read.specs.Fronts.{Fronts, Ends, Reads}
use Rattle.codec_read.proofs.Turns.{read_more, read_refuse, read_none}
use Rattle.codec_read.proofs.Reading.{front_good, front_bad}

-- how reading the head and the operators ended, as the function answers it
pub fronts_stopped : (s : List ℕ) (e : Refusal) (reason : Reason) (spot : ℕ) → front_of s ≡ stopped (number_of reason) spot →
    e ≡ refusal reason (Some spot) → Fronts s (Err e)
fronts_stopped s e reason spot f h =
    rw h
    (record {
      answer = ap front_answer (sym f);
      sheet = ap front_sheet (sym f);
      end = ap (front_end (length s)) (sym f);
      whole = ap front_whole (sym f);
    })

pub fronts_kept : (s : List ℕ) (a : Abstract) (t : Sheet) (at : ℕ) (w : Bool) → front_of s ≡ kept a (drop at s) → t ≡ memory_sheet a → at ≤ length s →
    w ≡ whole a.queues (known a) → Fronts s (Ok (record { sheet = t; end = at; whole = w }))
fronts_kept s a t at w e h b d =
    let n : at ≡ length s - length (drop at s) = omega (arith, length-drop at s) in
    record {
      answer = ap front_answer (sym e);
      sheet = h ∙ ap front_sheet (sym e);
      end = n ∙ ap (front_end (length s)) (sym e);
      whole = d ∙ ap front_whole (sym e);
    }

-- a record takes bytes away, or none
rest_tests : (x y z : Bool) (a : Op) (r s : List ℕ) → length r ≤ length s →
    length (rest_in (cond x (bad 1) (cond y (bad 2) (cond z (took a r) (bad 1))))) ≤ length s
rest_tests true y z a r s l = omega arith
rest_tests false true z a r s l = omega arith
rest_tests false false true a r s l = l
rest_tests false false false a r s l = omega arith

rest_shorter : (s : List ℕ) → length (rest_in (taken s)) ≤ length s
unfolding taken
rest_shorter s =
    let k = kind_of (short_of (drop 2 s)) in
    let b = drop HEADER s in
    rest_tests (cut s) (is_empty k) (body_good k (short_of s)) (op_of k (short_of s) b) (drop (short_of s) b) s
    (omega (arith, length-drop (short_of s) b, length-drop HEADER s))

read_kept : (n : ℕ) (a b : Abstract) (s rest : List ℕ) → read_from n a s ≡ kept b rest → (length rest ≤ length s) × (length b.ops ≡ length a.ops + n)
read_kept zero a b s rest e =
    let f = sym (read_none a s) ∙ e in
    let p : a ≡ b = cc in
    let q : s ≡ rest = cc in
    (omega (arith, ap length q), omega (arith, ap (λ (x : Abstract). length x.ops) p))
read_kept (suc n) a b s rest e =
    let o = op_in (taken s) in
    ⊎_elim
    (λ (z : number_after a (taken s) ≡ 0).
    let r = read_kept n (with a o) b (rest_in (taken s)) rest (sym (read_more n a s z) ∙ e) in
    (omega (arith, r.0, rest_shorter s), omega (arith, r.1, length-append a.ops (o ∷ []))))
    (λ (ne : number_after a (taken s) ≡ 0 → ⊥). let f = sym (read_refuse n a s ne) ∙ e in let z : ◌≡◌ {A = ℕ} 0 1 = cc in absurd (omega arith))
    (same_or (number_after a (taken s)) 0)

front_kept : (s : List ℕ) (a : Abstract) (rest : List ℕ) → front_of s ≡ kept a rest → (length rest ≤ length s) × (length a.ops ≤ OPERATORS)
front_kept s a rest e =
    ⊎_elim
    (λ (z : head_number s ≡ 0).
    let r = read_kept (get_or s 7 0 - 0) (head_in s) a (drop HEAD_BYTES s) rest (front_good s (get_or s 7 0) z refl ∙ e) in
    let g = ranges_of_good (get_or s 4 0) (get_or s 5 0) (get_or s 6 0) (get_or s 7 0) (head_good_of_number s z) in
    (omega (arith, r.0, length-drop HEAD_BYTES s), omega (arith, r.1, g.count)))
    (λ (ne : head_number s ≡ 0 → ⊥). let f = sym (front_bad s (head_number s) refl ne) ∙ e in let z : ◌≡◌ {A = ℕ} 0 1 = cc in absurd (omega arith))
    (same_or (head_number s) 0)

-- the two ways of asking whether something is left over
over_eq : (n m e : ℕ) → m ≤ n → e ≡ n - m → eqb e n ≡ eqb m 0
over_eq n m e l h =
    ⊎_elim (λ (z : m ≡ 0). eq-eqb e n (omega arith) ∙ sym (eq-eqb m 0 z)) (λ (ne : m ≡ 0 → ⊥). ne_eqb e n (λ q. ne (omega arith)) ∙ sym (ne_eqb m 0 ne))
    (same_or m 0)

end_answer : (b w : Bool) (n : ℕ) →
    cond b (cond w accepted (refused_at 5 n)) (refused_at 1 n) ≡ cond (not b) (refused_at 1 n) (cond w accepted (refused_at 5 n))
end_answer true w n = refl
end_answer false w n = refl

end_sheet : (b w : Bool) (n : ℕ) (t : Sheet) →
    cond (b && w) t no_sheet ≡ cond (is_accepted (cond (not b) (refused_at 1 n) (cond w accepted (refused_at 5 n)))) t no_sheet
end_sheet true true n t = refl
end_sheet true false n t = refl
end_sheet false w n t = refl

-- a front that was read, up to the end of the bytes
module _ (s : List ℕ) (f : Front) (h : Fronts s (Ok f)) where
  count_as : (k : Kept) → front_of s ≡ k → f.sheet.count ≤ OPERATORS
  count_as (stopped m p) e = absurd (accepted_apart m p (h.answer ∙ ap front_answer e))
  count_as (kept a rest) e = omega (arith, (front_kept s a rest e).1, ap (λ (t : Sheet). t.count) (h.sheet ∙ ap front_sheet e))

  pub front_count : f.sheet.count ≤ OPERATORS
  front_count = count_as (front_of s) refl

  ended_as : (r : Result Sheet Refusal) (k : Kept) → front_of s ≡ k → Ends (length s) f r → Reads s r
  unfolding read_of ending
  ended_as r (stopped m p) e g = absurd (accepted_apart m p (h.answer ∙ ap front_answer e))
  ended_as r (kept a rest) e g =
      let t = h.sheet ∙ ap front_sheet e in
      let w = h.whole ∙ ap front_whole e in
      let o = over_eq (length s) (length rest) f.end (front_kept s a rest e).0 (h.end ∙ ap (front_end (length s)) e) in
      let b = eqb (length rest) 0 in
      let v = whole a.queues (known a) in
      record {
        answer = g.answer ∙ rw (o, t, w) (end_answer b v (length a.ops + 1)) ∙ ap (λ (k : Kept). (read_end k).answer) (sym e);
        sheet = g.sheet ∙ rw (o, t, w) (end_sheet b v (length a.ops + 1) (memory_sheet a)) ∙ ap (λ (k : Kept). (read_end k).sheet) (sym e);
      }

  pub reads_ended : (r : Result Sheet Refusal) → Ends (length s) f r → Reads s r
  reads_ended r g = ended_as r (front_of s) refl g

-- a front that is refused
refused_as : (s : List ℕ) (d : Refusal) (k : Kept) → front_of s ≡ k → Fronts s (Err d) → Reads s (Err d)
unfolding read_of
refused_as s d (stopped m p) e h =
    record {
      answer = h.answer ∙ ap front_answer e ∙ ap (λ (k : Kept). (read_end k).answer) (sym e);
      sheet = ap (λ (k : Kept). (read_end k).sheet) (sym e);
    }
refused_as s d (kept a rest) e h = absurd (refusal_apart d.reason d.spot (sym (h.answer ∙ ap front_answer e)))

pub reads_refused : (s : List ℕ) (d : Refusal) → Fronts s (Err d) → Reads s (Err d)
reads_refused s d h = refused_as s d (front_of s) refl h
