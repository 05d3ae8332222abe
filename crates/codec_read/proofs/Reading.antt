-- The reader between two records: what it holds, what one record more makes of it, and how it stops and ends.
-- Assumes nothing.
use mathlib.Core.Path.{◌≡◌, refl, ap, ◌∙◌, sym}
use mathlib.Core.Bool.{Bool, true, false, cond}
use mathlib.Core.List.{List, [], ◌∷◌}
use Prim.Native.Nat.{ℕ, ◌+◌, ◌-◌, ◌<◌, ◌≤◌}
use native.Mathlib.Omega.{arith}
use lib.ListN.{length, set, get_or, drop, length-append}
use borrow.Author.Tests.{eq-eqb, ne_eqb}
use Rattle.std.specs.Prelude.{Ok, Err}
use Rattle.base_number.specs.Number.{short_of}
use Rattle.base_refusal.specs.declared.Reason.{Reason}
use Rattle.base_refusal.proofs.Reasons.{some_number}
use Rattle.base_refusal.specs.Refusal.{number_of}
use Rattle.sheet_operator.specs.Op.{Op, Abstract, with}
use Rattle.sheet_operator.specs.Memory.{is_empty, memory, view, Ready}
use Rattle.sheet_operator.specs.declared.Operator.{Operator}
use Rattle.sheet_operator.proofs.ViewLaws.{Small, view_memory, ready_memory}
use Rattle.sheet_judge.specs.Judge.{Known, known, known_of, judge_by, after, whole}
use Rattle.sheet_judge.specs.Seen.{known_by, Admits}
use Rattle.sheet_judge.specs.declared.Seen.{Seen}
use Rattle.sheet_judge.proofs.KnownLaws.{known_with, known_of_kept}
use Rattle.sheet_format.specs.Record.{HEADER, cut, body_good, kind_of, op_of, Taken, bad, took, taken, refusal_in, op_in, rest_in}
use Rattle.sheet_format.specs.Head.{HEAD_BYTES, head_number}
use Rattle.base_bounds.specs.Bounds.{OPERATORS, VARIABLES, QUEUES}
use Rattle.sheet_format.proofs.Heads.{HeadRanges, ranges_of_good, head_good_of_number, head_room}
use Rattle.sheet_format.proofs.Read.{small_of_taken}
use Rattle.sheet_decode.specs.declared.Head.{Head}
use Rattle.sheet_decode.specs.declared.TakenRecord.{TakenRecord}
use Rattle.sheet_decode.specs.Takes.{record_answered, head_answered}
use Rattle.sheet_decode.proofs.Takes.{Takes, HeadTakes}
use Rattle.sheet.specs.declared.Sheet.{Sheet}
use Rattle.sheet.specs.Sheet.{memory_sheet}
use Rattle.sheet.specs.Check.{stopped, kept, next_record}
use Rattle.sheet.proofs.InMemory.{sheet_eq}
use Rattle.codec_read.specs.declared.ReadOperator.{ReadOperator}
use Rattle.codec_read.specs.Fronts.{headed, number_of_next, ReadsOperator}
use Rattle.codec_read.specs.Read.{number_after, read_from, head_in, front_of}
use Rattle.codec_read.proofs.Turns.{read_next, read_stop, read_end_lem, memory_more}

-- a record with refusal 0 was taken
took_tests : (x y z : Bool) (a : Op) (r : List ℕ) (t : Taken) → t ≡ cond x (bad 1) (cond y (bad 2) (cond z (took a r) (bad 1))) → refusal_in t ≡ 0 →
    t ≡ took (op_in t) (rest_in t)
took_tests true y z a r t e h = absurd (omega (arith, ap refusal_in e))
took_tests false true z a r t e h = absurd (omega (arith, ap refusal_in e))
took_tests false false false a r t e h = absurd (omega (arith, ap refusal_in e))
took_tests false false true a r t e h = rw e

pub took_of_zero : (s : List ℕ) → refusal_in (taken s) ≡ 0 → taken s ≡ took (op_in (taken s)) (rest_in (taken s))
unfolding taken
took_of_zero s h =
    let k = kind_of (short_of (drop 2 s)) in
    let b = drop HEADER s in
    took_tests (cut s) (is_empty k) (body_good k (short_of s)) (op_of k (short_of s) b) (drop (short_of s) b) (taken s) refl h

-- its operator in memory
module _ (s : List ℕ) (o : Operator) (z : refusal_in (taken s) ≡ 0) (e : o ≡ memory (op_in (taken s))) where
  small : Small (op_in (taken s))
  small = small_of_taken s (op_in (taken s)) (rest_in (taken s)) (took_of_zero s z)

  pub ready_of_taken : Ready o
  ready_of_taken = rw e (ready_memory (op_in (taken s)) small)

  view_of_taken : view o ≡ op_in (taken s)
  view_of_taken = ap view e ∙ view_memory (op_in (taken s)) small

-- the record at a place, where it is refused as it is taken
pub next_bad : (queues variables : ℕ) (seen : Seen) (s : List ℕ) (at : ℕ) (reason : Reason) → Takes s at (record_answered (Err reason)) →
    ReadsOperator queues variables seen s at (Err reason)
next_bad queues variables seen s at reason t = bad_as (taken (drop at s)) t.number
  where
    bad_as : (x : Taken) → number_of reason ≡ refusal_in x → number_of_next queues variables seen x ≡ number_of reason
    bad_as (bad n) e = sym e
    bad_as (took o rest) e = absurd (omega (arith, some_number reason))

-- and where it is taken, as the judge says
module _ (queues variables : ℕ) (seen : Seen) (s : List ℕ) (at : ℕ) (r : TakenRecord) (t : Takes s at (record_answered (Ok r))) where
  next_judged : (m : ℕ) → m ≡ judge_by queues variables (known_by seen) (view r.op) → number_of_next queues variables seen (taken (drop at s)) ≡ m
  next_judged m h =
      ap (number_of_next queues variables seen) (took_of_zero (drop at s) (sym t.number))
      ∙ ap (judge_by queues variables (known_by seen)) (sym (view_of_taken (drop at s) r.op (sym t.number) (t.op refl))) ∙ sym h

  pub next_refused : (reason : Reason) → Admits queues variables seen r.op (Err reason) → ReadsOperator queues variables seen s at (Err reason)
  next_refused reason a = next_judged (number_of reason) a.number

  pub next_kept : (new : Seen) → Admits queues variables seen r.op (Ok new) →
      ReadsOperator queues variables seen s at (Ok (record { op = r.op; seen = new; next = r.next }))
  next_kept new a = (
    next_judged 0 a.number,
    record {
      op = t.op refl;
      known = known_of_kept a refl ∙ ap (after (known_by seen)) (view_of_taken (drop at s) r.op (sym t.number) (t.op refl));
      rest = t.rest refl;
      inside = t.inside refl;
    },
  )

-- the operators kept, with the bytes that are left, come to what all the bytes come to
pub record ReadTo (s : List ℕ) (n queues variables : ℕ) (t : Sheet) (seen : Seen) (at i : ℕ) : Type 0 where
  pub ops : Abstract
  pub count : length ops.ops ≡ i
  pub within : i ≤ n
  pub most : n ≤ OPERATORS
  pub its_queues : ops.queues ≡ queues
  pub its_variables : ops.variables ≡ variables
  pub few_queues : queues ≤ QUEUES
  pub few_variables : variables ≤ VARIABLES
  pub inside : at ≤ length s
  pub sheet : t ≡ memory_sheet ops
  pub knows : known_by seen ≡ known ops
  pub left : read_from (n - i) ops (drop at s) ≡ front_of s

-- after a good head
pub head_ranges : (s : List ℕ) (h : Head) → HeadTakes s (head_answered (Ok h)) → HeadRanges h.inputs h.queues h.variables h.count
head_ranges s h t =
    let r = ranges_of_good (get_or s 4 0) (get_or s 5 0) (get_or s 6 0) (get_or s 7 0) (head_good_of_number s (sym t.number)) in
    rw (t.inputs refl, t.queues refl, t.variables refl, t.count refl) r

pub front_good : (s : List ℕ) (n : ℕ) → head_number s ≡ 0 → n ≡ get_or s 7 0 → read_from (n - 0) (head_in s) (drop HEAD_BYTES s) ≡ front_of s
unfolding front_of
front_good s n h e =
    let m : n - 0 ≡ get_or s 7 0 = omega arith in
    rw (eq-eqb (head_number s) 0 h, m)

pub front_bad : (s : List ℕ) (m : ℕ) → m ≡ head_number s → (m ≡ 0 → ⊥) → front_of s ≡ stopped m 0
unfolding front_of
front_bad s m e ne = rw (e, ne_eqb (head_number s) 0 (λ z. ne (e ∙ z)))

pub read_starts : (s : List ℕ) (h : Head) (u : Sheet) (seen : Seen) → HeadTakes s (head_answered (Ok h)) → u ≡ memory_sheet (headed h) →
    known_by seen ≡ known_of h.inputs [] → ReadTo s h.count h.queues h.variables u seen HEAD_BYTES 0
read_starts s h u seen t b k =
    let r = head_ranges s h t in
    let i = t.inputs refl in
    let q = t.queues refl in
    let v = t.variables refl in
    let n = t.count refl in
    record {
      ops = head_in s;
      count = refl;
      within = omega arith;
      most = omega arith;
      its_queues = sym q;
      its_variables = sym v;
      few_queues = omega arith;
      few_variables = omega arith;
      inside = head_room s (sym t.number);
      sheet = cc;
      knows = k ∙ ap (λ (x : ℕ). known_of x []) i;
      left = front_good s h.count (sym t.number) n;
    }

sheet_more : (a : Abstract) (o : Op) (t : Sheet) (i : ℕ) → t ≡ memory_sheet a → length a.ops ≡ i → i < OPERATORS →
    record { inputs = t.inputs; queues = t.queues; variables = t.variables; count = i + 1; operators = set t.operators i (memory o) }
    ≡ memory_sheet (with a o)
sheet_more a o t i e n l =
    sheet_eq (ap (λ (u : Sheet). u.inputs) e) (ap (λ (u : Sheet). u.queues) e) (ap (λ (u : Sheet). u.variables) e)
    (omega (arith, length-append a.ops (o ∷ [])))
    (ap (λ (u : Sheet). set u.operators i (memory o)) e ∙ ap (λ (k : ℕ). set (memory_sheet a).operators k (memory o)) (sym n)
    ∙ memory_more a o (omega arith))

module _ {s : List ℕ} {n queues variables : ℕ} {t : Sheet} {seen : Seen} {at i : ℕ} (r : ReadTo s n queues variables t seen at i) where
  same_number : (x : Taken) → number_of_next queues variables seen x ≡ number_after r.ops x
  same_number (bad m) = refl
  same_number (took o rest) =
      ap (λ (k : Known). judge_by queues variables k o) r.knows ∙ ap (λ (k : ℕ). judge_by k variables (known r.ops) o) (sym r.its_queues)
      ∙ ap (λ (k : ℕ). judge_by r.ops.queues k (known r.ops) o) (sym r.its_variables)

  -- the next record is refused, or its operator is kept
  pub read_stops : (reason : Reason) → i < n → ReadsOperator queues variables seen s at (Err reason) → front_of s ≡ stopped (number_of reason) (i + 1)
  read_stops reason l h =
      let e = sym (same_number (taken (drop at s))) ∙ h in
      sym r.left ∙ read_stop n i r.ops (drop at s) l (λ z. omega (arith, some_number reason)) ∙ ap (λ (k : ℕ). stopped k (next_record r.ops)) e
      ∙ ap (λ (k : ℕ). stopped (number_of reason) (k + 1)) r.count

  pub read_goes_on : (o : ReadOperator) → i < n → ReadsOperator queues variables seen s at (Ok o) →
      ReadTo s n queues variables
      (record { inputs = t.inputs; queues = t.queues; variables = t.variables; count = i + 1; operators = set t.operators i o.op }) o.seen o.next (i + 1)
  read_goes_on o l h =
      let x = taken (drop at s) in
      let d = h.1 in
      let c = r.count in
      let w = r.most in
      record {
        ops = with r.ops (op_in x);
        count = omega (arith, length-append r.ops.ops (op_in x ∷ []));
        within = omega arith;
        most = r.most;
        its_queues = r.its_queues;
        its_variables = r.its_variables;
        few_queues = r.few_queues;
        few_variables = r.few_variables;
        inside = d.inside;
        sheet = rw d.op (sheet_more r.ops (op_in x) t i r.sheet c (omega arith));
        knows = d.known ∙ ap (λ (y : Known). after y (op_in x)) r.knows ∙ sym (known_with r.ops (op_in x));
        left =
            ap (read_from (n - (i + 1)) (with r.ops (op_in x))) d.rest
            ∙ sym (read_next n i r.ops (drop at s) l (sym (same_number x) ∙ h.0)) ∙ r.left;
      }

  pub read_ends : n ≤ i → front_of s ≡ kept r.ops (drop at s)
  read_ends l = sym r.left ∙ read_end_lem n i r.ops (drop at s) l

  pub read_whole : (w : Bool) → w ≡ whole queues (known_by seen) → w ≡ whole r.ops.queues (known r.ops)
  read_whole w e = e ∙ ap (whole queues) r.knows ∙ ap (λ (q : ℕ). whole q (known r.ops)) (sym r.its_queues)
