-- The sheet at the front of an input: it is accepted where every queue is defined, and ends where the rest begins.
-- Assumes nothing.
use mathlib.Core.Path.{◌≡◌, refl, sym, ap, ◌∙◌, subst}
use mathlib.Core.Logic.{⊎_elim}
use mathlib.Core.Bool.{Bool, true, false, cond}
use mathlib.Core.List.{List, ◌++◌}
use Prim.Native.Nat.{ℕ, ◌+◌, ◌-◌, ◌≤◌, ◌<◌}
use native.Mathlib.Omega.{arith}
use lib.ListN.{length, get_or, drop, length-append, length-drop}
use lib.Seq.{drop-drop, get_or-drop, drop_at}
use lib.IntN.{ℤ}
use borrow.Author.Tests.{le-leb, lt-leb}
use Rattle.std.specs.Prelude.{Ok, Err}
use Rattle.base_refusal.specs.declared.Refusal.{Refusal}
use Rattle.base_lists.specs.Lists.{chain}
use Rattle.base_lists.proofs.Build.{same_or}
use Rattle.sheet_operator.specs.Op.{Abstract}
use Rattle.sheet_judge.specs.Judge.{known, whole}
use Rattle.sheet_format.specs.Record.{op_bytes}
use Rattle.base_bounds.specs.Bounds.{OPERATORS, INPUT_BYTES}
use Rattle.sheet_format.specs.Head.{HEAD_BYTES, head_number, head_good}
use Rattle.sheet_format.proofs.Heads.{ranges_of_good, head_good_of_number, head_room, head_number_most}
use Rattle.sheet.specs.declared.Sheet.{Sheet}
use Rattle.sheet.specs.Answer.{accepted, refused_for}
use Rattle.sheet.specs.Sheet.{view_sheet, memory_sheet}
use Rattle.sheet.specs.Check.{Kept, stopped, kept, next_record, check_of}
use Rattle.sheet.proofs.Accepted.{facts_accepted}
use Rattle.sheet.proofs.AnswerLaws.{accepted_apart, refusal_apart}
use Rattle.codec_read.specs.declared.Front.{Front}
use Rattle.codec_read.specs.Read.{read_from, head_in, front_of, front_answer, front_sheet, front_end, front_whole}
use Rattle.codec_read.specs.Fronts.{Fronts}
use Rattle.codec_read.proofs.Follow.{with_all}
use Rattle.sheet.proofs.Placed.{view_back}
use Rattle.codec_read.proofs.InMemory.{accepted_memory}
use Rattle.codec_read.proofs.Chain.{Holds, Halts, read_cases}
use Rattle.codec_read.proofs.Reading.{front_good, front_bad}
use Rattle.bench_records.specs.Records.{start, feeds_from}
use Rattle.bench_trial.specs.Trial.{refusal, fed_trial, kept_trial, trial_of}
use Rattle.bench_trial.specs.Tries.{Tries, WholeFront, trial_after}
use Rattle.bench_trial.proofs.Ending.{refused_tries}

-- what is kept of the front: a good head, operators that follow each other, and the bytes after them
pub record Keeps (s : List ℕ) (a : Abstract) (rest : List ℕ) : Type 0 where
  pub accepted : whole a.queues (known a) ≡ true → check_of (memory_sheet a) ≡ accepted
  pub view : view_sheet (memory_sheet a) ≡ a
  pub after : rest ≡ drop (length s - length rest) s
  pub shorter : length rest ≤ length s
  pub few : length a.ops ≤ OPERATORS

-- a suffix is what is left from its place on
suffix : (xs rest : List ℕ) → rest ≡ drop (length (xs ++ rest) - length rest) (xs ++ rest)
suffix xs rest =
    let n : length (xs ++ rest) - length rest ≡ length xs = omega (arith, length-append xs rest) in
    sym (ap (λ (k : ℕ). drop k (xs ++ rest)) n ∙ drop_at xs rest (length xs) refl)

module _ (s : List ℕ) (below : (k : ℕ) → get_or s k 0 < 256) (z : head_number s ≡ 0) where
  body_below : (k : ℕ) → get_or (drop HEAD_BYTES s) k 0 < 256
  body_below k = rw (get_or-drop HEAD_BYTES s k 0) (below (HEAD_BYTES + k))

  head_good_lem : (h : Holds (get_or s 7 0) (head_in s) (drop HEAD_BYTES s)) →
      head_good (get_or s 4 0) (get_or s 5 0) (get_or s 6 0) (length h.ops) ≡ true
  head_good_lem h = rw h.size (head_good_of_number s z)

  kept_holds : (h : Holds (get_or s 7 0) (head_in s) (drop HEAD_BYTES s)) → Keeps s (with_all (head_in s) h.ops) h.rest
  kept_holds h =
      let g = head_good_lem h in
      let e = h.bytes body_below in
      let m : length (drop HEAD_BYTES s) ≡ length s - HEAD_BYTES = length-drop HEAD_BYTES s in
      let n : length (chain op_bytes h.ops) + length h.rest ≡ length (drop HEAD_BYTES s) = sym
      (length-append (chain op_bytes h.ops) h.rest) ∙ ap length e in
      let r = head_room s z in
      let k : HEAD_BYTES + (length (drop HEAD_BYTES s) - length h.rest) ≡ length s - length h.rest = omega arith in
      record {
        accepted = λ w. facts_accepted _ (accepted_memory (with_all (head_in s) h.ops) g h.follow w);
        view = view_back (with_all (head_in s) h.ops)
            (ranges_of_good (get_or s 4 0) (get_or s 5 0) (get_or s 6 0) (length h.ops) g).count h.follow.small;
        after =
            suffix (chain op_bytes h.ops) h.rest ∙ ap (λ (l : List ℕ). drop (length l - length h.rest) l) e
            ∙ drop-drop (length (drop HEAD_BYTES s) - length h.rest) HEAD_BYTES s
            ∙ ap (λ (j : ℕ). drop j s) k;
        shorter = omega arith;
        few = (ranges_of_good (get_or s 4 0) (get_or s 5 0) (get_or s 6 0) (length h.ops) g).count;
      }

front_read : (s : List ℕ) → head_number s ≡ 0 → read_from (get_or s 7 0) (head_in s) (drop HEAD_BYTES s) ≡ front_of s
front_read s z =
    let n : get_or s 7 0 ≡ get_or s 7 0 - 0 = omega arith in
    ap (λ (k : ℕ). read_from k (head_in s) (drop HEAD_BYTES s)) n ∙ front_good s (get_or s 7 0) z refl

kept_apart : (a b : Abstract) (r q : List ℕ) → kept a r ≡ kept b q → (a ≡ b) × (r ≡ q)
kept_apart a b r q e = (cc, cc)

pub front_keeps : (s : List ℕ) (a : Abstract) (rest : List ℕ) → ((k : ℕ) → get_or s k 0 < 256) → front_of s ≡ kept a rest → Keeps s a rest
front_keeps s a rest below e =
    ⊎_elim
    (λ (z : head_number s ≡ 0).
    let g : read_from (get_or s 7 0) (head_in s) (drop HEAD_BYTES s) ≡ kept a rest = front_read s z ∙ e in
    ⊎_elim
    (λ (h : Holds (get_or s 7 0) (head_in s) (drop HEAD_BYTES s)).
    let p = kept_apart (with_all (head_in s) h.ops) a h.rest rest (sym h.reads ∙ g) in
    subst (λ (q : List ℕ). Keeps s a q) p.1 (subst (λ (b : Abstract). Keeps s b h.rest) p.0 (kept_holds s below z h)))
    (λ (h : Halts (get_or s 7 0) (head_in s) (drop HEAD_BYTES s)).
    let f = sym h.reads ∙ g in let y : ◌≡◌ {A = ℕ} 0 1 = cc in absurd (omega arith))
    (read_cases (get_or s 7 0) (head_in s) (drop HEAD_BYTES s)))
    (λ (ne : head_number s ≡ 0 → ⊥). let f = sym (front_bad s (head_number s) refl ne) ∙ e in let y : ◌≡◌ {A = ℕ} 0 1 = cc in absurd
    (omega arith))
    (same_or (head_number s) 0)

stopped_apart : (m p n q : ℕ) → stopped m p ≡ stopped n q → (m ≡ n) × (p ≡ q)
stopped_apart m p n q e = (cc, cc)

-- no refusal of the front is 0
pub front_stops : (s : List ℕ) (number spot : ℕ) → front_of s ≡ stopped number spot → number ≡ 0 → ⊥
front_stops s number spot e o =
    ⊎_elim
    (λ (z : head_number s ≡ 0).
    let g : read_from (get_or s 7 0) (head_in s) (drop HEAD_BYTES s) ≡ stopped number spot = front_read s z ∙ e in
    ⊎_elim
    (λ (h : Holds (get_or s 7 0) (head_in s) (drop HEAD_BYTES s)). let f = sym h.reads ∙ g in let y : ◌≡◌ {A = ℕ} 0 1 = cc in omega arith)
    (λ (h : Halts (get_or s 7 0) (head_in s) (drop HEAD_BYTES s)).
    omega (arith, h.least, (stopped_apart h.number h.spot number spot (sym h.reads ∙ g)).0))
    (read_cases (get_or s 7 0) (head_in s) (drop HEAD_BYTES s)))
    (λ (ne : head_number s ≡ 0 → ⊥). ne ((stopped_apart (head_number s) 0 number spot (sym (front_bad s (head_number s) refl ne) ∙ e)).0 ∙ o))
    (same_or (head_number s) 0)

-- its number and record are small
pub front_small : (s : List ℕ) (number spot : ℕ) → front_of s ≡ stopped number spot → (number ≤ 7) × (spot ≤ OPERATORS)
front_small s number spot e =
    ⊎_elim
    (λ (z : head_number s ≡ 0).
    let g : read_from (get_or s 7 0) (head_in s) (drop HEAD_BYTES s) ≡ stopped number spot = front_read s z ∙ e in
    ⊎_elim
    (λ (h : Holds (get_or s 7 0) (head_in s) (drop HEAD_BYTES s)). let f = sym h.reads ∙ g in let y : ◌≡◌ {A = ℕ} 0 1 = cc in absurd
    (omega arith))
    (λ (h : Halts (get_or s 7 0) (head_in s) (drop HEAD_BYTES s)).
    let q = stopped_apart h.number h.spot number spot (sym h.reads ∙ g) in
    let c = (ranges_of_good (get_or s 4 0) (get_or s 5 0) (get_or s 6 0) (get_or s 7 0) (head_good_of_number s z)).count in
    (omega (arith, h.most, q.0), omega (arith, h.within, q.1)))
    (read_cases (get_or s 7 0) (head_in s) (drop HEAD_BYTES s)))
    (λ (ne : head_number s ≡ 0 → ⊥).
    let q = stopped_apart (head_number s) 0 number spot (sym (front_bad s (head_number s) refl ne) ∙ e) in
    (omega (arith, head_number_most s, q.0), omega (arith, q.1)))
    (same_or (head_number s) 0)

-- ---- an input by its front

pub input_long : (s : List ℕ) → INPUT_BYTES < length s → trial_of s ≡ refusal 18 0
unfolding trial_of
input_long s l = rw (lt-leb (length s) INPUT_BYTES l)

pub input_front : (s : List ℕ) (k : Kept) → length s ≤ INPUT_BYTES → front_of s ≡ k → trial_of s ≡ kept_trial k
unfolding trial_of
input_front s k l e = rw (le-leb (length s) INPUT_BYTES l) (ap kept_trial e)

module _ (s : List ℕ) (l : length s ≤ INPUT_BYTES) where
  -- the sheet is refused
  refused_as : {e : Refusal} (k : Kept) → front_of s ≡ k → refused_for e.reason e.spot ≡ front_answer k → (st : List ℤ) →
      Tries (trial_of s) st (Err e) st
  refused_as (stopped m p) z d st = refused_tries (input_front s (stopped m p) l z) d st
  refused_as {e = e} (kept a rest) z d st = absurd (refusal_apart e.reason e.spot (sym d))

  pub front_refused : {e : Refusal} → Fronts s (Err e) → (st : List ℤ) → Tries (trial_of s) st (Err e) st
  front_refused h st = refused_as (front_of s) refl h.answer st

module _ (s : List ℕ) (l : length s ≤ INPUT_BYTES) {f : Front} (h : Fronts s (Ok f)) where
  -- the sheet is read, and a queue is never defined
  gap_as : (k : Kept) → front_of s ≡ k → f.whole ≡ false → trial_of s ≡ refusal 5 (f.sheet.count + 1)
  gap_as (stopped m p) e w = absurd (accepted_apart m p (h.answer ∙ ap front_answer e))
  gap_as (kept a rest) e w =
      let n : next_record a ≡ f.sheet.count + 1 = ap (λ (t : Sheet). t.count + 1) (sym (h.sheet ∙ ap front_sheet e)) in
      let v : whole a.queues (known a) ≡ false = sym (h.whole ∙ ap front_whole e) ∙ w in
      input_front s (kept a rest) l e
      ∙ ap (λ (b : Bool). cond b (fed_trial a (feeds_from (length rest) a start (next_record a) rest)) (refusal 5 (next_record a))) v
      ∙ ap (refusal 5) n

  pub front_gap : f.whole ≡ false → trial_of s ≡ refusal 5 (f.sheet.count + 1)
  front_gap w = gap_as (front_of s) refl w

  -- the sheet is read whole
  pub record Whole : Type 0 where
    pub front : WholeFront f.sheet f.end s
    pub trial : trial_after f.sheet (drop f.end s) ≡ trial_of s

  whole_as : (k : Kept) → ((j : ℕ) → get_or s j 0 < 256) → front_of s ≡ k → f.whole ≡ true → Whole
  whole_as (stopped m p) below e w = absurd (accepted_apart m p (h.answer ∙ ap front_answer e))
  whole_as (kept a rest) below e w =
      let g = front_keeps s a rest below e in
      let t : f.sheet ≡ memory_sheet a = h.sheet ∙ ap front_sheet e in
      let v : whole a.queues (known a) ≡ true = sym (h.whole ∙ ap front_whole e) ∙ w in
      let x : view_sheet f.sheet ≡ a = ap view_sheet t ∙ g.view in
      let n : f.sheet.count + 1 ≡ next_record a = ap (λ (y : Sheet). y.count + 1) t in
      let i : f.end ≡ length s - length rest = h.end ∙ ap (front_end (length s)) e in
      let q : drop f.end s ≡ rest = ap (λ (j : ℕ). drop j s) i ∙ sym g.after in
      record {
        front = record { sheet = ap check_of t ∙ g.accepted v; same = ap memory_sheet x ∙ sym t; inside = omega arith; short = l };
        trial =
            ap (λ (b : Abstract). fed_trial b (feeds_from (length (drop f.end s)) b start (f.sheet.count + 1) (drop f.end s))) x
            ∙ ap (λ (u : List ℕ). fed_trial a (feeds_from (length u) a start (f.sheet.count + 1) u)) q
            ∙ ap (λ (j : ℕ). fed_trial a (feeds_from (length rest) a start j rest)) n
            ∙ ap (λ (b : Bool). cond b (fed_trial a (feeds_from (length rest) a start (next_record a) rest)) (refusal 5 (next_record a))) (sym v)
            ∙ sym (input_front s (kept a rest) l e);
      }

  pub front_whole_lem : ((j : ℕ) → get_or s j 0 < 256) → f.whole ≡ true → Whole
  front_whole_lem below w = whole_as (front_of s) below refl w
