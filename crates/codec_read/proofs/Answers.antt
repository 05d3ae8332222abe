-- What reading a whole sheet answers: the operators that its bytes hold, or a refusal with its record.
-- Assumes nothing.
use mathlib.Core.Path.{◌≡◌, refl, ap, ◌∙◌, sym}
use mathlib.Core.Logic.{◌⊎◌, inl, inr, ⊎_elim}
use mathlib.Core.Bool.{Bool, true, false, cond, not}
use mathlib.Core.List.{List, [], ◌∷◌, ◌++◌, append-nil}
use Prim.Native.Nat.{ℕ, ◌+◌, ◌<◌, ◌≤◌}
use native.Mathlib.Omega.{arith}
use lib.Dec.{eqb}
use lib.ListN.{length, get_or, drop}
use borrow.Author.Tests.{eqb-true, eq-eqb, ne_eqb}
use Rattle.base_lists.specs.Lists.{chain}
use Rattle.base_lists.proofs.Build.{same_or}
use Rattle.sheet_operator.specs.Op.{Op, Abstract}
use Rattle.sheet_judge.specs.Judge.{known, whole}
use Rattle.sheet_format.specs.Record.{op_bytes}
use Rattle.sheet_format.specs.Head.{HEAD_BYTES, head_number}
use Rattle.sheet_format.proofs.Fronts.{drop_below}
use Rattle.sheet_format.proofs.Heads.{head_number_most}
use Rattle.sheet.specs.Answer.{Paper, accepted, refused_at, refused, is_accepted}
use Rattle.sheet.specs.Sheet.{memory_sheet, no_sheet}
use Rattle.sheet.specs.Check.{Kept, stopped, next_record, ending}
use Rattle.sheet.proofs.AnswerLaws.{same_refusal, accepted_apart, record_apart, none_apart}
use Rattle.codec_read.specs.Read.{read_from, head_in, front_of, Reading, read_end, read_of}
use Rattle.codec_read.proofs.Follow.{with_all, Follow}
use Rattle.codec_read.proofs.Chain.{Holds, Halts, read_cases}

-- a case of reading, from what it tests
pub read_good : (s : List ℕ) (k : Kept) → head_number s ≡ 0 → read_from (get_or s 7 0) (head_in s) (drop HEAD_BYTES s) ≡ k → read_of s ≡ read_end k
unfolding read_of front_of
read_good s k h e =
    ap (λ (b : Bool). read_end (cond b (read_from (get_or s 7 0) (head_in s) (drop HEAD_BYTES s)) (stopped (head_number s) 0))) (eq-eqb (head_number s) 0 h)
    ∙ ap read_end e

read_bad_head : (s : List ℕ) → (head_number s ≡ 0 → ⊥) → (read_of s).answer ≡ refused_at (head_number s) 0
unfolding read_of front_of
read_bad_head s h =
    ap (λ (b : Bool). (read_end (cond b (read_from (get_or s 7 0) (head_in s) (drop HEAD_BYTES s)) (stopped (head_number s) 0))).answer)
    (ne_eqb (head_number s) 0 h)

pub read_ends : (a : Abstract) (rest : List ℕ) (o w : Bool) → eqb (length rest) 0 ≡ o → whole a.queues (known a) ≡ w →
    ending (not (eqb (length rest) 0)) a ≡ cond (not o) (refused_at 1 (next_record a)) (cond w accepted (refused_at 5 (next_record a)))
unfolding ending
read_ends a rest o w e d = rw (e, d)

abbrev pub reading : Abstract → Paper → Reading
reading a p = record { answer = p; sheet = cond (is_accepted p) (memory_sheet a) no_sheet }

-- the operators of a sheet that is read, whose records are the bytes after the head; or the refusal, with its record
pub record Accepts (s : List ℕ) : Type 0 where
  pub head : head_number s ≡ 0
  pub ops : List Op
  pub size : length ops ≡ get_or s 7 0
  pub follow : Follow (head_in s) ops
  pub defined : whole (get_or s 5 0) (known (with_all (head_in s) ops)) ≡ true
  pub reads : read_of s ≡ record { answer = accepted; sheet = memory_sheet (with_all (head_in s) ops) }
  pub bytes : ((k : ℕ) → get_or s k 0 < 256) → chain op_bytes ops ≡ drop HEAD_BYTES s

pub record Refuses (s : List ℕ) : Type 0 where
  pub number : ℕ
  pub spot : ℕ
  pub refuses : (read_of s).answer ≡ refused_at number spot
  pub least : 1 ≤ number
  pub most : number ≤ 7
  pub within : spot ≤ get_or s 7 0 + 1

nothing_left : (l rest : List ℕ) → length rest ≡ 0 → l ++ rest ≡ l
nothing_left l [] e = append-nil l
nothing_left l (x ∷ rest) e = absurd (omega arith)

cases : (s : List ℕ) (o w : Bool) → head_number s ≡ 0 → (h : Holds (get_or s 7 0) (head_in s) (drop HEAD_BYTES s)) → eqb (length h.rest) 0 ≡ o →
    whole (get_or s 5 0) (known (with_all (head_in s) h.ops)) ≡ w → Accepts s ⊎ Refuses s
cases s false w z h e d =
    inr
    (record {
      number = 1;
      spot = length h.ops + 1;
      refuses = ap (λ (r : Reading). r.answer) (read_good s _ z h.reads) ∙ read_ends (with_all (head_in s) h.ops) h.rest false w e d;
      least = omega arith;
      most = omega arith;
      within = omega (arith, h.size);
    })
cases s true false z h e d =
    inr
    (record {
      number = 5;
      spot = length h.ops + 1;
      refuses = ap (λ (r : Reading). r.answer) (read_good s _ z h.reads) ∙ read_ends (with_all (head_in s) h.ops) h.rest true false e d;
      least = omega arith;
      most = omega arith;
      within = omega (arith, h.size);
    })
cases s true true z h e d =
    inl
    (record {
      head = z;
      ops = h.ops;
      size = h.size;
      follow = h.follow;
      defined = d;
      reads =
          read_good s _ z h.reads
          ∙ ap (reading (with_all (head_in s) h.ops)) (read_ends (with_all (head_in s) h.ops) h.rest true true e d);
      bytes = λ below. sym (nothing_left (chain op_bytes h.ops) h.rest (eqb-true (length h.rest) 0 e)) ∙ h.bytes (drop_below HEAD_BYTES s below);
    })

pub read_answers : (s : List ℕ) → Accepts s ⊎ Refuses s
read_answers s =
    ⊎_elim
    (λ (z : head_number s ≡ 0).
    ⊎_elim (λ (h : Holds (get_or s 7 0) (head_in s) (drop HEAD_BYTES s)). cases s _ _ z h refl refl)
    (λ (h : Halts (get_or s 7 0) (head_in s) (drop HEAD_BYTES s)).
    inr
    (record {
      number = h.number;
      spot = h.spot;
      refuses = ap (λ (r : Reading). r.answer) (read_good s _ z h.reads);
      least = h.least;
      most = h.most;
      within = omega (arith, h.within);
    }))
    (read_cases (get_or s 7 0) (head_in s) (drop HEAD_BYTES s)))
    (λ (nz : head_number s ≡ 0 → ⊥).
    inr
    (record {
      number = head_number s;
      spot = 0;
      refuses = read_bad_head s nz;
      least = omega arith;
      most = omega (arith, head_number_most s);
      within = omega arith;
    }))
    (same_or (head_number s) 0)

-- each of the two, from the answer
pub accepts_of_answer : (s : List ℕ) → (read_of s).answer ≡ accepted → Accepts s
accepts_of_answer s h = ⊎_elim (λ a. a) (λ (r : Refuses s). absurd (accepted_apart r.number r.spot (sym h ∙ r.refuses))) (read_answers s)

pub refusal_bounds : (s : List ℕ) (number spot : ℕ) → (read_of s).answer ≡ refused_at number spot → (1 ≤ number) × (number ≤ 7) × (spot ≤ get_or s 7 0 + 1)
refusal_bounds s number spot h =
    ⊎_elim (λ (a : Accepts s). absurd (accepted_apart number spot (sym (ap (λ (r : Reading). r.answer) a.reads) ∙ h)))
    (λ (r : Refuses s).
    let e = same_refusal r.number number r.spot spot (sym r.refuses ∙ h) in
    omega (arith, r.least, r.most, r.within))
    (read_answers s)

pub refusal_has_record : (s : List ℕ) (number : ℕ) → (read_of s).answer ≡ refused number → ⊥
refusal_has_record s number h =
    ⊎_elim (λ (a : Accepts s). none_apart number (sym (ap (λ (r : Reading). r.answer) a.reads) ∙ h))
    (λ (r : Refuses s). record_apart r.number number r.spot (sym r.refuses ∙ h))
    (read_answers s)
