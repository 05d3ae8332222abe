-- The bytes of a sheet's head and first operators: one operator more, all of them, and what writing them answers.
-- Assumes nothing.
use mathlib.Core.Path.{◌≡◌, refl, ap, ◌∙◌, sym}
use mathlib.Core.Bool.{false}
use mathlib.Core.List.{List, ◌++◌, append_assoc, append-nil}
use Prim.Native.Nat.{ℕ, zero, suc, ◌+◌, ◌-◌, ◌<◌, ◌≤◌}
use native.Mathlib.Omega.{arith}
use lib.ListN.{length, drop, length-append}
use lib.Seq.{sets}
use borrow.Author.Tests.{le-leb, lt-leb}
use Rattle.std.specs.Prelude.{Result, Ok, Err, Some}
use Rattle.std.specs.Result.{result_unwrap_or}
use Rattle.base_lists.specs.Lists.{chain}
use Rattle.base_lists.proofs.Build.{build_length}
use Rattle.base_lists.proofs.Sets.{sets_append, sets_front}
use Rattle.base_lists.proofs.Chains.{chain_snoc}
use Rattle.base_refusal.specs.declared.Reason.TheVariants.{TooShort}
use Rattle.base_refusal.specs.declared.Refusal.{Refusal}
use Rattle.base_refusal.specs.Refusal.{refusal}
use Rattle.sheet_operator.specs.Memory.{view}
use Rattle.sheet_format.specs.Record.{op_bytes}
use Rattle.sheet_format.specs.Head.{HEAD_BYTES, head_bytes}
use Rattle.sheet_format.proofs.Heads.{length_head_bytes}
use Rattle.sheet.specs.declared.Sheet.{Sheet}
use Rattle.sheet.specs.Answer.{Paper, paper, accepted, refused_at, refused_for, is_accepted}
use Rattle.sheet.specs.Sheet.{op_at, view_to, view_sheet}
use Rattle.sheet.specs.Check.{check_of}
use Rattle.sheet.proofs.AnswerLaws.{refusal_refuses}
use Rattle.codec_write.specs.Write.{sheet_bytes, Writing, writing, writing_of, write_of, Wrote, Writes}

-- the head's bytes, and those of the head and the first i operators
abbrev pub head_of : Sheet → List ℕ
head_of t = head_bytes t.inputs t.queues t.variables t.count

abbrev pub bytes_to : Sheet → ℕ → List ℕ
bytes_to t i = head_of t ++ chain op_bytes (view_to t i).ops

pub length_none : (t : Sheet) → length (bytes_to t 0) ≡ HEAD_BYTES
length_none t = ap length (append-nil (head_of t)) ∙ length_head_bytes t.inputs t.queues t.variables t.count

pub bytes_more : (t : Sheet) (i : ℕ) → bytes_to t (i + 1) ≡ bytes_to t i ++ op_bytes (view (op_at t i))
bytes_more t i =
    ap (λ (l : List ℕ). head_of t ++ l) (chain_snoc op_bytes i (λ (k : ℕ). view (op_at t k)))
    ∙ sym (append_assoc (head_of t) (chain op_bytes (view_to t i).ops) (op_bytes (view (op_at t i))))

pub length_more : (t : Sheet) (i : ℕ) → length (bytes_to t (i + 1)) ≡ length (bytes_to t i) + length (op_bytes (view (op_at t i)))
length_more t i = ap length (bytes_more t i) ∙ length-append (bytes_to t i) (op_bytes (view (op_at t i)))

pub bytes_all : (t : Sheet) → bytes_to t t.count ≡ sheet_bytes (view_sheet t)
bytes_all t =
    ap (λ (n : ℕ). head_bytes t.inputs t.queues t.variables n ++ chain op_bytes (view_sheet t).ops)
    (sym (build_length t.count (λ (k : ℕ). view (op_at t k))))

length_mono : (t : Sheet) (i m : ℕ) → length (bytes_to t i) ≤ length (bytes_to t (i + m))
length_mono t i zero = let e : i + 0 ≡ i = omega arith in rw e (omega arith)
length_mono t i (suc m) =
    let e : i + suc m ≡ i + m + 1 = omega arith in
    rw e (omega (arith, length_mono t i m, length_more t (i + m)))

-- there is room for the next operator
pub length_within : (t : Sheet) (i : ℕ) → i < t.count → length (bytes_to t i) + length (op_bytes (view (op_at t i))) ≤ length (sheet_bytes (view_sheet t))
length_within t i l =
    let m = t.count - (i + 1) in
    let e : i + 1 + m ≡ t.count = omega arith in
    let h = rw (e, bytes_all t) at (length_mono t (i + 1) m) in
    omega (arith, length_more t i)

pub length_head_within : (t : Sheet) → HEAD_BYTES ≤ length (sheet_bytes (view_sheet t))
length_head_within t =
    let h = ap length (sym (bytes_all t)) ∙ length-append (head_of t) (chain op_bytes (view_sheet t).ops) in
    omega (arith, length_head_bytes t.inputs t.queues t.variables t.count)

-- what was written after the head, with one operator more, and all of it
pub writes_more : (s₀ s after : List ℕ) (t : Sheet) (at i : ℕ) → at ≡ length (bytes_to t i) → s ≡ sets s₀ HEAD_BYTES (chain op_bytes (view_to t i).ops) →
    after ≡ sets s at (op_bytes (view (op_at t i))) → after ≡ sets s₀ HEAD_BYTES (chain op_bytes (view_to t (i + 1)).ops)
writes_more s₀ s after t at i e p q =
    let ops = chain op_bytes (view_to t i).ops in
    let h = length_head_bytes t.inputs t.queues t.variables t.count in
    let d : at ≡ HEAD_BYTES + length ops = omega (arith, length-append (head_of t) ops) in
    q ∙ rw (p, d, chain_snoc op_bytes i (λ (k : ℕ). view (op_at t k))) (sets_append ops (op_bytes (view (op_at t i))) s₀ HEAD_BYTES)

pub writes_all : (s₀ s l : List ℕ) (t : Sheet) (i : ℕ) → i ≡ t.count → s₀ ≡ sets l 0 (head_of t) → s ≡ sets s₀ HEAD_BYTES (chain op_bytes (view_to t i).ops) →
    s ≡ sets l 0 (sheet_bytes (view_sheet t))
writes_all s₀ s l t i e p q =
    let h : HEAD_BYTES ≡ 0 + length (head_of t) = omega (arith, length_head_bytes t.inputs t.queues t.variables t.count) in
    q ∙ ap (λ (n : ℕ). sets s₀ n (chain op_bytes (view_to t i).ops)) h ∙ ap (λ (b : List ℕ). sets b (0 + length (head_of t)) (chain op_bytes (view_to t i).ops)) p
    ∙ sets_append (head_of t) (chain op_bytes (view_to t i).ops) l 0 ∙ ap (λ (n : ℕ). sets l 0 (bytes_to t n)) e ∙ ap (sets l 0) (bytes_all t)

-- ---- what writing answers, by the check and the room, whatever the bytes are

wrote_as : (l m : List ℕ) (r : Result ℕ Refusal) (v w : Writing) → v ≡ w → paper r ≡ w.answer → result_unwrap_or r 0 ≡ w.size → m ≡ w.buffer → Wrote v m r
wrote_as l m r v w e a n b =
    record {
      answer = a ∙ ap (λ (x : Writing). x.answer) (sym e);
      size = n ∙ ap (λ (x : Writing). x.size) (sym e);
      buffer = b ∙ ap (λ (x : Writing). x.buffer) (sym e);
    }

pub writing_short : (bytes l : List ℕ) → length l < length bytes → writing bytes l ≡ record { answer = refused_at 18 0; size = 0; buffer = l }
writing_short bytes l h = rw (lt-leb (length bytes) (length l) h)

writing_fits : (bytes l : List ℕ) → length bytes ≤ length l →
    writing bytes l ≡ record { answer = accepted; size = length bytes; buffer = bytes ++ drop (length bytes) l }
writing_fits bytes l h = rw (le-leb (length bytes) (length l) h)

module _ (t : Sheet) (bytes l : List ℕ) where
  writing_accepted : check_of t ≡ accepted → writing_of t bytes l ≡ writing bytes l
  writing_accepted h = rw h

  writing_refused : (b : Paper) → check_of t ≡ b → is_accepted b ≡ false → writing_of t bytes l ≡ record { answer = b; size = 0; buffer = l }
  writing_refused b h e = rw (h, e)

  pub wrote_refused : (e : Refusal) → refused_for e.reason e.spot ≡ check_of t → Wrote (writing_of t bytes l) l (Err e)
  wrote_refused e h =
      wrote_as l l (Err e) _ _ (writing_refused (refused_for e.reason e.spot) (sym h) (refusal_refuses e.reason e.spot)) refl refl refl

  pub wrote_short : (n : ℕ) → check_of t ≡ accepted → n ≡ length bytes → length l < n → Wrote (writing_of t bytes l) l (Err (refusal TooShort (Some 0)))
  wrote_short n h e b =
      wrote_as l l (Err (refusal TooShort (Some 0))) _ _ (writing_accepted h ∙ writing_short bytes l (omega arith)) refl refl refl

  pub wrote_done : (n : ℕ) (after : List ℕ) → check_of t ≡ accepted → n ≡ length bytes → n ≤ length l → after ≡ sets l 0 bytes →
      Wrote (writing_of t bytes l) after (Ok n)
  wrote_done n after h e b d =
      wrote_as l after (Ok n) _ _ (writing_accepted h ∙ writing_fits bytes l (omega arith)) refl e
      (d ∙ sets_front bytes l (omega arith))

  pub writing_of_room : check_of t ≡ accepted → length bytes ≤ length l →
      writing_of t bytes l ≡ record { answer = accepted; size = length bytes; buffer = bytes ++ drop (length bytes) l }
  writing_of_room h room = writing_accepted h ∙ writing_fits bytes l room

-- ---- and for the bytes of the sheet

pub written_accepted : (t : Sheet) (l : List ℕ) → check_of t ≡ accepted → write_of t l ≡ writing (sheet_bytes (view_sheet t)) l
unfolding write_of
written_accepted t l h = writing_accepted t (sheet_bytes (view_sheet t)) l h

pub written_refused : (t : Sheet) (l : List ℕ) (b : Paper) → check_of t ≡ b → is_accepted b ≡ false → write_of t l ≡ record { answer = b; size = 0; buffer = l }
unfolding write_of
written_refused t l b h e = writing_refused t (sheet_bytes (view_sheet t)) l b h e

pub writes_refused : (t : Sheet) (l : List ℕ) (e : Refusal) → refused_for e.reason e.spot ≡ check_of t → Writes t l l (Err e)
unfolding write_of
writes_refused t l e h = wrote_refused t (sheet_bytes (view_sheet t)) l e h

module _ (t : Sheet) (l : List ℕ) (n : ℕ) (h : check_of t ≡ accepted) (e : n ≡ length (sheet_bytes (view_sheet t))) where
  pub writes_short : length l < n → Writes t l l (Err (refusal TooShort (Some 0)))
  unfolding write_of
  writes_short b = wrote_short t (sheet_bytes (view_sheet t)) l n h e b

  pub writes_done : (after : List ℕ) → n ≤ length l → after ≡ sets l 0 (sheet_bytes (view_sheet t)) → Writes t l after (Ok n)
  unfolding write_of
  writes_done after b d = wrote_done t (sheet_bytes (view_sheet t)) l n after h e b d

-- a buffer with room for an accepted sheet gets its bytes at its front
pub write_of_room : (t : Sheet) (l bytes : List ℕ) → check_of t ≡ accepted → sheet_bytes (view_sheet t) ≡ bytes → length bytes ≤ length l →
    write_of t l ≡ record { answer = accepted; size = length bytes; buffer = bytes ++ drop (length bytes) l }
unfolding write_of
write_of_room t l bytes h e room = ap (λ (b : List ℕ). writing_of t b l) e ∙ writing_of_room t bytes l h room
