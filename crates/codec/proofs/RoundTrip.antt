-- A sheet that is written and read back, from what the two calls ensure.
-- Assumes nothing.
use mathlib.Core.Path.{◌≡◌, refl, ap, ◌∙◌, sym}
use mathlib.Core.Logic.{⊎_elim}
use mathlib.Core.Bool.{Bool, cond}
use mathlib.Core.List.{List}
use Prim.Native.Nat.{ℕ, ◌<◌, ◌≤◌}
use native.Mathlib.Omega.{arith}
use lib.ListN.{length, take, drop, length-append}
use Rattle.base_lists.proofs.Build.{order, never}
use Rattle.std.specs.Prelude.{Result, Ok, Err}
use Rattle.std.specs.Result.{result_unwrap_or}
use Rattle.base_refusal.specs.declared.Refusal.{Refusal}
use Rattle.sheet.specs.declared.Sheet.{Sheet}
use Rattle.sheet.specs.Answer.{Paper, paper, accepted, refused_at, is_accepted}
use Rattle.sheet.specs.Sheet.{view_sheet, no_sheet, HeldSheet}
use Rattle.sheet.specs.Check.{check_of}
use Rattle.sheet.proofs.Accepted.{Accepted, Refuses, facts_accepted, check_answers}
use Rattle.sheet.proofs.AnswerLaws.{accepted_apart, refusal_refuses, value_of}
use Rattle.codec_read.specs.Read.{Reading, read_of}
use Rattle.codec_write.specs.Write.{sheet_bytes, Writing, write_of, Writes}
use Rattle.codec_read.specs.Fronts.{Reads}
use Rattle.codec.specs.Again.{Agains}
use Rattle.codec.proofs.Theorems.{read_of_written}
use Rattle.codec_write.proofs.Writing.{written_accepted, written_refused, writing_short, write_of_room}

-- an accepted writing had a checked sheet, and room for it
record Room (t : Sheet) (l : List ℕ) : Type 0 where
  good : check_of t ≡ accepted
  room : length (sheet_bytes (view_sheet t)) ≤ length l

room_of_answer : (t : Sheet) (l : List ℕ) → (write_of t l).answer ≡ accepted → Room t l
room_of_answer t l h =
    ⊎_elim
    (λ (f : Accepted t).
    let good = facts_accepted t f in
    ⊎_elim
    (λ (s : length l < length (sheet_bytes (view_sheet t))).
    absurd (accepted_apart 18 0 (sym h ∙ ap (λ (w : Writing). w.answer) (written_accepted t l good ∙ writing_short (sheet_bytes (view_sheet t)) l s))))
    (λ (r : length (sheet_bytes (view_sheet t)) ≤ length l). record { good = good; room = r })
    (order (length l) (length (sheet_bytes (view_sheet t)))))
    (λ (r : Refuses t).
    absurd
    (accepted_apart r.number r.spot
    (sym h ∙ ap (λ (w : Writing). w.answer) (written_refused t l (refused_at r.number r.spot) r.refuses refl))))
    (check_answers t)

-- what was written lies in the buffer, and is read as the sheet
module _ (t : Sheet) (l m : List ℕ) (n : ℕ) (wrote : Writes t l m (Ok n)) where
  answered : (write_of t l).answer ≡ accepted
  answered = sym wrote.answer

  had : Room t l
  had = room_of_answer t l answered

  pub size_in_buffer : n ≤ length m
  size_in_buffer =
      let bytes = sheet_bytes (view_sheet t) in
      let e = write_of_room t l bytes had.good refl had.room in
      let k = wrote.size ∙ ap (λ (x : Writing). x.size) e in
      let b = ap length (wrote.buffer ∙ ap (λ (x : Writing). x.buffer) e) ∙ length-append bytes (drop (length bytes) l) in
      omega arith

  pub again_done : HeldSheet t → (r : Result Sheet Refusal) → Reads (take n m) r → Agains t l m r
  again_done held r reads =
      let e =
      ap (λ (k : ℕ). read_of (take k m)) wrote.size ∙ ap (λ (b : List ℕ). read_of (take (write_of t l).size b)) wrote.buffer
      ∙ read_of_written t l held had.good had.room in
      let a : paper r ≡ accepted = reads.answer ∙ ap (λ (x : Reading). x.answer) e in
      let s : result_unwrap_or r no_sheet ≡ t = reads.sheet ∙ ap (λ (x : Reading). x.sheet) e in
      record {
        same = λ good room. value_of r no_sheet a ∙ ap Ok s;
        answer = a ∙ sym answered;
        sheet = s ∙ ap (λ (p : Paper). cond (is_accepted p) t no_sheet) (sym answered);
        buffer = wrote.buffer;
      }

-- a writing's refusal is the answer
pub again_refused : (t : Sheet) (l m : List ℕ) (d : Refusal) → Writes t l m (Err d) → Agains t l m (Err d)
again_refused t l m d wrote =
    let f = refusal_refuses d.reason d.spot in
    record {
      same = λ good room.
          never
          (sym f ∙ ap is_accepted (wrote.answer ∙ ap (λ (x : Writing). x.answer) (write_of_room t l (sheet_bytes (view_sheet t)) good refl room)));
      answer = wrote.answer;
      sheet = ap (λ (b : Bool). cond b t no_sheet) (sym f ∙ ap is_accepted wrote.answer);
      buffer = wrote.buffer;
    }
