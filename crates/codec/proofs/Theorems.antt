-- Reading and writing sheets: each gives back what the other was given, what is read passes the check, and every refusal names a record.
-- Assumes nothing.
use mathlib.Core.Path.{◌≡◌, refl, ap, ◌∙◌}
use mathlib.Core.List.{List, ◌++◌}
use Prim.Native.Nat.{ℕ, ◌+◌, ◌<◌, ◌≤◌}
use lib.ListN.{length, get_or, take, drop}
use lib.Seq.{take-append_seam}
use Rattle.sheet.specs.declared.Sheet.{Sheet}
use Rattle.sheet.specs.Answer.{accepted, refused_at, refused}
use Rattle.sheet.specs.Sheet.{view_sheet, HeldSheet}
use Rattle.sheet.specs.Check.{check_of}
use Rattle.sheet.proofs.Accepted.{accepted_facts, facts_accepted}
use Rattle.codec_read.specs.Read.{read_of}
use Rattle.codec_write.specs.Write.{sheet_bytes, Writing, write_of}
use Rattle.codec_read.proofs.Answers.{refusal_bounds, refusal_has_record}
use Rattle.codec_write.proofs.Writing.{write_of_room}
use Rattle.codec.proofs.Back.{read_of_bytes, accepted_of_read, bytes_of_read}

-- a checked sheet that is written into a buffer with room for it is read back from there
pub read_of_written : (t : Sheet) (l : List ℕ) → HeldSheet t → check_of t ≡ accepted → length (sheet_bytes (view_sheet t)) ≤ length l →
    read_of (take (write_of t l).size (write_of t l).buffer) ≡ record { answer = accepted; sheet = t }
read_of_written t l held h room =
    let bytes = sheet_bytes (view_sheet t) in
    ap (λ (w : Writing). read_of (take w.size w.buffer)) (write_of_room t l bytes h refl room)
    ∙ ap read_of (take-append_seam bytes (drop (length bytes) l)) ∙ read_of_bytes t held (accepted_facts t h)

-- a sheet that is read has the bytes that it was read from, and no others
pub written_of_read : (s : List ℕ) (t : Sheet) → ((k : ℕ) → get_or s k 0 < 256) → read_of s ≡ record { answer = accepted; sheet = t } →
    sheet_bytes (view_sheet t) ≡ s
written_of_read s t below h = bytes_of_read s t h below

-- a sheet that is read passes the check
pub read_is_checked : (s : List ℕ) (t : Sheet) → read_of s ≡ record { answer = accepted; sheet = t } → check_of t ≡ accepted
read_is_checked s t h = facts_accepted t (accepted_of_read s t h)

-- a sheet that is read, and then written into a buffer with room for it, puts the same bytes there
pub write_of_read : (s : List ℕ) (t : Sheet) (l : List ℕ) → ((k : ℕ) → get_or s k 0 < 256) → read_of s ≡ record { answer = accepted; sheet = t } →
    length s ≤ length l → write_of t l ≡ record { answer = accepted; size = length s; buffer = s ++ drop (length s) l }
write_of_read s t l below h room = write_of_room t l s (read_is_checked s t h) (written_of_read s t below h) room

-- a reading's refusal is at one of its records: the head, an operator, or the one past the last
pub read_refusal_record : (s : List ℕ) (number spot : ℕ) → (read_of s).answer ≡ refused_at number spot → spot ≤ get_or s 7 0 + 1
read_refusal_record s number spot h = (refusal_bounds s number spot h).2

-- a reading's refusal is one of the numbers 1 to 7
pub read_refusal_number : (s : List ℕ) (number spot : ℕ) → (read_of s).answer ≡ refused_at number spot → (1 ≤ number) × (number ≤ 7)
read_refusal_number s number spot h = let b = refusal_bounds s number spot h in (b.0, b.1)

-- a reading's refusal always has a record
pub read_refusal_has_record : (s : List ℕ) (number : ℕ) → (read_of s).answer ≡ refused number → ⊥
read_refusal_has_record s number h = refusal_has_record s number h
