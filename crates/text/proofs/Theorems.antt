-- A sheet's three forms are one sheet: what is printed is read back, and what is read is printed in the one form.
-- Assumes nothing.
use mathlib.Core.Path.{◌≡◌, refl, ap, ◌∙◌}
use mathlib.Core.List.{List, ◌++◌}
use mathlib.Core.Option.{none}
use Prim.Native.Nat.{ℕ, ◌≤◌}
use lib.ListN.{length, take, drop}
use lib.Seq.{take-append_seam}
use Rattle.sheet.specs.declared.Sheet.{Sheet}
use Rattle.sheet.specs.Answer.{accepted}
use Rattle.sheet.specs.Sheet.{view_sheet, HeldSheet}
use Rattle.sheet.specs.Check.{check_of}
use Rattle.sheet.proofs.Accepted.{accepted_facts}
use Rattle.codec_read.specs.Read.{read_of}
use Rattle.codec_write.specs.Write.{sheet_bytes, Writing, writing_of}
use Rattle.codec_write.proofs.Writing.{writing_of_room}
use Rattle.codec.proofs.Back.{read_of_bytes}
use Rattle.text_grammar.specs.Tokens.{printed, text_tokens}
use Rattle.text_form.specs.Form.{sheet_text}
use Rattle.text_form.specs.Reading.{read_text_of}
use Rattle.text_form.proofs.RoundTrip.{one_form_of_read, read_of_sheet_text}
use Rattle.text_print.specs.Print.{print_of}

-- a buffer with room for an accepted sheet gets its text at its front
print_of_room : (t : Sheet) (l form : List ℕ) → check_of t ≡ accepted → sheet_text (view_sheet t) ≡ form → length form ≤ length l →
    print_of t l ≡ record { answer = accepted; size = length form; buffer = form ++ drop (length form) l }
unfolding print_of
print_of_room t l form h e room = ap (λ (b : List ℕ). writing_of t b l) e ∙ writing_of_room t form l h room

-- a checked sheet that is printed into a buffer with room for it is read back from there
pub read_of_printed : (t : Sheet) (l : List ℕ) → HeldSheet t → check_of t ≡ accepted → length (sheet_text (view_sheet t)) ≤ length l →
    read_text_of (take (print_of t l).size (print_of t l).buffer) ≡ record { answer = none; sheet = t }
read_of_printed t l held h room =
    let text = sheet_text (view_sheet t) in
    ap (λ (w : Writing). read_text_of (take w.size w.buffer)) (print_of_room t l text h refl room)
    ∙ ap read_text_of (take-append_seam text (drop (length text) l)) ∙ read_of_sheet_text t held h

-- a text that is read, and whose sheet is printed into a buffer with room for it, stands there in its one form
pub print_of_read : (s l : List ℕ) (h : (read_text_of s).answer ≡ none) →
    let form = printed (text_tokens (one_form_of_read s h).tree) in
    length form ≤ length l →
    print_of (read_text_of s).sheet l ≡ record { answer = accepted; size = length form; buffer = form ++ drop (length form) l }
print_of_read s l h room =
    let f = one_form_of_read s h in
    print_of_room (read_text_of s).sheet l (printed (text_tokens f.tree)) f.checked f.form room

-- a checked sheet's bytes and its text are both read as the sheet
pub three_forms : (t : Sheet) → HeldSheet t → check_of t ≡ accepted →
    (read_of (sheet_bytes (view_sheet t)) ≡ record { answer = accepted; sheet = t }) × (read_text_of (sheet_text (view_sheet t)) ≡ record { answer = none; sheet = t })
three_forms t held h = (read_of_bytes t held (accepted_facts t h), read_of_sheet_text t held h)
