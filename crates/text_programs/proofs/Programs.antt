-- What the programs put out, by the input's length and by what reading it answers.
-- Assumes nothing.
use mathlib.Core.Path.{◌≡◌, refl, ap, ◌∙◌, sym}
use mathlib.Core.Bool.{Bool, cond}
use mathlib.Core.List.{List}
use mathlib.Core.Option.{some, none}
use Prim.Native.Nat.{ℕ, ◌<◌, ◌≤◌}
use native.Mathlib.Omega.{arith}
use lib.ListN.{length}
use borrow.Author.Tests.{le-leb, lt-leb}
use Rattle.std.specs.Prelude.{Result, Ok, Err, Some, None}
use Rattle.std.specs.Prelude as rattle
use Rattle.std.specs.Option.{unwrap_or}
use Rattle.std.specs.Result.{result_unwrap_or}
use Rattle.base_bounds.specs.Bounds.{INPUT_BYTES}
use Rattle.base_refusal.specs.declared.Reason.{Reason}
use Rattle.base_refusal.specs.declared.Refusal.{Refusal}
use Rattle.base_refusal.specs.Refusal.{number_of}
use Rattle.bench_lines.specs.Lines.{refusal_line}
use Rattle.sheet_format.proofs.Heads.{head_good_of_number}
use Rattle.sheet.specs.declared.Sheet.{Sheet}
use Rattle.sheet.specs.Answer.{Paper, paper, accepted, refused_for}
use Rattle.sheet.specs.Sheet.{view_sheet, no_sheet}
use Rattle.sheet.specs.Check.{check_of}
use Rattle.sheet.proofs.Accepted.{facts_accepted}
use Rattle.codec_read.specs.Read.{Reading, read_of, head_in}
use Rattle.codec_read.specs.Fronts.{Reads}
use Rattle.codec_read.proofs.Follow.{with_all}
use Rattle.codec_read.proofs.Answers.{accepts_of_answer}
use Rattle.codec_read.proofs.InMemory.{accepted_memory}
use Rattle.codec_write.specs.Write.{sheet_bytes}
use Rattle.text_form.specs.Reading.{nowhere, at_record, at_byte, TextPaper, spotted, read_text_of}
use Rattle.text_form.proofs.Refusals.{Answers, accepts, at_byte_lem, at_record_lem, read_refusal_numbers}
use Rattle.text_form.proofs.RoundTrip.{one_form_of_read}
use Rattle.text_read.specs.declared.TextRefusal.{TextRefusal}
use Rattle.text_read.specs.declared.TextRefusal.TheVariants as text
use Rattle.text_read.specs.Answer.{text_paper}
use Rattle.text_read.specs.Reads.{ReadsText}
use Rattle.text_places.specs.Places.{place_of, outside_line}
use Rattle.text_programs.specs.Output.{Output, out, err, output_of, limited, text_line, to_text_of, to_bytes_of}

-- ---- the limit

limited_long : (s : List ℕ) (o : Output) → INPUT_BYTES < length s → limited s o ≡ err (refusal_line 18 0)
limited_long s o h = ap (λ (b : Bool). cond b o (err (refusal_line 18 0))) (lt-leb (length s) INPUT_BYTES h)

limited_short : (s : List ℕ) (o : Output) → length s ≤ INPUT_BYTES → limited s o ≡ o
limited_short s o h = ap (λ (b : Bool). cond b o (err (refusal_line 18 0))) (le-leb (length s) INPUT_BYTES h)

-- ---- `to_text`

pub to_text_long : (s : List ℕ) → INPUT_BYTES < length s → to_text_of s ≡ err (refusal_line 18 0)
unfolding to_text_of
to_text_long s h = limited_long s _ h

-- bytes that are read as a sheet are read as an accepted one
read_accepted : (s : List ℕ) → (read_of s).answer ≡ accepted → check_of (read_of s).sheet ≡ accepted
read_accepted s h =
    let a = accepts_of_answer s h in
    ap (λ (r : Reading). check_of r.sheet) a.reads
    ∙ facts_accepted _ (accepted_memory (with_all (head_in s) a.ops) (rw a.size (head_good_of_number s a.head)) a.follow a.defined)

pub to_text_accepted : (s : List ℕ) (t : Sheet) → Reads s (Ok t) → check_of t ≡ accepted
to_text_accepted s t r = ap check_of r.sheet ∙ read_accepted s (sym r.answer)

-- a sheet's refusal is a line
output_refused : (s xs : List ℕ) (reason : Reason) (spot : rattle.Option ℕ) →
    output_of s (spotted (refused_for reason spot)) xs ≡ err (refusal_line (number_of reason) (unwrap_or spot 0))
output_refused s xs reason (Some k) = refl
output_refused s xs reason None = refl

module _ (s : List ℕ) (short : length s ≤ INPUT_BYTES) where
  to_text_by : (r : Result Sheet Refusal) → Reads s r →
      to_text_of s ≡ output_of s (spotted (paper r)) (text_line (view_sheet (result_unwrap_or r no_sheet)))
  unfolding to_text_of
  to_text_by r h =
      limited_short s _ short ∙ ap (λ (p : Paper). output_of s (spotted p) (text_line (view_sheet (read_of s).sheet))) (sym h.answer)
      ∙ ap (λ (t : Sheet). output_of s (spotted (paper r)) (text_line (view_sheet t))) (sym h.sheet)

  pub to_text_done : (t : Sheet) → Reads s (Ok t) → to_text_of s ≡ out (text_line (view_sheet t))
  to_text_done t h = to_text_by (Ok t) h

  pub to_text_refused : (e : Refusal) → Reads s (Err e) → to_text_of s ≡ err (refusal_line (number_of e.reason) (unwrap_or e.spot 0))
  to_text_refused e h = to_text_by (Err e) h ∙ output_refused s (text_line (view_sheet no_sheet)) e.reason e.spot

-- ---- `to_bytes`

pub to_bytes_long : (s : List ℕ) → INPUT_BYTES < length s → to_bytes_of s ≡ err (refusal_line 18 0)
unfolding to_bytes_of
to_bytes_long s h = limited_long s _ h

-- a refused byte is one of the text's, or its end
abbrev byte_of : TextPaper → ℕ
byte_of none = 0
byte_of (some (number, nowhere)) = 0
byte_of (some (number, at_record k)) = 0
byte_of (some (number, at_byte b)) = b

byte_said : (s : List ℕ) (p : TextPaper) → Answers s p → byte_of p ≤ length s
byte_said s _ accepts = omega arith
byte_said s _ (at_byte_lem b h) = h
byte_said s _ (at_record_lem number spot a b d) = omega arith

pub to_bytes_accepted : (s : List ℕ) (t : Sheet) → ReadsText s (Ok t) → check_of t ≡ accepted
to_bytes_accepted s t r = ap check_of r.sheet ∙ (one_form_of_read s (sym r.answer)).checked

pub to_bytes_within : (s : List ℕ) (at : ℕ) → ReadsText s (Err (text.Outside at)) → at ≤ length s
to_bytes_within s at r = omega (arith, ap byte_of r.answer, byte_said s (read_text_of s).answer (read_refusal_numbers s))

module _ (s : List ℕ) (short : length s ≤ INPUT_BYTES) where
  to_bytes_by : (r : Result Sheet TextRefusal) → ReadsText s r →
      to_bytes_of s ≡ output_of s (text_paper r) (sheet_bytes (view_sheet (result_unwrap_or r no_sheet)))
  unfolding to_bytes_of
  to_bytes_by r h =
      limited_short s _ short ∙ ap (λ (p : TextPaper). output_of s p (sheet_bytes (view_sheet (read_text_of s).sheet))) (sym h.answer)
      ∙ ap (λ (t : Sheet). output_of s (text_paper r) (sheet_bytes (view_sheet t))) (sym h.sheet)

  pub to_bytes_done : (t : Sheet) → ReadsText s (Ok t) → to_bytes_of s ≡ out (sheet_bytes (view_sheet t))
  to_bytes_done t h = to_bytes_by (Ok t) h

  pub to_bytes_refused : (e : Refusal) → ReadsText s (Err (text.Sheet e)) →
      to_bytes_of s ≡ err (refusal_line (number_of e.reason) (unwrap_or e.spot 0))
  to_bytes_refused e h = to_bytes_by (Err (text.Sheet e)) h ∙ output_refused s (sheet_bytes (view_sheet no_sheet)) e.reason e.spot

  pub to_bytes_outside : (at : ℕ) → ReadsText s (Err (text.Outside at)) → to_bytes_of s ≡ err (outside_line 19 at (place_of s at))
  to_bytes_outside at h = to_bytes_by (Err (text.Outside at)) h
