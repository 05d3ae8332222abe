-- Two outcomes that meet the contract of `report` are equal; and what the contract says of a buffer that is long enough.
-- Assumes nothing.
use mathlib.Core.Path.{◌≡◌, sym, ap, ◌∙◌}
use mathlib.Core.List.{List, ◌++◌}
use Prim.Native.Nat.{ℕ, ◌≤◌}
use native.Mathlib.Omega.{arith}
use lib.ListN.{length, drop}
use borrow.Author.Tests.{le-leb}
use Rattle.std.specs.Prelude.{Result, Ok}
use Rattle.base_refusal.specs.declared.Refusal.{Refusal}
use Rattle.sheet.proofs.AnswerLaws.{answer_injective, value_of}
use Rattle.bench_report.specs.Print.{text_of}
use Rattle.bench_report.specs.Reports.{TEXT, report_of, Reports}

pub report_one : {input before after after' : List ℕ} {r r' : Result ℕ Refusal} → Reports input before after r →
    Reports input before after' r' → (r ≡ r') × (after ≡ after')
report_one {r = r} {r' = r'} h k = (answer_injective r r' 0 (h.answer ∙ sym k.answer) (h.size ∙ sym k.size), h.buffer ∙ sym k.buffer)

-- the text of every input that the program is given fits into TEXT bytes (Fits.antt: of every list of bytes), and stands at the front of the buffer
pub text_at_front : {input before after : List ℕ} {r : Result ℕ Refusal} → Reports input before after r → TEXT ≤ length before →
    (length (text_of input) ≤ TEXT) × (r ≡ Ok (length (text_of input))) × (after ≡ text_of input ++ drop (length (text_of input)) before)
unfolding report_of
text_at_front {before = before} {r = r} h l =
    let b = le-leb TEXT (length before) l in
    let n = rw b at h.size in
    (omega (arith, h.fits), value_of r 0 (rw b at h.answer) ∙ ap Ok n, rw b at h.buffer)
