-- What `to_text` and `to_bytes` put out of an input: bytes on one of the two streams, and nothing on the other.
use Rattle.std.specs.Prelude.{ℕ, Bool, true, false, cond, List, ◌++◌, leb, length}
use Rattle.std.proofs.Math.Option.{some, none}
use Rattle.base_bounds.specs.Bounds.{INPUT_BYTES}
use Rattle.base_words.specs.Text.{word}
use Rattle.bench_lines.specs.Lines.{refusal_line}
use Rattle.text_places.specs.Places.{place_of, outside_line}
use Rattle.sheet_operator.specs.Op.{Abstract}
use Rattle.sheet.specs.Sheet.{view_sheet}
use Rattle.codec_read.specs.Read.{read_of}
use Rattle.codec_write.specs.Write.{sheet_bytes}
use Rattle.text_form.specs.Form.{sheet_text}
use Rattle.text_form.specs.Reading.{Spot, nowhere, at_record, at_byte, TextPaper, spotted, read_text_of}

pub record Output : Type 0 where
  pub failed : Bool
  pub bytes : List ℕ

-- on standard output, and on standard error
abbrev pub out : List ℕ → Output
out xs = record { failed = false; bytes = xs }

abbrev pub err : List ℕ → Output
err xs = record { failed = true; bytes = xs }

-- ---- the line of a refusal

-- neither reading refuses without a place; such a refusal would be told at record 0
abbrev pub line_of : List ℕ → ℕ → Spot → List ℕ
line_of s number nowhere = refusal_line number 0
line_of s number (at_record k) = refusal_line number k
line_of s number (at_byte b) = outside_line number b (place_of s b)

-- ---- the programs

-- what reading the input answered, and the bytes that go out where it was not refused
abbrev pub output_of : List ℕ → TextPaper → List ℕ → Output
output_of s none xs = out xs
output_of s (some (number, spot)) xs = err (line_of s number spot)

-- an input over the bound is 18 at record 0
abbrev pub limited : List ℕ → Output → Output
limited s o = cond (leb (length s) INPUT_BYTES) o (err (refusal_line 18 0))

-- a sheet's text and one newline
abbrev pub text_line : Abstract → List ℕ
text_line a = sheet_text a ++ word "\n"

unfoldable pub to_text_of : List ℕ → Output
to_text_of s = limited s (output_of s (spotted (read_of s).answer) (text_line (view_sheet (read_of s).sheet)))

unfoldable pub to_bytes_of : List ℕ → Output
to_bytes_of s = limited s (output_of s (read_text_of s).answer (sheet_bytes (view_sheet (read_text_of s).sheet)))
