-- Printing a sheet: its text, and what the lent buffer then holds.
use Rattle.std.specs.Prelude.{ℕ, List, Result}
use Rattle.sheet.specs.declared.Sheet.{Sheet}
use Rattle.sheet.specs.Sheet.{view_sheet}
use Rattle.base_refusal.specs.declared.Refusal.{Refusal}
use Rattle.codec_write.specs.Write.{Writing, writing_of, Wrote}
use Rattle.text_form.specs.Form.{sheet_text}

unfoldable pub print_of : Sheet → List ℕ → Writing
print_of t l = writing_of t (sheet_text (view_sheet t)) l

-- what the function answers, against the definition
abbrev pub Prints : Sheet → List ℕ → List ℕ → Result ℕ Refusal → Type 0
Prints t before after r = Wrote (print_of t before) after r
