-- What the functions of reading a text answer, against the definitions.
use Rattle.std.specs.Prelude.{◌≡◌, cond, List, ℕ, Result}
use Rattle.std.specs.Result.{result_unwrap_or}
use Rattle.std.proofs.Math.Option.{none}
use Rattle.base_lists.specs.Lists.{build}
use Rattle.sheet.specs.declared.Sheet.{Sheet}
use Rattle.sheet.specs.Sheet.{view_sheet, no_sheet}
use Rattle.text_form.specs.Form.{outputs_of}
use Rattle.text_form.specs.Reading.{TextPaper, outside, is_read, read_text_of}
use Rattle.text_lists.specs.Names.{kept_of}
use Rattle.text_own.specs.Own.{same_kept}
use Rattle.text_tree.specs.declared.TextHead.{TextHead}
use Rattle.text_read.specs.declared.TextRefusal.{TextRefusal}
use Rattle.text_read.specs.Answer.{text_paper}

-- the first list that is not the sheet's own, of what is kept
abbrev pub kept_answer : TextHead → Sheet → TextPaper
kept_answer h t =
    cond (same_kept h.outputs.names (kept_of (outputs_of (view_sheet t))))
    (cond (same_kept h.inputs.names (kept_of (build t.inputs (λ (q : ℕ). q)))) none (outside h.inputs.start))
    (outside h.outputs.start)

pub record ListsRead (h : TextHead) (t : Sheet) (r : Result Sheet TextRefusal) : Type 0 where
  pub answer : text_paper r ≡ kept_answer h t
  pub sheet : result_unwrap_or r no_sheet ≡ cond (is_read (kept_answer h t)) t no_sheet

pub record ReadsText (s : List ℕ) (r : Result Sheet TextRefusal) : Type 0 where
  pub answer : text_paper r ≡ (read_text_of s).answer
  pub sheet : result_unwrap_or r no_sheet ≡ (read_text_of s).sheet
