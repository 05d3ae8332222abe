-- Reading a text: 19 where it is outside the grammar, then the sheet's own refusal, then 19 at the first list that is not the sheet's.
use Rattle.std.specs.Prelude.{ℕ, ◌-◌, Bool, true, false, cond, ◌&&◌, List, [], ◌∷◌, eqb, length}
use Rattle.std.proofs.Math.Option.{Option, some, none}
use Rattle.sheet.specs.declared.Sheet.{Sheet}
use Rattle.sheet.specs.Answer.{Paper, is_accepted}
use Rattle.sheet.specs.Sheet.{memory_sheet, no_sheet}
use Rattle.sheet.specs.Check.{check_of}
use Rattle.text_scan.specs.Reader.{Res, got, lost}
use Rattle.text_grammar.specs.Readers.{Tree, text}
use Rattle.text_grammar.specs.Begins.{from_outputs, from_inputs}
use Rattle.text_form.specs.Form.{tree_of, sheet_of}

-- what reading a text answers: accepted, or the number of the refusal and where it stands
pub data Spot : Type 0 where
  nowhere : Spot
  at_record : ℕ → Spot
  at_byte : ℕ → Spot

abbrev pub TextPaper : Type 0
TextPaper = Option (ℕ × Spot)

abbrev pub outside : ℕ → TextPaper
outside b = some (19, at_byte b)

-- a sheet's answer is a text's
abbrev pub spot_of : Option ℕ → Spot
spot_of none = nowhere
spot_of (some k) = at_record k

abbrev pub spotted : Paper → TextPaper
spotted none = none
spotted (some (number, spot)) = some (number, spot_of spot)

abbrev pub is_read : TextPaper → Bool
is_read none = true
is_read (some x) = false

-- the byte at which what is left of a text begins
abbrev pub byte_of : List ℕ → List ℕ → ℕ
byte_of s left = length s - length left

abbrev pub same_list : List ℕ → List ℕ → Bool
same_list [] [] = true
same_list [] (y ∷ ys) = false
same_list (x ∷ xs) [] = false
same_list (x ∷ xs) (y ∷ ys) = eqb x y && same_list xs ys

-- the first list that is not the sheet's own, in the text's order
abbrev pub lists_answer : List ℕ → Tree → Tree → TextPaper
lists_answer s t own =
    cond (same_list t.outputs own.outputs)
    (cond (same_list t.inputs own.inputs) none (outside (byte_of s (from_inputs s))))
    (outside (byte_of s (from_outputs s)))

unfoldable pub tree_answer : List ℕ → Tree → TextPaper
tree_answer s t =
    let a = sheet_of t in
    let p = check_of (memory_sheet a) in
    cond (is_accepted p) (lists_answer s t (tree_of a)) (spotted p)

-- the answer, and the sheet; on a refusal the empty one
pub record TextReading : Type 0 where
  pub answer : TextPaper
  pub sheet : Sheet

abbrev pub read_tree : List ℕ → Res Tree → TextReading
read_tree s (lost left) = record { answer = outside (byte_of s left); sheet = no_sheet }
read_tree s (got t left) =
    record { answer = tree_answer s t; sheet = cond (is_read (tree_answer s t)) (memory_sheet (sheet_of t)) no_sheet }

unfoldable pub read_text_of : List ℕ → TextReading
read_text_of s = read_tree s (text s)
