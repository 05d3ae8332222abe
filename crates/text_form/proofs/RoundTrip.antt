-- There and back: the text of an accepted sheet is read as that sheet, and what is printed of a text that was read is the one form of that text.
-- Assumes nothing.
use mathlib.Core.Path.{◌≡◌, ap, ◌∙◌, sym}
use mathlib.Core.List.{List, []}
use mathlib.Core.Option.{none}
use Prim.Native.Nat.{ℕ}
use Rattle.sheet_operator.specs.Op.{Abstract}
use Rattle.sheet.specs.declared.Sheet.{Sheet}
use Rattle.sheet.specs.Answer.{accepted}
use Rattle.sheet.specs.Sheet.{view_sheet, memory_sheet, HeldSheet}
use Rattle.sheet.specs.Check.{check_of}
use Rattle.sheet.proofs.Accepted.{ranges_of_accepted}
use Rattle.sheet.proofs.Placed.{view_back}
use Rattle.sheet.proofs.InMemory.{memory_back}
use Rattle.text_scan.specs.Reader.{got}
use Rattle.text_grammar.specs.Readers.{Tree, text}
use Rattle.text_grammar.specs.Tokens.{printed, text_tokens, GoodTree, TextOf}
use Rattle.text_grammar.proofs.CompleteText.{text_complete}
use Rattle.text_grammar.proofs.Printing.{read_printed}
use Rattle.text_form.specs.Form.{tree_of, sheet_of, sheet_text}
use Rattle.text_form.specs.Reading.{TextReading, read_text_of}
use Rattle.text_form.proofs.Above.{sheet_of_tree}
use Rattle.text_form.proofs.GoodSheet.{good_tree_of_accepted, small_ops}
use Rattle.text_form.proofs.Owned.{Owns, owns_of_answer, answer_as, read_owned, ReadOf, read_of_answer}

-- ---- the text of an accepted sheet is read as that sheet

module _ (t : Sheet) (held : HeldSheet t) (h : check_of t ≡ accepted) where
  sheet_back : memory_sheet (sheet_of (tree_of (view_sheet t))) ≡ t
  sheet_back = ap memory_sheet (sheet_of_tree t h) ∙ memory_back t h held

  pub owns_of_accepted : Owns (tree_of (view_sheet t))
  owns_of_accepted = record { accepts = ap check_of sheet_back ∙ h; own = ap tree_of (sheet_of_tree t h) }

  pub text_of_sheet : text (sheet_text (view_sheet t)) ≡ got (tree_of (view_sheet t)) []
  unfolding sheet_text
  text_of_sheet = read_printed (tree_of (view_sheet t)) (good_tree_of_accepted t held h)

  pub read_of_sheet_text : read_text_of (sheet_text (view_sheet t)) ≡ record { answer = none; sheet = t }
  read_of_sheet_text =
      read_owned (sheet_text (view_sheet t)) (tree_of (view_sheet t)) text_of_sheet owns_of_accepted
      ∙ ap (λ (x : Sheet). record { answer = none; sheet = x }) sheet_back

  -- printed, read and printed again
  pub print_again : sheet_text (view_sheet (read_text_of (sheet_text (view_sheet t))).sheet) ≡ sheet_text (view_sheet t)
  print_again = ap (λ (x : TextReading). sheet_text (view_sheet x.sheet)) read_of_sheet_text

-- ---- what is printed of a text that was read is the one form of that text

view_of_owned : (t : Tree) → GoodTree t → Owns t → view_sheet (memory_sheet (sheet_of t)) ≡ sheet_of t
view_of_owned t g o = view_back (sheet_of t) (ranges_of_accepted (memory_sheet (sheet_of t)) o.accepts).count (small_ops g.ops)

tree_of_owned : (t : Tree) → GoodTree t → Owns t → tree_of (view_sheet (memory_sheet (sheet_of t))) ≡ t
tree_of_owned t g o = ap tree_of (view_of_owned t g o) ∙ o.own

form_is : (a : Abstract) (t : Tree) → tree_of a ≡ t → sheet_text a ≡ printed (text_tokens t)
unfolding sheet_text
form_is a t e = ap (λ (x : Tree). printed (text_tokens x)) e

-- the sheet passes the check, its own tree is the one that the text stands for, and that tree's tokens are what is printed
pub record OneForm (s : List ℕ) (t : Sheet) : Type 0 where
  pub checked : check_of t ≡ accepted
  pub tree : Tree
  pub reads : text s ≡ got tree []
  pub stands : TextOf tree s
  pub own : tree_of (view_sheet t) ≡ tree
  pub form : sheet_text (view_sheet t) ≡ printed (text_tokens tree)

module _ (s : List ℕ) (h : (read_text_of s).answer ≡ none) where
  of : ReadOf s
  of = read_of_answer s h

  its_reading : read_text_of s ≡ record { answer = none; sheet = memory_sheet (sheet_of of.tree) }
  its_reading = read_owned s of.tree of.reads of.owns

  its_tree : tree_of (view_sheet (read_text_of s).sheet) ≡ of.tree
  its_tree = ap (λ (x : TextReading). tree_of (view_sheet x.sheet)) its_reading ∙ tree_of_owned of.tree of.stands.good of.owns

  its_form : sheet_text (view_sheet (read_text_of s).sheet) ≡ printed (text_tokens of.tree)
  its_form = form_is (view_sheet (read_text_of s).sheet) of.tree its_tree

  pub one_form_of_read : OneForm s (read_text_of s).sheet
  one_form_of_read =
      record {
        checked = ap (λ (x : TextReading). check_of x.sheet) its_reading ∙ of.owns.accepts;
        tree = of.tree;
        reads = of.reads;
        stands = of.stands;
        own = its_tree;
        form = its_form;
      }

  pub read_again : read_text_of (sheet_text (view_sheet (read_text_of s).sheet)) ≡ read_text_of s
  read_again =
      let t = of.tree in
      ap read_text_of its_form ∙ read_owned (printed (text_tokens t)) t (read_printed t of.stands.good) of.owns ∙ sym its_reading

-- texts of one tree are read alike, whatever their blanks
pub blanks_free : (s s' : List ℕ) (t : Tree) → TextOf t s → TextOf t s' → (read_text_of s).answer ≡ none → read_text_of s' ≡ read_text_of s
blanks_free s s' t w w' h =
    let e = text_complete t s w in
    let o = owns_of_answer s t (sym (answer_as s (got t []) e) ∙ h) in
    read_owned s' t (text_complete t s' w') o ∙ sym (read_owned s t e o)

-- two texts that are read as the same sheet are printed alike; they are texts of one tree, so that only their blanks differ
pub same_sheet_same_text : (s s' : List ℕ) → (read_text_of s).sheet ≡ (read_text_of s').sheet →
    sheet_text (view_sheet (read_text_of s).sheet) ≡ sheet_text (view_sheet (read_text_of s').sheet)
same_sheet_same_text s s' e = ap (λ (x : Sheet). sheet_text (view_sheet x)) e

pub same_sheet_same_tree : (s s' : List ℕ) (h : (read_text_of s).answer ≡ none) (h' : (read_text_of s').answer ≡ none) →
    (read_text_of s).sheet ≡ (read_text_of s').sheet → (one_form_of_read s h).tree ≡ (one_form_of_read s' h').tree
same_sheet_same_tree s s' h h' e =
    sym (one_form_of_read s h).own ∙ ap (λ (x : Sheet). tree_of (view_sheet x)) e ∙ (one_form_of_read s' h').own
