-- The operators up to the end of the text, turn by turn.
-- Assumes nothing.
use Prim.Native.Nat.{ℕ, ◌-◌, ◌<◌}
use mathlib.Core.Path.{◌≡◌, refl, ap, ◌∙◌, sym}
use mathlib.Core.Bool.{Bool, true, false, cond}
use mathlib.Core.List.{List, [], ◌∷◌}
use native.Mathlib.Omega.{arith}
use lib.ListN.{length, drop, length-drop}
use Rattle.std.specs.Prelude.{Result, Ok, Err}
use Rattle.base_lists.specs.Lists.{all}
use Rattle.base_lists.proofs.Tests.{both, false_of}
use Rattle.base_words.specs.Text.{word}
use Rattle.sheet_operator.specs.Op.{Op}
use Rattle.sheet_operator.specs.Memory.{memory, no_operator}
use Rattle.sheet_operator.specs.declared.Operator.{Operator}
use Rattle.text_scan.specs.declared.Read.{Read}
use Rattle.text_scan.specs.declared.Lost.{Lost}
use Rattle.text_scan.specs.Reader.{Res, got, lost, Reader, bind, sign, is_blank, to_end}
use Rattle.text_scan.specs.Reads.{same, Reads, after_blanks}
use Rattle.text_scan.proofs.Places.{no_more}
use Rattle.text_scan.proofs.Whole.{ended, goes_on, smaller}
use Rattle.text_scan.proofs.Binding.{same_bind}
use Rattle.text_grammar.specs.Readers.{operator, item_by}
use Rattle.text_grammar.proofs.ExactText.{exact_item, no_item}
use Rattle.text_ways.specs.Found.{ReadsOp}
use Rattle.text_tree.specs.declared.HeldOperators.{HeldOperators}
use Rattle.text_tree.specs.Tree.{put, put_op, itself, ReadsItem}

-- ---- one operator and its semicolon

abbrev semicolon : Operator → Reader Operator
semicolon o t = bind (sign (word ";") t) (λ (b : ℕ). got o)

pub item_then : {s : List ℕ} {at : ℕ} {f : Read Operator} {r : Result (Read Operator) Lost} → ReadsOp s at operator (Ok f) →
    Reads same s f.at (semicolon f.value) r → ReadsItem s at r
item_then {s} {at} {f} g k =
    record {
      within = k.within;
      reads = k.reads ∙ ap (λ (x : Res Operator). bind x semicolon) g.reads
          ∙ same_bind (operator (drop at s)) (λ (o : Op). got (memory o)) semicolon;
    }

-- an item that is put is an item, put
item_put : (h : HeldOperators) (s : List ℕ) → item_by put_op h s ≡ bind (item_by itself no_operator s) (λ (o : Operator). got (put h o))
item_put h s = after_operator (operator s)
  where
    after_mark : (o : Op) (x : Res ℕ) → bind x (λ (b : ℕ). got (put_op h o)) ≡ bind (bind x (λ (b : ℕ). got (memory o))) (λ (m : Operator). got (put h m))
    after_mark o (got b t) = refl
    after_mark o (lost t) = refl

    after_operator : (x : Res Op) →
        bind x (λ (o : Op) (t : List ℕ). bind (sign (word ";") t) (λ (b : ℕ). got (put_op h o)))
        ≡ bind (bind x (λ (o : Op) (t : List ℕ). bind (sign (word ";") t) (λ (b : ℕ). got (memory o)))) (λ (m : Operator). got (put h m))
    after_operator (got o t) = after_mark o (sign (word ";") t)
    after_operator (lost t) = refl

-- ---- where only blanks are left

blank_all : (l : List ℕ) → after_blanks l ≡ [] → all is_blank l ≡ true
blank_all [] e = refl
blank_all (b ∷ l) e = by (blank_all l) (is_blank b) refl e
  where
    by : (after_blanks l ≡ [] → all is_blank l ≡ true) → (c : Bool) → is_blank b ≡ c → cond c (after_blanks l) (b ∷ l) ≡ [] → all is_blank (b ∷ l) ≡ true
    by more true h f = rw h (more f)
    by more false h f = absurd (let z : ◌≡◌ {A = ℕ} 0 1 = cc in omega arith)

all_blank : (l : List ℕ) → all is_blank l ≡ true → after_blanks l ≡ []
all_blank [] h = refl
all_blank (b ∷ l) h =
    let e = both (is_blank b) _ h in
    ap (λ (c : Bool). cond c (after_blanks l) (b ∷ l)) e.0 ∙ all_blank l e.1

-- ---- the loop

-- what is read from a place on, with what is kept so far
abbrev pub to_end_of : List ℕ → ℕ → HeldOperators → Res HeldOperators
to_end_of s from h = to_end (item_by put_op) h (drop from s)

module _ (s : List ℕ) (from : ℕ) (h : HeldOperators) (end : ℕ) (e : drop end s ≡ after_blanks (drop from s)) where
  pub ends_here : end ≡ length s → got h (drop end s) ≡ to_end_of s from h
  ends_here l =
      let n = no_more s end (omega arith) in
      ap (got h) n ∙ sym (ended (item_by put_op) (exact_item put_op) (no_item put_op) h (drop from s) (blank_all (drop from s) (sym e ∙ n)))

  module _ (in_text : end < length s) where
    more_left : all is_blank (drop from s) ≡ false
    more_left =
        false_of _ (λ b. let f : length (drop end s) ≡ 0 = ap length (e ∙ all_blank (drop from s) b) in omega (arith, length-drop end s))

    goes_further : bind (item_by itself no_operator (drop from s)) (λ (o : Operator). to_end (item_by put_op) (put h o)) ≡ to_end_of s from h
    goes_further =
        sym (goes_on (item_by put_op) (exact_item put_op) (no_item put_op) h (drop from s) more_left
        ∙ ap (λ (x : Res HeldOperators). bind x (to_end (item_by put_op))) (item_put h (drop from s))
        ∙ same_bind (item_by itself no_operator (drop from s)) (λ (o : Operator). got (put h o)) (to_end (item_by put_op)))

    pub lost_further : {l : Lost} → ReadsItem s from (Err l) → lost (drop l.at s) ≡ to_end_of s from h
    lost_further g = ap (λ (x : Res Operator). bind x (λ (o : Operator). to_end (item_by put_op) (put h o))) g.reads ∙ goes_further

    pub read_further : {r : Read Operator} → ReadsItem s from (Ok r) → to_end_of s r.at (put h r.value) ≡ to_end_of s from h
    read_further g = ap (λ (x : Res Operator). bind x (λ (o : Operator). to_end (item_by put_op) (put h o))) g.reads ∙ goes_further

-- what is left of the text falls
pub item_less : {s : List ℕ} {from : ℕ} {r : Read Operator} → ReadsItem s from (Ok r) → length s - r.at < length s - from
item_less {s} {from} {r} g =
    let l = smaller (item_by itself) (exact_item itself) (no_item itself) no_operator (drop from s) r.value (drop r.at s) (sym g.reads) in
    omega (arith, length-drop from s, length-drop r.at s)
