-- 19 in the second sense: of a text of the grammar whose sheet is accepted, at the byte where the first list begins that is not the sheet's own.
-- Assumes nothing.
use mathlib.Core.Path.{◌≡◌, refl, ap, ◌∙◌, sym}
use mathlib.Core.Bool.{Bool, true, false, cond}
use mathlib.Core.List.{List, [], ◌∷◌, ◌++◌, append_assoc}
use mathlib.Core.Option.{some, none}
use Prim.Native.Nat.{ℕ}
use lib.ListN.{length}
use Rattle.base_lists.specs.Lists.{all, chain}
use Rattle.base_lists.proofs.Build.{never}
use Rattle.base_lists.proofs.Tests.{both}
use Rattle.base_words.specs.Text.{word, natural}
use Rattle.sheet_operator.specs.Op.{Op}
use Rattle.sheet.specs.Answer.{Paper, accepted, is_accepted}
use Rattle.sheet.specs.Sheet.{memory_sheet}
use Rattle.sheet.specs.Check.{check_of}
use Rattle.text_scan.specs.Reader.{Res, got, lost, Reader, bind, ◌>>◌, is_blank, here, spell}
use Rattle.text_scan.specs.Reads.{after_blanks}
use Rattle.text_grammar.specs.Readers.{Tree, names}
use Rattle.text_grammar.specs.Tokens.{must, Token, Starts, Spells, more, at_once, spaced, byte_as, op_tokens, names_tokens, text_tokens, TextOf}
use Rattle.text_grammar.specs.Tokens as tokens
use Rattle.text_grammar.proofs.CompleteText.{runs_names}
use Rattle.text_grammar.proofs.CompleteOperators.{Runs, runs_done, runs_sign, runs_word, runs_same, runs_sub, spells_split, all_blank}
use Rattle.text_form.specs.Form.{outputs_of, inputs_of, tree_of, sheet_of}
use Rattle.text_grammar.specs.Begins.{left_by, output_word, input_word, from_outputs, from_inputs}
use Rattle.text_form.specs.Reading.{TextPaper, outside, spotted, byte_of, same_list, lists_answer, tree_answer, read_text_of}
use Rattle.text_form.proofs.Owned.{same_self, same_is, tree_eq}
use Rattle.text_form.proofs.Outside.{byte_before, text_never_outside}

-- ---- tokens at the front of a text, whatever follows

record Front (ts : List Token) (s r : List ℕ) : Type 0 where
  bytes : List ℕ
  text : s ≡ bytes ++ r
  spells : (x : List ℕ) → Spells ts (bytes ++ x) x

front_more : (t : Token) (ts : List Token) (s m r : List ℕ) → Starts t s m → Front ts m r → Front (t ∷ ts) s r
front_more t ts s m r p f =
    let ahead : (x : List ℕ) → (p.blanks ++ (t.bytes ++ f.bytes)) ++ x ≡ p.blanks ++ (t.bytes ++ (f.bytes ++ x)) =
    λ x. append_assoc p.blanks (t.bytes ++ f.bytes) x ∙ ap (λ (l : List ℕ). p.blanks ++ l) (append_assoc t.bytes f.bytes x) in
    record {
      bytes = p.blanks ++ (t.bytes ++ f.bytes);
      text = p.text ∙ ap (λ (l : List ℕ). p.blanks ++ (t.bytes ++ l)) f.text ∙ sym (ahead r);
      spells = λ x. more (record { blanks = p.blanks; free = p.free; text = ahead x }) (f.spells x);
    }

front_of_lem : (ts : List Token) (s r : List ℕ) → Spells ts s r → Front ts s r
front_of_lem [] s r tokens.none = record { bytes = []; text = refl; spells = λ x. tokens.none }
front_of_lem (t ∷ ts) s r (more {m = m} p q) = front_more t ts s m r p (front_of_lem ts m r q)

-- ---- the first bytes of a list: its first name, or the `;` of an empty one

abbrev pub first_of : List ℕ → List ℕ
first_of [] = word ";"
first_of (q ∷ qs) = word "q" ++ natural q

record Ahead (qs s : List ℕ) : Type 0 where
  blanks : List ℕ
  free : all is_blank blanks ≡ true
  rest : List ℕ
  text : s ≡ blanks ++ (first_of qs ++ rest)

list_ahead : (qs : List ℕ) (ts : List Token) (s r : List ℕ) → Spells (names_tokens qs ++ ts) s r → Ahead qs s
list_ahead [] ts s r (more {m = m} p q) = record { blanks = p.blanks; free = p.free; rest = m; text = p.text }
list_ahead (q ∷ qs) ts s r (more {m = m} p e) =
    record { blanks = p.blanks; free = all_blank must p.blanks p.free; rest = m; text = p.text }

after_blanks_lem : (b : List ℕ) (c : ℕ) (x : List ℕ) → all is_blank b ≡ true → is_blank c ≡ false → after_blanks (b ++ (c ∷ x)) ≡ c ∷ x
after_blanks_lem [] c x h e = ap (λ (k : Bool). cond k (after_blanks x) (c ∷ x)) e
after_blanks_lem (y ∷ b) c x h e =
    let f = both (is_blank y) (all is_blank b) h in
    ap (λ (k : Bool). cond k (after_blanks (b ++ (c ∷ x))) (y ∷ (b ++ (c ∷ x)))) f.0 ∙ after_blanks_lem b c x f.1 e

after_ahead : (qs b x : List ℕ) → all is_blank b ≡ true → after_blanks (b ++ (first_of qs ++ x)) ≡ first_of qs ++ x
after_ahead [] b x h = after_blanks_lem b 59 x h refl
after_ahead (q ∷ qs) b x h = after_blanks_lem b 113 (natural q ++ x) h refl

-- ---- a list begins at a byte: before it stand these tokens and blanks, and nothing else

pub record BeginsAt (before : List Token) (qs s : List ℕ) (byte : ℕ) : Type 0 where
  pub front : List ℕ
  pub rest : List ℕ
  pub text : s ≡ front ++ (first_of qs ++ rest)
  pub place : byte ≡ length front
  pub blanks : List ℕ
  pub spells : Spells before front blanks
  pub free : all is_blank blanks ≡ true

begins_at : {A : Type 0} (us : List Token) (P : Reader A) (a : A) → Runs [] us P a → (qs : List ℕ) (ts : List Token) (s r : List ℕ) →
    Spells (us ++ (names_tokens qs ++ ts)) s r → BeginsAt us qs s (byte_of s (after_blanks (left_by (P s))))
begins_at {A} us P a f qs ts s r h =
    let d = spells_split us (names_tokens qs ++ ts) s r h in
    let k = front_of_lem us s d.mid d.first in
    let g = list_ahead qs ts d.mid r d.second in
    let list = first_of qs ++ g.rest in
    let e : s ≡ (k.bytes ++ g.blanks) ++ list =
    k.text ∙ ap (λ (l : List ℕ). k.bytes ++ l) g.text ∙ sym (append_assoc k.bytes g.blanks list) in
    let i : after_blanks (left_by (P s)) ≡ list =
    ap (λ (x : Res A). after_blanks (left_by x)) (f.reads s d.mid d.first) ∙ ap after_blanks g.text ∙ after_ahead qs g.blanks g.rest g.free in
    record {
      front = k.bytes ++ g.blanks;
      rest = g.rest;
      text = e;
      place = ap (byte_of s) i ∙ ap (λ (l : List ℕ). byte_of l list) e ∙ byte_before (k.bytes ++ g.blanks) list;
      blanks = g.blanks;
      spells = k.spells g.blanks;
      free = g.free;
    }

-- ---- the words before the lists

spell_zero : (w s : List ℕ) → spell w s ≡ bind (spell w s) (λ (b : ℕ). got 0)
unfolding spell
spell_zero [] s = refl
spell_zero (c ∷ w) s = by (here (c ∷ []) s) (spell_zero w)
  where
    by : (x : Res ℕ) → ((t : List ℕ) → spell w t ≡ bind (spell w t) (λ (b : ℕ). got 0)) →
        bind x (λ (b : ℕ). spell w) ≡ bind (bind x (λ (b : ℕ). spell w)) (λ (b : ℕ). got 0)
    by (got b t) f = f t
    by (lost t) f = refl

runs_output : Runs [] (at_once "output" ∷ []) output_word 0
runs_output = runs_sign (word "o") (λ (b : ℕ). spell (word "utput")) refl (runs_same (spell_zero (word "utput")) (runs_word (word "utput") runs_done))

runs_input : Runs [] (spaced "input" ∷ []) input_word 0
runs_input = runs_sign (word "i") (λ (b : ℕ). spell (word "nput")) refl (runs_same (spell_zero (word "nput")) (runs_word (word "nput") runs_done))

-- ---- the lists of a text, and what is answered to it

abbrev pub before_outputs : List Token
before_outputs = at_once "output" ∷ []

abbrev pub before_inputs : List ℕ → List Token
before_inputs outs = (at_once "output" ∷ names_tokens outs) ++ (spaced "input" ∷ [])

pub outputs_begin : (t : Tree) (s : List ℕ) → TextOf t s → BeginsAt before_outputs t.outputs s (byte_of s (from_outputs s))
outputs_begin t s h = begins_at before_outputs output_word 0 runs_output t.outputs _ s h.rest h.spells

-- the answer to a text of the grammar: the sheet's own refusal; or 19 at the first list that is not the sheet's; or none
pub data TextAnswer (t : Tree) (s : List ℕ) : Type 0 where
  sheet_refused : (p : Paper) → check_of (memory_sheet (sheet_of t)) ≡ p → is_accepted p ≡ false → (read_text_of s).answer ≡ spotted p → TextAnswer t s
  other_outputs : check_of (memory_sheet (sheet_of t)) ≡ accepted → (t.outputs ≡ outputs_of (sheet_of t) → ⊥) → (byte : ℕ) →
      BeginsAt before_outputs t.outputs s byte → (read_text_of s).answer ≡ outside byte → TextAnswer t s
  other_inputs : check_of (memory_sheet (sheet_of t)) ≡ accepted → t.outputs ≡ outputs_of (sheet_of t) → (t.inputs ≡ inputs_of (sheet_of t) → ⊥) → (byte : ℕ) →
      BeginsAt (before_inputs t.outputs) t.inputs s byte → (read_text_of s).answer ≡ outside byte → TextAnswer t s
  reads : check_of (memory_sheet (sheet_of t)) ≡ accepted → tree_of (sheet_of t) ≡ t → (read_text_of s).answer ≡ none → TextAnswer t s

abbrev lists_by : Bool → Bool → ℕ → ℕ → TextPaper
lists_by a b i j = cond a (cond b none (outside i)) (outside j)

other : (l m : List ℕ) → same_list l m ≡ false → l ≡ m → ⊥
other l m h e = never (sym (ap (λ (k : List ℕ). same_list l k) e ∙ h) ∙ same_self l)

abbrev after_inputs : Tree → List Token
after_inputs t = spaced "vars" ∷ byte_as must t.variables ∷ at_once ";" ∷ chain (λ (o : Op). op_tokens o ++ (at_once ";" ∷ [])) t.ops

input_tokens : (t : Tree) → text_tokens t ≡ before_inputs t.outputs ++ (names_tokens t.inputs ++ after_inputs t)
input_tokens t = sym (append_assoc (at_once "output" ∷ names_tokens t.outputs) (spaced "input" ∷ []) (names_tokens t.inputs ++ after_inputs t))

module _ (t : Tree) (s : List ℕ) (h : TextOf t s) where
  pub inputs_begin : BeginsAt (before_inputs t.outputs) t.inputs s (byte_of s (from_inputs s))
  inputs_begin =
      begins_at (before_inputs t.outputs) (output_word >> names >> input_word) 0
      (runs_sub (at_once "output" ∷ names_tokens t.outputs) (λ (qs : List ℕ). input_word)
      (runs_sub (at_once "output" ∷ []) (λ (b : ℕ). names) runs_output (runs_names t.outputs h.good.outputs)) runs_input)
      t.inputs (after_inputs t) s h.rest (rw (input_tokens t) at h.spells)

  lists_by_lem : check_of (memory_sheet (sheet_of t)) ≡ accepted → (a b : Bool) → same_list t.outputs (outputs_of (sheet_of t)) ≡ a →
      same_list t.inputs (inputs_of (sheet_of t)) ≡ b → (read_text_of s).answer ≡ lists_by a b (byte_of s (from_inputs s)) (byte_of s (from_outputs s)) →
      TextAnswer t s
  lists_by_lem c true true e d g =
      reads c (tree_eq (sym (same_is t.outputs (outputs_of (sheet_of t)) e)) (sym (same_is t.inputs (inputs_of (sheet_of t)) d))) g
  lists_by_lem c true false e d g =
      other_inputs c (same_is t.outputs (outputs_of (sheet_of t)) e) (other t.inputs (inputs_of (sheet_of t)) d) (byte_of s (from_inputs s)) inputs_begin g
  lists_by_lem c false b e d g =
      other_outputs c (other t.outputs (outputs_of (sheet_of t)) e) (byte_of s (from_outputs s)) (outputs_begin t s h) g

  answer_by : (p : Paper) → check_of (memory_sheet (sheet_of t)) ≡ p →
      (read_text_of s).answer ≡ cond (is_accepted p) (lists_answer s t (tree_of (sheet_of t))) (spotted p) → TextAnswer t s
  answer_by none e g = lists_by_lem e (same_list t.outputs (outputs_of (sheet_of t))) (same_list t.inputs (inputs_of (sheet_of t))) refl refl g
  answer_by (some x) e g = sheet_refused (some x) e refl g

  pub text_answer : TextAnswer t s
  unfolding tree_answer
  text_answer = answer_by (check_of (memory_sheet (sheet_of t))) refl (text_never_outside t s h).1
