-- The operators that are kept: one more, and up to the end of the text.
-- Assumes nothing.
use Prim.Native.Nat.{ℕ, zero, suc, ◌+◌, ◌-◌, ◌<◌, ◌≤◌}
use mathlib.Core.Path.{◌≡◌, refl, ap, ◌∙◌, sym}
use mathlib.Core.Logic.{⊎_elim}
use mathlib.Core.Bool.{Bool, cond}
use mathlib.Core.List.{List, [], ◌∷◌, map, map-append}
use lib.Dec.{leb}
use lib.ListN.{length, get_or, set, length-map}
use borrow.Author.Tests.{le-leb, lt-leb}
use Rattle.base_bounds.specs.Bounds.{OPERATORS}
use Rattle.base_lists.specs.Lists.{pad}
use Rattle.base_lists.proofs.Build.{order}
use Rattle.base_words.specs.Text.{word}
use Rattle.sheet_operator.specs.Op.{Op}
use Rattle.sheet_operator.specs.Memory.{memory, no_operator}
use Rattle.sheet_operator.specs.declared.Operator.{Operator}
use Rattle.text_scan.specs.Reader.{Res, got, lost, Reader, bind, sign, to_end}
use Rattle.text_scan.specs.Kept.{counted}
use Rattle.text_scan.proofs.Filled.{Next, Over, next_or_over}
use Rattle.text_scan.proofs.Mapped.{end_mapped}
use Rattle.text_grammar.specs.Readers.{operator, snoc, item_by}
use Rattle.text_grammar.proofs.ExactText.{exact_item, no_item}
use Rattle.text_tree.specs.declared.HeldOperators.{HeldOperators}
use Rattle.text_tree.specs.Tree.{held_of, none, next_place, next_count, put, put_op}

-- ---- one operator more

put_full : (h : HeldOperators) (o : Operator) → OPERATORS ≤ h.count → put h o ≡ record { count = suc OPERATORS; operators = h.operators }
unfolding put
put_full h o l = rw (le-leb OPERATORS h.count l) refl

put_more : (h : HeldOperators) (o : Operator) → h.count < OPERATORS → put h o ≡ record { count = h.count + 1; operators = set h.operators h.count o }
unfolding put
put_more h o l = rw (lt-leb OPERATORS h.count l) refl

held_eq : {a b : ℕ} {l m : List Operator} → a ≡ b → l ≡ m →
    ◌≡◌ {A = HeldOperators} (record { count = a; operators = l }) (record { count = b; operators = m })
held_eq {a} {b} {l} {m} e d =
    ap (λ (n : ℕ). record { count = n; operators = l }) e ∙ ap (λ (k : List Operator). record { count = b; operators = k }) d

-- stored at its place, with what stood there where all are taken
set_own : {A : Type 0} (l : List A) (k : ℕ) (d : A) → set l k (get_or l k d) ≡ l
set_own [] k d = refl
set_own (x ∷ l) zero d = refl
set_own (x ∷ l) (suc k) d = ap (x ∷◌) (set_own l k d)

module _ (h : HeldOperators) (p n : ℕ) (past old new o : Operator) (at : p ≡ next_place h.count) (stood : old ≡ get_or h.operators p past)
    (then : o ≡ cond (leb OPERATORS h.count) old new) (now : n ≡ next_count h.count) where
  stored_full : OPERATORS ≤ h.count → record { count = n; operators = set h.operators p o } ≡ put h new
  stored_full l =
      let full = le-leb OPERATORS h.count l in
      held_eq (now ∙ ap (λ (b : Bool). cond b (suc OPERATORS) (h.count + 1)) full)
      (ap (set h.operators p) (then ∙ ap (λ (b : Bool). cond b old new) full ∙ stood) ∙ set_own h.operators p past)
      ∙ sym (put_full h new l)

  stored_more : h.count < OPERATORS → record { count = n; operators = set h.operators p o } ≡ put h new
  stored_more l =
      let room = lt-leb OPERATORS h.count l in
      held_eq (now ∙ ap (λ (b : Bool). cond b (suc OPERATORS) (h.count + 1)) room)
      (ap (λ (k : ℕ). set h.operators k o) (at ∙ ap (λ (b : Bool). cond b (OPERATORS - 1) h.count) room)
      ∙ ap (set h.operators h.count) (then ∙ ap (λ (b : Bool). cond b old new) room))
      ∙ sym (put_more h new l)

  pub stored : record { count = n; operators = set h.operators p o } ≡ put h new
  stored = ⊎_elim stored_more stored_full (order h.count OPERATORS)

-- the places of a list of operators in memory
abbrev placed : List Operator → HeldOperators
placed ms = record { count = counted OPERATORS (length ms); operators = pad OPERATORS no_operator ms }

put_placed : (ms : List Operator) (m : Operator) → put (placed ms) m ≡ placed (snoc ms m)
put_placed ms m =
    ⊎_elim
    (λ (h : Next OPERATORS no_operator ms m). put_more (placed ms) m h.room ∙ held_eq h.count h.places)
    (λ (h : Over OPERATORS no_operator ms m). put_full (placed ms) m h.full ∙ held_eq h.count h.places)
    (next_or_over OPERATORS no_operator ms m)

held_placed : (os : List Op) → held_of os ≡ placed (map memory os)
held_placed os = held_eq (ap (counted OPERATORS) (sym (length-map os memory))) refl

put_held : (os : List Op) (o : Op) → put_op (held_of os) o ≡ held_of (snoc os o)
put_held os o =
    ap (λ (h : HeldOperators). put h (memory o)) (held_placed os) ∙ put_placed (map memory os) (memory o)
    ∙ ap placed (sym (map-append memory os (o ∷ []))) ∙ sym (held_placed (snoc os o))

-- ---- what is kept of the operators up to the end

abbrev kept : List Op → Reader HeldOperators
kept os = got (held_of os)

item_kept : (os : List Op) (s : List ℕ) → item_by put_op (held_of os) s ≡ bind (item_by snoc os s) kept
item_kept os s = after_operator (operator s)
  where
    after_mark : (o : Op) (x : Res ℕ) → bind x (λ (b : ℕ). got (put_op (held_of os) o)) ≡ bind (bind x (λ (b : ℕ). got (snoc os o))) kept
    after_mark o (got b t) = ap (λ (h : HeldOperators). got h t) (put_held os o)
    after_mark o (lost t) = refl

    after_operator : (x : Res Op) →
        bind x (λ (o : Op) (t : List ℕ). bind (sign (word ";") t) (λ (b : ℕ). got (put_op (held_of os) o)))
        ≡ bind (bind x (λ (o : Op) (t : List ℕ). bind (sign (word ";") t) (λ (b : ℕ). got (snoc os o)))) kept
    after_operator (got o t) = after_mark o (sign (word ";") t)
    after_operator (lost t) = refl

pub operators_kept : (s : List ℕ) → to_end (item_by put_op) none s ≡ bind (to_end (item_by snoc) [] s) kept
operators_kept s =
    end_mapped held_of (item_by snoc) (exact_item snoc) (no_item snoc) (item_by put_op) (exact_item put_op) (no_item put_op) item_kept [] s
