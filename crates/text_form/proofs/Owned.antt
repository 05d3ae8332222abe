-- A text is read as a sheet exactly where it stands for a tree whose sheet is accepted and whose lists are that sheet's own.
-- Assumes nothing.
use mathlib.Core.Path.{◌≡◌, refl, ap, ◌∙◌, sym}
use mathlib.Core.Bool.{Bool, true, false, cond}
use mathlib.Core.List.{List, [], ◌∷◌}
use mathlib.Core.Option.{some, none}
use Prim.Native.Nat.{ℕ}
use native.Mathlib.Omega.{arith}
use lib.Dec.{eqb}
use borrow.Author.Tests.{eqb-true, eq-eqb}
use Rattle.base_lists.proofs.Build.{never}
use Rattle.base_lists.proofs.Tests.{both, both_of}
use Rattle.sheet_operator.specs.Op.{Op}
use Rattle.sheet.specs.Answer.{Paper, accepted, is_accepted}
use Rattle.sheet.specs.Sheet.{memory_sheet, no_sheet}
use Rattle.sheet.specs.Check.{check_of}
use Rattle.text_scan.specs.Reader.{Res, got, lost}
use Rattle.text_grammar.specs.Readers.{Tree, text}
use Rattle.text_grammar.specs.Tokens.{TextOf}
use Rattle.text_grammar.proofs.Sheets.{Exactly, is_text, dies, begins, exactly}
use Rattle.text_form.specs.Form.{tree_of, sheet_of}
use Rattle.text_form.specs.Reading.{Spot, TextPaper, outside, spotted, is_read, same_list, lists_answer, tree_answer, TextReading, read_tree, read_text_of}

-- ---- the test of two lists

pub same_self : (l : List ℕ) → same_list l l ≡ true
same_self [] = refl
same_self (x ∷ l) = both_of (eqb x x) (same_list l l) (eq-eqb x x refl) (same_self l)

pub same_is : (l m : List ℕ) → same_list l m ≡ true → l ≡ m
same_is [] [] h = refl
same_is [] (y ∷ m) h = never h
same_is (x ∷ l) [] h = never h
same_is (x ∷ l) (y ∷ m) h =
    let p = both (eqb x y) (same_list l m) h in
    let a = eqb-true x y p.0 in
    let b = same_is l m p.1 in
    cc

-- ---- a tree whose sheet is accepted, and whose lists are that sheet's own

pub record Owns (t : Tree) : Type 0 where
  pub accepts : check_of (memory_sheet (sheet_of t)) ≡ accepted
  pub own : tree_of (sheet_of t) ≡ t

lists_own : (s : List ℕ) (t : Tree) → lists_answer s t t ≡ none
lists_own s t = rw (same_self t.outputs, same_self t.inputs)

answer_own : (s : List ℕ) (t : Tree) → Owns t → tree_answer s t ≡ none
unfolding tree_answer
answer_own s t o =
    let a = sheet_of t in
    ap (λ (p : Paper). cond (is_accepted p) (lists_answer s t (tree_of a)) (spotted p)) o.accepts ∙ ap (lists_answer s t) o.own ∙ lists_own s t

no_refusal : {x : ℕ × Spot} → ◌≡◌ {A = TextPaper} (some x) none → ⊥
no_refusal e = let z : ◌≡◌ {A = ℕ} 0 1 = cc in omega arith

check_part : (p : Paper) (x : TextPaper) → cond (is_accepted p) x (spotted p) ≡ none → (p ≡ accepted) × (x ≡ none)
check_part none x h = (refl, h)
check_part (some y) x h = absurd (no_refusal h)

lists_part : (a b : Bool) (x y : TextPaper) (n m : ℕ) → x ≡ outside n → y ≡ outside m → cond a (cond b none x) y ≡ none → (a ≡ true) × (b ≡ true)
lists_part true true x y n m e d h = (refl, refl)
lists_part true false x y n m e d h = absurd (no_refusal (sym e ∙ h))
lists_part false b x y n m e d h = absurd (no_refusal (sym d ∙ h))

pub tree_eq : {o o' i i' : List ℕ} {v : ℕ} {os : List Op} → o ≡ o' → i ≡ i' →
    ◌≡◌ {A = Tree} (record { outputs = o; inputs = i; variables = v; ops = os }) (record { outputs = o'; inputs = i'; variables = v; ops = os })
tree_eq a b = cc

pub owns_of_answer : (s : List ℕ) (t : Tree) → tree_answer s t ≡ none → Owns t
unfolding tree_answer
owns_of_answer s t h =
    let own = tree_of (sheet_of t) in
    let a = check_part (check_of (memory_sheet (sheet_of t))) (lists_answer s t own) h in
    let b = lists_part (same_list t.outputs own.outputs) (same_list t.inputs own.inputs) _ _ _ _ refl refl a.1 in
    record { accepts = a.0; own = tree_eq (sym (same_is t.outputs own.outputs b.0)) (sym (same_is t.inputs own.inputs b.1)) }

-- ---- what is answered to a text, by what the grammar's reader makes of it

read_as : (s : List ℕ) (r : Res Tree) → text s ≡ r → read_text_of s ≡ read_tree s r
unfolding read_text_of
read_as s r e = ap (read_tree s) e

pub answer_as : (s : List ℕ) (r : Res Tree) → text s ≡ r → (read_text_of s).answer ≡ (read_tree s r).answer
answer_as s r e = ap (λ (x : TextReading). x.answer) (read_as s r e)

-- a text whose tree is a sheet's own is read as that sheet
pub read_owned : (s : List ℕ) (t : Tree) → text s ≡ got t [] → Owns t → read_text_of s ≡ record { answer = none; sheet = memory_sheet (sheet_of t) }
read_owned s t e o =
    read_as s (got t []) e
    ∙ ap (λ (p : TextPaper). record { answer = p; sheet = cond (is_read p) (memory_sheet (sheet_of t)) no_sheet }) (answer_own s t o)

-- and nothing else is
pub record ReadOf (s : List ℕ) : Type 0 where
  pub tree : Tree
  pub reads : text s ≡ got tree []
  pub stands : TextOf tree s
  pub owns : Owns tree

pub read_of_answer : (s : List ℕ) → (read_text_of s).answer ≡ none → ReadOf s
read_of_answer s h = by (exactly s)
  where
    by : Exactly s → ReadOf s
    by (is_text t w e) =
        record { tree = t; reads = e; stands = w; owns = owns_of_answer s t (sym (answer_as s (got t []) e) ∙ h) }
    by (dies u b t e c d g) = absurd (no_refusal (sym (answer_as s (lost (b ∷ t)) g) ∙ h))
    by (begins c d g) = absurd (no_refusal (sym (answer_as s (lost []) g) ∙ h))
