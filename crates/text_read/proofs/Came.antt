-- What reading the head and the operators came to is what the text is read as.
-- Assumes nothing.
use Prim.Native.Nat.{ℕ}
use mathlib.Core.Path.{◌≡◌, refl, ap, ◌∙◌, sym}
use mathlib.Core.List.{List, []}
use native.Mathlib.Omega.{arith}
use lib.ListN.{drop}
use Rattle.std.specs.Prelude.{Ok, Err}
use Rattle.sheet_operator.specs.Op.{Op}
use Rattle.base_words.specs.Text.{word}
use Rattle.text_scan.specs.declared.Read.{Read}
use Rattle.text_scan.specs.declared.Lost.{Lost}
use Rattle.text_scan.specs.Reader.{Res, got, lost, Reader, bind, sign, to_end}
use Rattle.text_scan.proofs.Binding.{same_bind, bind_same}
use Rattle.text_scan.proofs.Mapped.{end_mapped}
use Rattle.text_grammar.specs.Readers.{Tree, snoc, head, operator, item_by, with_op, item, text}
use Rattle.text_grammar.specs.Tokens.{GoodTree}
use Rattle.text_grammar.proofs.ExactText.{exact_item, no_item}
use Rattle.text_grammar.proofs.Sheets.{Exactly, is_text, dies, begins, exactly}
use Rattle.text_tree.specs.declared.TextHead.{TextHead}
use Rattle.text_tree.specs.declared.HeldOperators.{HeldOperators}
use Rattle.text_tree.specs.Tree.{KeptHead, head_of, head_in, held_of, ReadsOperators, Heads}
use Rattle.text_tree.proofs.HeadLaws.{bare, head_bare}

-- ---- the operators, and the text with them

abbrev with_ops : Tree → List Op → Tree
with_ops t os = record { outputs = t.outputs; inputs = t.inputs; variables = t.variables; ops = os }

item_with : (t : Tree) (os : List Op) (s : List ℕ) → item (with_ops t os) s ≡ bind (item_by snoc os s) (λ (x : List Op). got (with_ops t x))
item_with t os s = after_operator (operator s)
  where
    after_mark : (o : Op) (x : Res ℕ) → bind x (λ (b : ℕ). got (with_ops t (snoc os o))) ≡ bind (bind x (λ (b : ℕ). got (snoc os o))) (λ (x : List Op). got (with_ops t x))
    after_mark o (got b u) = refl
    after_mark o (lost u) = refl

    after_operator : (x : Res Op) →
        bind x (λ (o : Op) (u : List ℕ). bind (sign (word ";") u) (λ (b : ℕ). got (with_ops t (snoc os o))))
        ≡ bind (bind x (λ (o : Op) (u : List ℕ). bind (sign (word ";") u) (λ (b : ℕ). got (snoc os o)))) (λ (x : List Op). got (with_ops t x))
    after_operator (got o u) = after_mark o (sign (word ";") u)
    after_operator (lost u) = refl

abbrev all_ops : Reader (List Op)
all_ops = to_end (item_by snoc) []

ops_with : (t : Tree) (s : List ℕ) → to_end item (bare t) s ≡ bind (all_ops s) (λ (x : List Op). got (with_ops t x))
ops_with t s =
    end_mapped (with_ops t) (item_by snoc) (exact_item snoc) (no_item snoc) item (exact_item with_op) (no_item with_op) (item_with t) [] s

-- ---- what is kept of a text

abbrev kept : Tree → KeptHead × HeldOperators
kept t = (head_of t, held_of t.ops)

-- what is kept of the operators, and then with what is kept of the head
abbrev ops_kept : Reader HeldOperators
ops_kept u = bind (all_ops u) (λ (os : List Op). got (held_of os))

abbrev with_head : KeptHead → HeldOperators → Reader (KeptHead × HeldOperators)
with_head k h = got (k, h)

abbrev after_head : KeptHead → Reader (KeptHead × HeldOperators)
after_head k u = bind (ops_kept u) (with_head k)

text_kept : (s : List ℕ) → bind (bind (head s) (λ (t : Tree). got (head_of t))) after_head ≡ bind (text s) (λ (t : Tree). got (kept t))
text_kept s =
    same_bind (head s) (λ (t : Tree). got (head_of t)) after_head
    ∙ bind_same (head s) (λ t u. same_bind (all_ops u) (λ (os : List Op). got (held_of os)) (with_head (head_of t))
    ∙ sym (same_bind (all_ops u) (λ (os : List Op). got (with_ops t os)) (λ (w : Tree). got (kept w)))
    ∙ ap (λ (x : Res Tree). bind x (λ (w : Tree). got (kept w))) (sym (ops_with t u)))
    ∙ sym (ap (λ (x : Res Tree). bind (bind x (to_end item)) (λ (w : Tree). got (kept w))) (head_bare s)
    ∙ ap (λ (x : Res Tree). bind x (λ (w : Tree). got (kept w))) (same_bind (head s) (λ (t : Tree). got (bare t)) (to_end item))
    ∙ same_bind (head s) (λ (t : Tree). to_end item (bare t)) (λ (w : Tree). got (kept w)))

lost_by : {A B : Type 0} (x : Res A) (k : A → B) {l : List ℕ} → lost l ≡ bind x (λ (a : A). got (k a)) → x ≡ lost l
lost_by (got a t) k e = absurd (let z : ◌≡◌ {A = ℕ} 0 1 = cc in omega arith)
lost_by (lost t) k {l} e = let f : t ≡ l = cc in ap lost f

record Was {A B : Type 0} (x : Res A) (k : A → B) (b : B) (l : List ℕ) : Type 0 where
  value : A
  reads : x ≡ got value l
  same : b ≡ k value

was : {A B : Type 0} (x : Res A) (k : A → B) {b : B} {l : List ℕ} → got b l ≡ bind x (λ (a : A). got (k a)) → Was x k b l
was (got a t) k {b} {l} e = let f : t ≡ l = cc in record { value = a; reads = ap (got a) f; same = cc }
was (lost t) k e = absurd (let z : ◌≡◌ {A = ℕ} 0 1 = cc in omega arith)

-- ---- what it came to

-- the text of a tree that was read is of the grammar, and nothing is left of it
good_of : (s : List ℕ) (t : Tree) (r : List ℕ) → text s ≡ got t r → Exactly s → (GoodTree t) × (text s ≡ got t [])
good_of s t r e (is_text w g f) =
    let i : w ≡ t = cc in
    (rw i at g.good, rw i at f)
good_of s t r e (dies u b x g c n f) = absurd (let z : ◌≡◌ {A = ℕ} 0 1 = cc in omega arith)
good_of s t r e (begins c n f) = absurd (let z : ◌≡◌ {A = ℕ} 0 1 = cc in omega arith)

pub record Came (s : List ℕ) (h : TextHead) (f : HeldOperators) : Type 0 where
  pub tree : Tree
  pub reads : text s ≡ got tree []
  pub good : GoodTree tree
  pub head : head_in h ≡ head_of tree
  pub held : f ≡ held_of tree.ops

module _ {s : List ℕ} where
  pub head_lost : {e : Lost} → Heads s (Err e) → text s ≡ lost (drop e.at s)
  head_lost a = lost_by (text s) kept (ap (λ (x : Res KeptHead). bind x after_head) a.reads.reads ∙ text_kept s)

  module _ {h : Read TextHead} (a : Heads s (Ok h)) where
    rest_of : bind (ops_kept (drop h.at s)) (with_head (head_in h.value)) ≡ bind (text s) (λ (t : Tree). got (kept t))
    rest_of = ap (λ (x : Res KeptHead). bind x after_head) a.reads.reads ∙ text_kept s

    pub operators_lost : {e : Lost} → ReadsOperators s h.at (Err e) → text s ≡ lost (drop e.at s)
    operators_lost g = lost_by (text s) kept (ap (λ (x : Res HeldOperators). bind x (with_head (head_in h.value))) g.reads ∙ rest_of)

    pub came : {f : Read HeldOperators} → ReadsOperators s h.at (Ok f) → Came s h.value f.value
    came {f} g =
        let w = was (text s) kept (ap (λ (x : Res HeldOperators). bind x (with_head (head_in h.value))) g.reads ∙ rest_of) in
        let good = good_of s w.value (drop f.at s) w.reads (exactly s) in
        record {
          tree = w.value;
          reads = good.1;
          good = good.0;
          head = ap (λ (p : KeptHead × HeldOperators). p.0) w.same;
          held = ap (λ (p : KeptHead × HeldOperators). p.1) w.same;
        }
