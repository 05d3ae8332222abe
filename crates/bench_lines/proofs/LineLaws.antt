-- Lines one after another: what one more item, field or variable adds to them.
-- Assumes nothing.
use mathlib.Core.Path.{◌≡◌, refl, ap, ◌∙◌, sym}
use mathlib.Core.List.{List, [], ◌∷◌, ◌++◌, append-nil, append_assoc}
use Prim.Native.Nat.{ℕ, zero, suc, ◌+◌, ◌*◌, ◌<◌}
use native.Mathlib.Nat.{zero-add}
use native.Mathlib.Numerals.{add-one}
use native.Mathlib.Omega.{arith}
use lib.ListN.{length, get_or, take, drop}
use lib.Seq.{take-suc, drop-drop, length-take-le}
use lib.IntN.{ℤ, pos}
use Rattle.base_lists.specs.Lists.{chain}
use Rattle.base_lists.proofs.Chains.{chain_append}
use Rattle.base_bounds.specs.Bounds.{FIELDS}
use Rattle.run_store.specs.Store.{first_of}
use Rattle.run_store.specs.Queues.{items_of}
use Rattle.run_store.specs.declared.Item.{Item}
use Rattle.bench_lines.specs.Lines.{item_line, queue_lines, variable_line, variable_lines}

module _ {A B : Type 0} where
  pub chain_one_more : (f : A → List B) (l : List A) (x : A) → chain f (l ++ (x ∷ [])) ≡ chain f l ++ f x
  chain_one_more f l x = chain_append f l (x ∷ []) ∙ ap (λ (r : List B). chain f l ++ r) (append-nil (f x))

-- one field more
pub chain_take : {A B : Type 0} (f : A → List B) (l : List A) (d : A) (i : ℕ) → i < length l →
    chain f (take (i + 1) l) ≡ chain f (take i l) ++ f (get_or l i d)
chain_take f l d i h = ap (chain f) (ap (λ (k : ℕ). take k l) (add-one i) ∙ take-suc l i d h) ∙ chain_one_more f (take i l) (get_or l i d)

-- one item more
items_suc : (n : ℕ) (p : List ℤ) → items_of (suc n) p ≡ items_of n p ++ (first_of (drop (FIELDS * n) p) ∷ [])
unfolding items_of
items_suc zero p = refl
items_suc (suc n) p =
    let e : FIELDS + FIELDS * n ≡ FIELDS * suc n = omega arith in
    ap (λ (l : List Item). first_of p ∷ l)
    (items_suc n (drop FIELDS p)
    ∙ ap (λ (x : List ℤ). items_of n (drop FIELDS p) ++ (first_of x ∷ [])) (drop-drop (FIELDS * n) FIELDS p ∙ ap (λ (k : ℕ). drop k p) e))

pub queue_more : (q i : ℕ) (p : List ℤ) →
    queue_lines q (items_of (i + 1) p) ≡ queue_lines q (items_of i p) ++ item_line q (take FIELDS (drop (FIELDS * i) p))
unfolding first_of
queue_more q i p =
    ap (λ (k : ℕ). queue_lines q (items_of k p)) (add-one i) ∙ ap (queue_lines q) (items_suc i p)
    ∙ chain_one_more (λ (x : Item). item_line q x.f) (items_of i p) (first_of (drop (FIELDS * i) p))

-- one variable more
variables_snoc : (v : ℕ) (zs : List ℤ) (z : ℤ) → variable_lines v (zs ++ (z ∷ [])) ≡ variable_lines v zs ++ variable_line (v + length zs) z
variables_snoc v [] z = let e : v + 0 ≡ v = omega arith in rw e (append-nil (variable_line v z))
variables_snoc v (y ∷ zs) z =
    let e : suc v + length zs ≡ v + suc (length zs) = omega arith in
    ap (λ (l : List ℕ). variable_line v y ++ l) (variables_snoc (suc v) zs z ∙ ap (λ (k : ℕ). variable_lines (suc v) zs ++ variable_line k z) e)
    ∙ sym (append_assoc (variable_line v y) (variable_lines (suc v) zs) (variable_line (v + suc (length zs)) z))

pub variables_more : (zs : List ℤ) (i : ℕ) → i < length zs →
    variable_lines 0 (take (i + 1) zs) ≡ variable_lines 0 (take i zs) ++ variable_line i (get_or zs i (pos 0))
variables_more zs i h =
    ap (variable_lines 0) (ap (λ (k : ℕ). take k zs) (add-one i) ∙ take-suc zs i (pos 0) h)
    ∙ variables_snoc 0 (take i zs) (get_or zs i (pos 0))
    ∙ ap (λ (k : ℕ). variable_lines 0 (take i zs) ++ variable_line k (get_or zs i (pos 0)))
    (zero-add (length (take i zs)) ∙ length-take-le i zs (omega arith))
