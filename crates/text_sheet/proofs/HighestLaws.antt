-- The highest of some numbers: one more, padded places, and that it is one of them.
-- Assumes nothing.
use Prim.Native.Nat.{ℕ, zero, suc, ◌+◌, ◌≤◌}
use mathlib.Core.Path.{◌≡◌, refl, ap, ◌∙◌}
use mathlib.Core.Logic.{◌⊎◌, inl, inr, ⊎_elim}
use mathlib.Core.Bool.{Bool, true, false, cond}
use mathlib.Core.List.{List, [], ◌∷◌, ◌++◌}
use native.Mathlib.Omega.{arith}
use lib.Dec.{eqb, ltb}
use lib.ListN.{length, get_or}
use borrow.Author.Tests.{lt-ltb, le-ltb, eqb-true, eq-eqb}
use Rattle.base_bounds.specs.Bounds.{INPUTS, OPERATORS}
use Rattle.base_lists.specs.Lists.{build, pad, member}
use Rattle.sheet_operator.specs.Memory.{PLACES, ways}
use Rattle.base_lists.proofs.Build.{order, never, build_snoc}
use Rattle.base_lists.proofs.Tests.{or_cases, or_left, or_right, cond_le}
use Rattle.sheet_operator.specs.declared.Operator.{Operator}
use Rattle.sheet.specs.Sheet.{missing}
use Rattle.text_lists.specs.declared.KeptNames.{KeptNames}
use Rattle.text_tree.specs.declared.HeldOperators.{HeldOperators}
use Rattle.text_sheet.specs.Built.{larger, smaller, highest_from, highest_place, highest_of, highest_in}

-- ---- one more

pub highest_append : (m : ℕ) (l k : List ℕ) → highest_from m (l ++ k) ≡ highest_from (highest_from m l) k
highest_append m [] k = refl
highest_append m (q ∷ l) k = highest_append (larger m q) l k

pub highest_more : (m i : ℕ) (f : ℕ → ℕ) → highest_from m (build (i + 1) f) ≡ larger (highest_from m (build i f)) (f i)
highest_more m i f = ap (highest_from m) (build_snoc i f) ∙ highest_append m (build i f) (f i ∷ [])

highest_of_append : (m : ℕ) (l k : List Operator) → highest_of m (l ++ k) ≡ highest_of (highest_of m l) k
highest_of_append m [] k = refl
highest_of_append m (o ∷ l) k = highest_of_append (highest_place m o) l k

pub highest_of_more : (m i : ℕ) (f : ℕ → Operator) → highest_of m (build (i + 1) f) ≡ highest_place (highest_of m (build i f)) (f i)
highest_of_more m i f = ap (highest_of m) (build_snoc i f) ∙ highest_of_append m (build i f) (f i ∷ [])

pub smaller_right : (n k : ℕ) {m : ℕ} → m ≡ smaller n k → m ≤ k
smaller_right n k e =
    ⊎_elim (λ h. let f = ap (λ (b : Bool). cond b k n) (lt-ltb k n h) in omega (arith, e, f))
    (λ h. let f = ap (λ (b : Bool). cond b k n) (le-ltb k n h) in omega (arith, e, f)) (order k n)

-- what the loop over the operators ends with
pub highest_reads : (n : KeptNames) (h : HeldOperators) (m i r : ℕ) → r ≡ highest_of m (build i (λ (k : ℕ). get_or h.operators k missing)) →
    i ≡ smaller h.count OPERATORS → m ≡ highest_from 0 (ways INPUTS n.queues) → r ≡ highest_in n h
unfolding highest_in
highest_reads n h m i r e f g =
    e ∙ ap (λ (k : ℕ). highest_of m (build k (λ (j : ℕ). get_or h.operators j missing))) f
    ∙ ap (λ (k : ℕ). highest_of k (build (smaller h.count OPERATORS) (λ (j : ℕ). get_or h.operators j missing))) g

-- ---- places that hold 0 count for nothing

larger_zero : (m : ℕ) → larger m 0 ≡ m
larger_zero m = ap (λ (b : Bool). cond b 0 m) (le-ltb m 0 (omega arith))

pub highest_pad : (n m : ℕ) (l : List ℕ) → length l ≤ n → highest_from m (pad n 0 l) ≡ highest_from m l
highest_pad zero m [] h = refl
highest_pad zero m (q ∷ l) h = absurd (omega arith)
highest_pad (suc n) m [] h = highest_pad n (larger m 0) [] (omega arith) ∙ larger_zero m
highest_pad (suc n) m (q ∷ l) h = highest_pad n (larger m q) l (omega arith)

-- ---- it is the highest, and one of them

larger_left : (m q : ℕ) → m ≤ larger m q
larger_left m q =
    ⊎_elim (λ h. let e = ap (λ (b : Bool). cond b q m) (lt-ltb m q h) in omega (arith, e))
    (λ h. let e = ap (λ (b : Bool). cond b q m) (le-ltb m q h) in omega (arith, e)) (order m q)

larger_right : (m q : ℕ) → q ≤ larger m q
larger_right m q =
    ⊎_elim (λ h. let e = ap (λ (b : Bool). cond b q m) (lt-ltb m q h) in omega (arith, e))
    (λ h. let e = ap (λ (b : Bool). cond b q m) (le-ltb m q h) in omega (arith, e)) (order m q)

larger_one : (m q : ℕ) → (larger m q ≡ m) ⊎ (larger m q ≡ q)
larger_one m q = by (ltb m q)
  where
    by : (b : Bool) → (cond b q m ≡ m) ⊎ (cond b q m ≡ q)
    by true = inr refl
    by false = inl refl

pub highest_from_lem : (m : ℕ) (l : List ℕ) → m ≤ highest_from m l
highest_from_lem m [] = omega arith
highest_from_lem m (q ∷ l) = let a = larger_left m q in let b = highest_from_lem (larger m q) l in omega arith

pub highest_is : (m : ℕ) (l : List ℕ) (k : ℕ) → member k l ≡ true → k ≤ highest_from m l
highest_is m [] k h = never h
highest_is m (q ∷ l) k h =
    ⊎_elim
    (λ e. let i = eqb-true k q e in let a = larger_right m q in let b = highest_from_lem (larger m q) l in omega arith)
    (λ e. highest_is (larger m q) l k e)
    (or_cases (eqb k q) (member k l) h)

pub highest_one : (m : ℕ) (l : List ℕ) → (highest_from m l ≡ m) ⊎ (member (highest_from m l) l ≡ true)
highest_one m [] = inl refl
highest_one m (q ∷ l) =
    ⊎_elim
    (λ e. ⊎_elim (λ f. inl (e ∙ f)) (λ f. inr (or_left (eqb (highest_from m (q ∷ l)) q) (member (highest_from m (q ∷ l)) l) (eq-eqb (highest_from m (q ∷ l)) q (e ∙ f)))) (larger_one m q))
    (λ e. inr (or_right (eqb (highest_from m (q ∷ l)) q) (member (highest_from m (q ∷ l)) l) e))
    (highest_one (larger m q) l)

-- ---- it is no more than what bounds them

larger_most : (m q c : ℕ) → m ≤ c → q ≤ c → larger m q ≤ c
larger_most m q c a b = cond_le (ltb m q) q m c b a

pub highest_build : (n m c : ℕ) (f : ℕ → ℕ) → m ≤ c → ((k : ℕ) → f k ≤ c) → highest_from m (build n f) ≤ c
highest_build zero m c f a b = a
highest_build (suc n) m c f a b = highest_build n (larger m (f 0)) c (λ (k : ℕ). f (suc k)) (larger_most m (f 0) c a (b 0)) (λ k. b (suc k))

-- every place of an operator is at most c
pub record Low (c : ℕ) (o : Operator) : Type 0 where
  pub ins : (k : ℕ) → get_or o.ins k 0 ≤ c
  pub outs : (k : ℕ) → get_or o.outs k 0 ≤ c

pub highest_of_build : (n m c : ℕ) (f : ℕ → Operator) → m ≤ c → ((k : ℕ) → Low c (f k)) → highest_of m (build n f) ≤ c
highest_of_build zero m c f a b = a
highest_of_build (suc n) m c f a b =
    let o = f 0 in
    highest_of_build n (highest_place m o) c (λ (k : ℕ). f (suc k))
    (highest_build PLACES (highest_from m (ways PLACES o.ins)) c (λ (k : ℕ). get_or o.outs k 0)
    (highest_build PLACES m c (λ (k : ℕ). get_or o.ins k 0) a (b 0).ins) (b 0).outs)
    (λ k. b (suc k))
