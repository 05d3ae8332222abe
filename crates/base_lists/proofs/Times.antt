-- How often a number stands in a list: over `++` and `chain`, and what `member` and `fresh` say of it; lists that grow by fresh numbers hold none twice.
-- Assumes nothing.
use mathlib.Core.Path.{◌≡◌, refl, ap, ◌∙◌, sym, subst}
use mathlib.Core.Logic.{⊎_elim}
use mathlib.Core.Bool.{Bool, true, false, not, ◌||◌}
use mathlib.Core.List.{List, [], ◌∷◌, ◌++◌}
use Prim.Native.Nat.{ℕ, zero, suc, ◌+◌, ◌<◌, ◌≤◌}
use native.Mathlib.Omega.{arith}
use lib.Dec.{eqb, ltb}
use lib.ListN.{length, get_or}
use borrow.Author.Tests.{eq-eqb, ne_eqb, le-ltb, not-true}
use Rattle.base_lists.specs.Lists.{bit, build, member, fresh, chain, times}
use Rattle.base_lists.proofs.Build.{same_or, never, build_suc}
use Rattle.base_lists.proofs.Tests.{both, neither, or_cases, false_of}
use Rattle.base_lists.proofs.Members.{member_below}
use Rattle.base_lists.proofs.Fresh.{fresh_fewer}

pub times_append : (k : ℕ) (l m : List ℕ) → times k (l ++ m) ≡ times k l + times k m
times_append k [] m = omega arith
times_append k (x ∷ l) m = omega (arith, times_append k l m)

pub member_times : (k : ℕ) (l : List ℕ) → member k l ≡ false → times k l ≡ 0
member_times k [] h = refl
member_times k (x ∷ l) h = let p = neither (eqb k x) (member k l) h in rw (p.0, member_times k l p.1)

pub times_member : (k : ℕ) (l : List ℕ) → member k l ≡ true → 1 ≤ times k l
times_member k [] h = never h
times_member k (x ∷ l) h =
    ⊎_elim (λ e. rw e (omega arith)) (λ m. omega (arith, times_member k l m)) (or_cases (eqb k x) (member k l) h)

pub fresh_apart : (d : ℕ → Bool) (l : List ℕ) (k : ℕ) → fresh d l ≡ true → d k ≡ true → times k l ≡ 0
fresh_apart d [] k h e = refl
fresh_apart d (x ∷ l) k h e =
    let p = both (not (d x)) (fresh (λ (y : ℕ). eqb y x || d y) l) h in
    ⊎_elim (λ (q : k ≡ x). never (sym (not-true (d x) p.0) ∙ ap d (sym q) ∙ e))
    (λ (ne : k ≡ x → ⊥). rw (ne_eqb k x ne, fresh_apart (λ (y : ℕ). eqb y x || d y) l k p.1 (rw (ne_eqb k x ne, e))))
    (same_or k x)

pub fresh_times : (d : ℕ → Bool) (l : List ℕ) → fresh d l ≡ true → (k : ℕ) → times k l ≤ 1
fresh_times d [] h k = omega arith
fresh_times d (x ∷ l) h k =
    let p = both (not (d x)) (fresh (λ (y : ℕ). eqb y x || d y) l) h in
    ⊎_elim (λ (q : k ≡ x). rw (eq-eqb k x q, fresh_apart (λ (y : ℕ). eqb y x || d y) l k p.1 (rw (eq-eqb k x q))) (omega arith))
    (λ (ne : k ≡ x → ⊥). rw (ne_eqb k x ne) (omega (arith, fresh_times (λ (y : ℕ). eqb y x || d y) l p.1 k)))
    (same_or k x)

-- the first of a list that holds nothing twice stands in the rest nowhere, and the rest holds nothing twice
pub fresh_first : (q : ℕ) (l : List ℕ) → fresh (λ (r : ℕ). false) (q ∷ l) ≡ true → (member q l ≡ false) × (fresh (λ (r : ℕ). false) l ≡ true)
fresh_first q l h =
    let t : times q l ≡ 0 = fresh_apart (λ (x : ℕ). eqb x q || false) l q h (rw (eq-eqb q q refl)) in (
      false_of (member q l) (λ m. omega (arith, times_member q l m)),
      fresh_fewer (λ (x : ℕ). eqb x q || false) (λ (r : ℕ). false) l (λ k e. never e) h,
    )

-- the same of a list by how often each number stands in it
pub once_first : (q : ℕ) (l : List ℕ) → ((k : ℕ) → times k (q ∷ l) ≤ 1) → member q l ≡ false
once_first q l h = false_of (member q l) (λ m. omega (arith, times_member q l m, ap bit (eq-eqb q q refl), h q))

-- fresh numbers put behind those that are known
pub once_more : (d : ℕ → Bool) (l m : List ℕ) (q : ℕ) → d q ≡ member q l → times q l ≤ 1 → fresh d m ≡ true → times q (l ++ m) ≤ 1
once_more d l m q e h f = rw times_append (cases (member q l) refl)
  where
    cases : (b : Bool) → member q l ≡ b → times q l + times q m ≤ 1
    cases true k = omega (arith, fresh_apart d m q f (e ∙ k))
    cases false k = omega (arith, member_times q l k, fresh_times d m f q)

-- the numbers below n
pub times_below : (n q : ℕ) → times q (build n (λ (k : ℕ). k)) ≤ 1
times_below zero q = omega arith
times_below (suc n) q =
    subst (λ (l : List ℕ). times q l ≤ 1) (sym (build_suc n (λ (k : ℕ). k)))
    (once_more (λ (k : ℕ). ltb k n) (build n (λ (k : ℕ). k)) (n ∷ []) q (sym (member_below n q)) (times_below n q) (rw (le-ltb n n (omega arith))))

-- a number in the lists of two elements stands twice in the chain
module _ {A : Type 0} (k : ℕ) (f : A → List ℕ) (d : A) where
  pub once_in_chain : (l : List A) (i : ℕ) → i < length l → member k (f (get_or l i d)) ≡ true → 1 ≤ times k (chain f l)
  once_in_chain [] i b h = absurd (omega arith)
  once_in_chain (x ∷ l) zero b h = omega (arith, times_append k (f x) (chain f l), times_member k (f x) h)
  once_in_chain (x ∷ l) (suc i) b h = omega (arith, times_append k (f x) (chain f l), once_in_chain l i (omega arith) h)

  pub twice_in_chain : (l : List A) (i j : ℕ) → i < length l → j < length l → (i ≡ j → ⊥) → member k (f (get_or l i d)) ≡ true →
      member k (f (get_or l j d)) ≡ true → 2 ≤ times k (chain f l)
  twice_in_chain [] i j b c ne h g = absurd (omega arith)
  twice_in_chain (x ∷ l) zero zero b c ne h g = absurd (ne refl)
  twice_in_chain (x ∷ l) zero (suc j) b c ne h g =
      omega (arith, times_append k (f x) (chain f l), times_member k (f x) h, once_in_chain l j (omega arith) g)
  twice_in_chain (x ∷ l) (suc i) zero b c ne h g =
      omega (arith, times_append k (f x) (chain f l), times_member k (f x) g, once_in_chain l i (omega arith) h)
  twice_in_chain (x ∷ l) (suc i) (suc j) b c ne h g =
      omega (arith, times_append k (f x) (chain f l), twice_in_chain l i j (omega arith) (omega arith) (λ e. ne (ap suc e)) h g)
