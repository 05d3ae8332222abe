-- Members of lists of numbers: of a list that passes a test as a whole, of the numbers below one, and of a list of one.
-- Assumes nothing.
use mathlib.Core.Path.{◌≡◌, refl, ap, ◌∙◌, sym}
use mathlib.Core.Logic.{⊎_elim}
use mathlib.Core.Bool.{Bool, true, false, ◌||◌}
use mathlib.Core.List.{List, [], ◌∷◌}
use Prim.Native.Nat.{ℕ, zero, suc, ◌<◌, ◌≤◌}
use native.Mathlib.Omega.{arith}
use lib.Dec.{eqb, ltb}
use lib.ListN.{length, get_or}
use borrow.Author.Tests.{lt-ltb, le-ltb, ltb-true, eq-eqb, ne_eqb, eqb-true, eqb-false}
use Rattle.base_lists.specs.Lists.{build, all, any, member}
use Rattle.base_lists.proofs.Build.{order, same_or, never, build_suc}
use Rattle.base_lists.proofs.Tests.{both_of, or_cases, or_right, neither, all_implies, all_member, member_snoc}

-- what every member passes, all do
pub all_of_members : (f : ℕ → Bool) (l : List ℕ) → ((k : ℕ) → member k l ≡ true → f k ≡ true) → all f l ≡ true
all_of_members f [] h = refl
all_of_members f (x ∷ l) h =
    both_of (f x) (all f l) (h x (rw (eq-eqb x x refl)))
    (all_of_members f l (λ k m. h k (or_right (eqb k x) (member k l) m)))

-- numbers below n are below m
pub all_below : (n m : ℕ) (l : List ℕ) → n ≤ m → all (λ (v : ℕ). ltb v n) l ≡ true → all (λ (v : ℕ). ltb v m) l ≡ true
all_below n m l h = all_implies (λ (v : ℕ). ltb v n) (λ (v : ℕ). ltb v m) l (λ v p. lt-ltb v m (omega (arith, ltb-true v n p)))

-- a number that fails where the whole list passes is not in it
pub not_in : (f : ℕ → Bool) (l : List ℕ) (k : ℕ) → all f l ≡ true → f k ≡ false → member k l ≡ false
not_in f l k h e = go (member k l) refl
  where
    go : (b : Bool) → member k l ≡ b → b ≡ false
    go true m = never (sym e ∙ all_member f l h k m)
    go false m = refl

pub not_below : (n : ℕ) (l : List ℕ) (k : ℕ) → all (λ (q : ℕ). ltb q n) l ≡ true → n ≤ k → member k l ≡ false
not_below n l k h b = not_in (λ (q : ℕ). ltb q n) l k h (le-ltb k n b)

-- an element is a member
pub member_at : (l : List ℕ) (k : ℕ) → k < length l → member (get_or l k 0) l ≡ true
member_at [] k h = absurd (omega arith)
member_at (x ∷ l) zero h = rw (eq-eqb x x refl)
member_at (x ∷ l) (suc k) h = or_right (eqb (get_or l k 0) x) (member (get_or l k 0) l) (member_at l k (omega arith))

pub is_only : (k q : ℕ) → member k (q ∷ []) ≡ true → k ≡ q
is_only k q h = ⊎_elim (λ e. eqb-true k q e) never (or_cases (eqb k q) false h)

pub not_only : (k q : ℕ) → member k (q ∷ []) ≡ false → k ≡ q → ⊥
not_only k q h = eqb-false k q (neither (eqb k q) false h).0

-- the numbers below n
pub member_below : (n q : ℕ) → member q (build n (λ (k : ℕ). k)) ≡ ltb q n
member_below zero q = sym (le-ltb q 0 (omega arith))
member_below (suc n) q =
    ap (member q) (build_suc n (λ (k : ℕ). k)) ∙ member_snoc q (build n (λ (k : ℕ). k)) n ∙ ap (λ (b : Bool). b || eqb q n) (member_below n q)
    ∙ below_suc n q
  where
    below_suc : (n q : ℕ) → (ltb q n || eqb q n) ≡ ltb q (suc n)
    below_suc n q =
        ⊎_elim (λ (l : q < n). simp (lt-ltb q n l, lt-ltb q (suc n) (omega arith)))
        (λ (l : n ≤ q).
        ⊎_elim (λ (e : q ≡ n). simp (le-ltb q n l, eq-eqb q n e, lt-ltb q (suc n) (omega arith)))
        (λ (ne : q ≡ n → ⊥). simp (le-ltb q n l, ne_eqb q n ne, le-ltb q (suc n) (omega arith)))
        (same_or q n))
        (order q n)

-- one member passes, or none does
pub some_member : (f : ℕ → Bool) (l : List ℕ) → any f l ≡ true → (k : ℕ) × ((member k l ≡ true) × (f k ≡ true))
some_member f [] h = never h
some_member f (x ∷ l) h = go (f x) refl h (λ r. some_member f l r)
  where
    go : (b : Bool) → f x ≡ b → (b || any f l) ≡ true → (any f l ≡ true → (k : ℕ) × ((member k l ≡ true) × (f k ≡ true))) →
        (k : ℕ) × ((member k (x ∷ l) ≡ true) × (f k ≡ true))
    go true e h ih = (x, (rw (eq-eqb x x refl), e))
    go false e h ih = let r = ih h in (r.0, (or_right (eqb r.0 x) (member r.0 l) r.1.0, r.1.1))

pub no_member : (f : ℕ → Bool) (l : List ℕ) (k : ℕ) → any f l ≡ false → member k l ≡ true → f k ≡ false
no_member f [] k h m = never m
no_member f (x ∷ l) k h m =
    let p = neither (f x) (any f l) h in
    ⊎_elim (λ e. rw (eqb-true k x e) p.0) (λ r. no_member f l k p.1 r) (or_cases (eqb k x) (member k l) m)
