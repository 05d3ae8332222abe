-- Laws of the tests over lists, `all`, `any` and `member`: over `++`, `map`, `chain` and `build`, and what a passed test says of each element.
-- Assumes nothing.
use mathlib.Core.Path.{◌≡◌, refl, ap, ◌∙◌, sym}
use mathlib.Core.Logic.{◌⊎◌, inl, inr, ⊎_elim}
use mathlib.Core.Bool.{Bool, true, false, cond, ◌&&◌, ◌||◌, and_assoc, or_assoc, or_comm, or-false}
use mathlib.Core.List.{List, [], ◌∷◌, ◌++◌}
use Prim.Native.Nat.{ℕ, zero, suc, ◌+◌, ◌-◌, ◌<◌, ◌≤◌}
use native.Mathlib.Omega.{arith}
use lib.Dec.{eqb}
use lib.ListN.{length, get_or, drop, length-drop, get_or-eq_default}
use lib.Seq.{get_or-drop}
use borrow.Author.Tests.{eqb-true}
use Rattle.base_lists.specs.Lists.{build, all, any, member, chain}
use Rattle.base_lists.proofs.Build.{order, never, never', build_snoc}

pub both : (a b : Bool) → (a && b) ≡ true → (a ≡ true) × (b ≡ true)
both true b h = (refl, h)
both false b h = never h

pub both_of : (a b : Bool) → a ≡ true → b ≡ true → (a && b) ≡ true
both_of a b h k = rw (h, k)

pub or_cases : (a b : Bool) → (a || b) ≡ true → (a ≡ true) ⊎ (b ≡ true)
or_cases true b h = inl refl
or_cases false b h = inr h

pub neither : (a b : Bool) → (a || b) ≡ false → (a ≡ false) × (b ≡ false)
neither true b h = never' h
neither false b h = (refl, h)

pub neither_of : (a b : Bool) → a ≡ false → b ≡ false → (a || b) ≡ false
neither_of a b h k = rw (h, k)

pub or_left : (a b : Bool) → a ≡ true → (a || b) ≡ true
or_left a b h = rw h

pub or_right : (a b : Bool) → b ≡ true → (a || b) ≡ true
or_right true b h = refl
or_right false b h = h

pub false_of : (b : Bool) → (b ≡ true → ⊥) → b ≡ false
false_of true h = absurd (h refl)
false_of false h = refl

pub cond_le : (b : Bool) (x y n : ℕ) → x ≤ n → y ≤ n → cond b x y ≤ n
cond_le true x y n h k = h
cond_le false x y n h k = k

pub cond_ge : (b : Bool) (x y n : ℕ) → n ≤ x → n ≤ y → n ≤ cond b x y
cond_ge true x y n h k = h
cond_ge false x y n h k = k

pub or_first : (a b c : Bool) → (a || (b || c)) ≡ (b || (a || c))
or_first a b c = sym (or_assoc a b c) ∙ rw (or_comm a b) (or_assoc b a c)

-- what is known, in another order
pub or_swap : (a b c : Bool) → (a || (b || c)) ≡ (b || a || c)
or_swap true true c = refl
or_swap true false c = refl
or_swap false true c = refl
or_swap false false c = refl

-- two conjunctions, sorted
and_swap : (a b c d : Bool) → (a && b && (c && d)) ≡ (a && c && (b && d))
and_swap true true c d = refl
and_swap true false true d = refl
and_swap true false false d = refl
and_swap false b c d = refl

module _ {A : Type 0} where
  pub all_append : (f : A → Bool) (l m : List A) → all f (l ++ m) ≡ (all f l && all f m)
  all_append f [] m = refl
  all_append f (x ∷ l) m = rw (all_append f l m) (sym (and_assoc (f x) (all f l) (all f m)))

  pub any_append : (f : A → Bool) (l m : List A) → any f (l ++ m) ≡ (any f l || any f m)
  any_append f [] m = refl
  any_append f (x ∷ l) m = rw (any_append f l m) (sym (or_assoc (f x) (any f l) (any f m)))

  pub all_and : (f g : A → Bool) (l : List A) → all (λ (x : A). f x && g x) l ≡ (all f l && all g l)
  all_and f g [] = refl
  all_and f g (x ∷ l) = rw (all_and f g l) (and_swap (f x) (g x) (all f l) (all g l))

  pub all_implies : (f g : A → Bool) (l : List A) → ((x : A) → f x ≡ true → g x ≡ true) → all f l ≡ true → all g l ≡ true
  all_implies f g [] i h = refl
  all_implies f g (x ∷ l) i h =
      let p = both (f x) (all f l) h in
      both_of (g x) (all g l) (i x p.0) (all_implies f g l i p.1)

  pub all_get_d : (f : A → Bool) (l : List A) (d : A) → all f l ≡ true → (k : ℕ) → k < length l → f (get_or l k d) ≡ true
  all_get_d f [] d h k b = absurd (omega arith)
  all_get_d f (x ∷ l) d h zero b = (both (f x) (all f l) h).0
  all_get_d f (x ∷ l) d h (suc k) b = all_get_d f l d (both (f x) (all f l) h).1 k (omega arith)

  pub all_of_each : (f : A → Bool) (d : A) (l : List A) → ((k : ℕ) → k < length l → f (get_or l k d) ≡ true) → all f l ≡ true
  all_of_each f d [] h = refl
  all_of_each f d (x ∷ l) h = both_of (f x) (all f l) (h 0 (omega arith)) (all_of_each f d l (λ k b. h (suc k) (omega arith)))

  pub none_of_each : (f : A → Bool) (d : A) (l : List A) → ((k : ℕ) → k < length l → f (get_or l k d) ≡ false) → any f l ≡ false
  none_of_each f d [] h = refl
  none_of_each f d (x ∷ l) h = rw (h 0 (omega arith), none_of_each f d l (λ k b. h (suc k) (omega arith)))

  -- a test of every element from n on, where the element past the end passes
  pub all_from : (f : A → Bool) (d : A) (l : List A) (n : ℕ) → f d ≡ true → all f (drop n l) ≡ true → (k : ℕ) → n ≤ k → f (get_or l k d) ≡ true
  all_from f d l n e h k b =
      let i : n + (k - n) ≡ k = omega arith in
      ⊎_elim
      (λ (c : k - n < length (drop n l)).
      ap f (ap (λ (j : ℕ). get_or l j d) (sym i) ∙ sym (get_or-drop n l (k - n) d)) ∙ all_get_d f (drop n l) d h (k - n) c)
      (λ (c : length (drop n l) ≤ k - n). ap f (get_or-eq_default l d (omega (arith, length-drop n l))) ∙ e)
      (order (k - n) (length (drop n l)))

  pub all_from_of : (f : A → Bool) (d : A) (l : List A) (n : ℕ) → ((k : ℕ) → n ≤ k → f (get_or l k d) ≡ true) → all f (drop n l) ≡ true
  all_from_of f d l n h = all_of_each f d (drop n l) (λ k b. ap f (get_or-drop n l k d) ∙ h (n + k) (omega arith))

  -- over a list by its elements
  pub all_build : (f : A → Bool) (n : ℕ) (g : ℕ → A) → all f (build n g) ≡ true → (k : ℕ) → k < n → f (g k) ≡ true
  all_build f zero g h k b = absurd (omega arith)
  all_build f (suc n) g h zero b = (both (f (g 0)) (all f (build n (λ (j : ℕ). g (suc j)))) h).0
  all_build f (suc n) g h (suc k) b =
      all_build f n (λ (j : ℕ). g (suc j)) (both (f (g 0)) (all f (build n (λ (j : ℕ). g (suc j)))) h).1 k (omega arith)

  pub all_build_of : (f : A → Bool) (n : ℕ) (g : ℕ → A) → ((k : ℕ) → k < n → f (g k) ≡ true) → all f (build n g) ≡ true
  all_build_of f zero g h = refl
  all_build_of f (suc n) g h = rw (h 0 (omega arith)) (all_build_of f n (λ (k : ℕ). g (suc k)) (λ k l. h (suc k) (omega arith)))

  -- one element of the list passes, or none does
  pub any_build : (f : A → Bool) (n : ℕ) (g : ℕ → A) → any f (build n g) ≡ true → (j : ℕ) × ((j < n) × (f (g j) ≡ true))
  any_build f zero g h = never h
  any_build f (suc n) g h =
      ⊎_elim (λ e. (0, (omega arith, e)))
      (λ e. let r = any_build f n (λ (k : ℕ). g (suc k)) e in (suc r.0, (omega (arith, r.1.0), r.1.1)))
      (or_cases (f (g 0)) (any f (build n (λ (k : ℕ). g (suc k)))) h)

  pub any_build_none : (f : A → Bool) (n : ℕ) (g : ℕ → A) → any f (build n g) ≡ false → (j : ℕ) → j < n → f (g j) ≡ false
  any_build_none f zero g h j b = absurd (omega arith)
  any_build_none f (suc n) g h zero b = (neither (f (g 0)) (any f (build n (λ (k : ℕ). g (suc k)))) h).0
  any_build_none f (suc n) g h (suc j) b =
      any_build_none f n (λ (k : ℕ). g (suc k)) (neither (f (g 0)) (any f (build n (λ (k : ℕ). g (suc k)))) h).1 j (omega arith)

  -- a loop that returns false at the first element that fails: one turn more, and the return
  pub all_more : (f : A → Bool) (i : ℕ) (g : ℕ → A) → all f (build i g) ≡ true → f (g i) ≡ true → all f (build (i + 1) g) ≡ true
  all_more f i g h k = rw (build_snoc i g, all_append f (build i g) (g i ∷ []), h, k)

  pub all_stop : (f : A → Bool) (n i : ℕ) (g : ℕ → A) → i < n → f (g i) ≡ false → all f (build n g) ≡ false
  all_stop f n i g l h = fails (all f (build n g)) refl
    where
      fails : (b : Bool) → all f (build n g) ≡ b → b ≡ false
      fails true e = sym (all_build f n g e i l) ∙ h
      fails false e = refl

module _ {A B : Type 0} where
  pub all_chain : (f : B → Bool) (g : A → List B) (l : List A) → all f (chain g l) ≡ all (λ (x : A). all f (g x)) l
  all_chain f g [] = refl
  all_chain f g (x ∷ l) = rw (all_append f (g x) (chain g l), all_chain f g l)

  pub any_chain : (f : B → Bool) (g : A → List B) (l : List A) → any f (chain g l) ≡ any (λ (x : A). any f (g x)) l
  any_chain f g [] = refl
  any_chain f g (x ∷ l) = rw (any_append f (g x) (chain g l), any_chain f g l)

pub member_append : (k : ℕ) (l m : List ℕ) → member k (l ++ m) ≡ (member k l || member k m)
member_append k l m = any_append (λ (x : ℕ). eqb k x) l m

pub member_snoc : (k : ℕ) (l : List ℕ) (x : ℕ) → member k (l ++ (x ∷ [])) ≡ (member k l || eqb k x)
member_snoc k l x = rw (member_append k l (x ∷ []), or-false)

pub member_chain : {A : Type 0} (k : ℕ) (g : A → List ℕ) (l : List A) → member k (chain g l) ≡ any (λ (x : A). member k (g x)) l
member_chain k g l = any_chain (λ (x : ℕ). eqb k x) g l

pub all_member : (f : ℕ → Bool) (l : List ℕ) → all f l ≡ true → (k : ℕ) → member k l ≡ true → f k ≡ true
all_member f [] h k m = never m
all_member f (x ∷ l) h k m =
    let p = both (f x) (all f l) h in
    ⊎_elim (λ e. rw (eqb-true k x e) p.0) (λ r. all_member f l p.1 k r) (or_cases (eqb k x) (member k l) m)
