-- Laws of `build`: its length, its elements, a store, one store more, and how it meets `++`, `map` and `take`.
-- Assumes nothing.
use mathlib.Core.Path.{◌≡◌, refl, ap, ap₂, ◌∙◌, sym}
use mathlib.Core.Logic.{◌⊎◌, inl, inr, ⊎_elim}
use mathlib.Core.Bool.{Bool, true, false, cond, true≢false, false≢true}
use mathlib.Core.List.{List, [], ◌∷◌, ◌++◌, map}
use Prim.Native.Nat.{ℕ, zero, suc, ◌+◌, ◌<◌, ◌≤◌}
use native.Mathlib.Nat.{zero-add, suc-add}
use native.Mathlib.Numerals.{add-one}
use native.Mathlib.Omega.{arith}
use lib.Dec.{ltb, eqb, eqb-zero-suc, eqb-suc-zero, eqb-suc-suc}
use lib.ListN.{length, get_or, set, take, length-set}
use lib.Seq.{ext_get_or, take_all, get_or-set_same, get_or-set_other}
use borrow.Author.Tests.{lt-ltb, le-ltb, ltb-true, ltb-false, eqb-true, eqb-false}
use Rattle.base_lists.specs.Lists.{build}

-- a number is below another, or not
below_or : (j i : ℕ) (b : Bool) → ltb j i ≡ b → (j < i) ⊎ (i ≤ j)
below_or j i true e = inl (ltb-true j i e)
below_or j i false e = inr (ltb-false j i e)

pub order : (j i : ℕ) → (j < i) ⊎ (i ≤ j)
order j i = below_or j i (ltb j i) refl

-- a number is another, or not
equal_or : (j i : ℕ) (b : Bool) → eqb j i ≡ b → (j ≡ i) ⊎ (j ≡ i → ⊥)
equal_or j i true e = inl (eqb-true j i e)
equal_or j i false e = inr (eqb-false j i e)

pub same_or : (j i : ℕ) → (j ≡ i) ⊎ (j ≡ i → ⊥)
same_or j i = equal_or j i (eqb j i) refl

pub never : {A : Type 0} → ◌≡◌ {A = Bool} false true → A
never e = absurd (false≢true e)

pub never' : {A : Type 0} → ◌≡◌ {A = Bool} true false → A
never' e = absurd (true≢false e)

-- f below i, and g from i on: what a loop that fills an array has reached
abbrev pub up_to : {A : Type 0} → ℕ → (ℕ → A) → (ℕ → A) → ℕ → A
up_to i f g k = cond (ltb k i) (f k) (g k)

module _ {A : Type 0} where
  pub build_length : (n : ℕ) (f : ℕ → A) → length (build n f) ≡ n
  build_length zero f = refl
  build_length (suc n) f = ap suc (build_length n (λ (k : ℕ). f (suc k)))

  pub build_get_or : (n : ℕ) (f : ℕ → A) (d : A) (k : ℕ) → k < n → get_or (build n f) k d ≡ f k
  build_get_or zero f d k h = absurd (omega arith)
  build_get_or (suc n) f d zero h = refl
  build_get_or (suc n) f d (suc k) h = build_get_or n (λ (j : ℕ). f (suc j)) d k (omega arith)

  pub build_ext : (n : ℕ) (f g : ℕ → A) → ((k : ℕ) → k < n → f k ≡ g k) → build n f ≡ build n g
  build_ext zero f g h = refl
  build_ext (suc n) f g h =
      rw (h 0 (omega arith), build_ext n (λ (k : ℕ). f (suc k)) (λ (k : ℕ). g (suc k)) (λ k l. h (suc k) (omega arith)))

  pub take_build : (n : ℕ) (l : List A) (d : A) → n ≤ length l → build n (λ (k : ℕ). get_or l k d) ≡ take n l
  take_build zero l d h = refl
  take_build (suc n) [] d h = absurd (omega arith)
  take_build (suc n) (x ∷ l) d h = ap (λ (r : List A). x ∷ r) (take_build n l d (omega arith))

  pub build_append_get_or : (l m : List A) (d : A) → build (length l) (λ (k : ℕ). get_or (l ++ m) k d) ≡ l
  build_append_get_or [] m d = refl
  build_append_get_or (x ∷ l) m d = ap (λ (r : List A). x ∷ r) (build_append_get_or l m d)

  pub take_of_build : (n k : ℕ) (g : ℕ → A) (d : A) → k ≤ n → take k (build n g) ≡ build k g
  take_of_build n k g d l =
      sym (take_build k (build n g) d (rw (build_length n g) l))
      ∙ build_ext k (λ (j : ℕ). get_or (build n g) j d) g (λ j h. build_get_or n g d j (omega arith))

  -- every list is one
  pub build_all : (l : List A) (d : A) (n : ℕ) → length l ≡ n → build n (λ (k : ℕ). get_or l k d) ≡ l
  build_all l d n e = take_build n l d (omega arith) ∙ take_all n l (omega arith)

  pub build_add : (i m : ℕ) (g : ℕ → A) → build (i + m) g ≡ build i g ++ build m (λ (k : ℕ). g (i + k))
  build_add zero m g = simp zero-add
  build_add (suc i) m g = simp (suc-add, build_add i m (λ (k : ℕ). g (suc k)))

  pub build_suc : (i : ℕ) (g : ℕ → A) → build (suc i) g ≡ build i g ++ (g i ∷ [])
  build_suc zero g = refl
  build_suc (suc i) g = ap (λ (r : List A). g 0 ∷ r) (build_suc i (λ (k : ℕ). g (suc k)))

  pub build_snoc : (i : ℕ) (g : ℕ → A) → build (i + 1) g ≡ build i g ++ (g i ∷ [])
  build_snoc i g = rw add-one (build_suc i g)

  -- below i the two are the same, and above it
  up_to_other : (f g : ℕ → A) (i j : ℕ) → (j ≡ i → ⊥) → up_to i f g j ≡ up_to (i + 1) f g j
  up_to_other f g i j ne =
      ⊎_elim (λ (h : j < i). simp (lt-ltb j i h, lt-ltb j (i + 1) (omega arith)))
      (λ (h : i ≤ j). simp (le-ltb j i h, le-ltb j (i + 1) (omega arith)))
      (order j i)

  -- the element at i is the new one, and the others are as they were
  set_each : (n i : ℕ) (f g : ℕ → A) (d : A) → i < n → (j : ℕ) → j < n → get_or (set (build n (up_to i f g)) i (f i)) j d ≡ up_to (i + 1) f g j
  set_each n i f g d h j b =
      ⊎_elim (λ (e : j ≡ i). rw e (get_or-set_same (build n (up_to i f g)) i (f i) d (rw (build_length n (up_to i f g)) h) ∙ simp (lt-ltb i (i + 1) (omega arith))))
      (λ (ne : j ≡ i → ⊥). get_or-set_other (build n (up_to i f g)) i j (f i) d ne ∙ build_get_or n (up_to i f g) d j b ∙ up_to_other f g i j ne)
      (same_or j i)

  -- one store more
  pub set_more : (n i : ℕ) (f g : ℕ → A) (d : A) → i < n → set (build n (up_to i f g)) i (f i) ≡ build n (up_to (i + 1) f g)
  set_more n i f g d h =
      let len : length (set (build n (up_to i f g)) i (f i)) ≡ n = length-set (build n (up_to i f g)) i (f i) ∙ build_length n (up_to i f g) in
      ext_get_or d (set (build n (up_to i f g)) i (f i)) (build n (up_to (i + 1) f g)) (len ∙ sym (build_length n (up_to (i + 1) f g)))
      (λ j b. set_each n i f g d h j (rw len at b) ∙ sym (build_get_or n (up_to (i + 1) f g) d j (rw len at b)))

pub build_map : {A B : Type 0} (n : ℕ) (h : A → B) (g : ℕ → A) → map h (build n g) ≡ build n (λ (k : ℕ). h (g k))
build_map zero h g = refl
build_map {B = B} (suc n) h g = ap (λ (r : List B). h (g 0) ∷ r) (build_map n h (λ (k : ℕ). g (suc k)))

-- a store into a list by its elements
pub set_build : {A : Type 0} (n : ℕ) (f : ℕ → A) (q : ℕ) (x : A) → set (build n f) q x ≡ build n (λ (k : ℕ). cond (eqb k q) x (f k))
set_build zero f q x = refl
set_build {A} (suc n) f zero x =
    ap (λ (l : List A). x ∷ l)
    (build_ext n (λ (k : ℕ). f (suc k)) (λ (k : ℕ). cond (eqb (suc k) 0) x (f (suc k))) (λ k l. rw eqb-suc-zero))
set_build {A} (suc n) f (suc q) x =
    ap₂ (λ (b : Bool) (l : List A). cond b x (f 0) ∷ l) (sym (eqb-zero-suc q)) (set_build n (λ (k : ℕ). f (suc k)) q x
    ∙ build_ext n (λ (k : ℕ). cond (eqb k q) x (f (suc k))) (λ (k : ℕ). cond (eqb (suc k) (suc q)) x (f (suc k))) (λ k l. rw eqb-suc-suc))
