-- A list with one element replaced by others: what stands at each place, and how many there are.
-- Assumes nothing.
use mathlib.Core.Path.{◌≡◌, refl, ap, ◌∙◌, sym}
use mathlib.Core.List.{List, [], ◌∷◌, ◌++◌, map, map-append}
use Prim.Native.Nat.{ℕ, zero, suc, ◌+◌, ◌-◌, ◌<◌, ◌≤◌}
use native.Mathlib.Omega.{arith}
use lib.ListN.{length, get_or, take, drop, length-append, length-drop, get_or-append}
use lib.Seq.{length-take-le, get_or-append-add, get_or-take, get_or-drop}
use Rattle.base_lists.specs.Lists.{build}
use Rattle.base_lists.proofs.Places.{get_d_any, map_take, map_drop}

-- the elements p in place of element i of l
abbrev pub inserted : {A : Type 0} → ℕ → List A → List A → List A
inserted i p l = take i l ++ (p ++ drop (i + 1) l)

pub map_inserted : {A B : Type 0} (f : A → B) (i : ℕ) (p l : List A) → map f (inserted i p l) ≡ inserted i (map f p) (map f l)
map_inserted f i p l =
    map-append f (take i l) (p ++ drop (i + 1) l) ∙ rw (map_take f i l, map-append f p (drop (i + 1) l), map_drop f (i + 1) l)

module _ {A : Type 0} (i : ℕ) (p l : List A) (h : i < length l) where
  pub length_inserted : length (inserted i p l) + 1 ≡ length l + length p
  length_inserted =
      let a = length-append (take i l) (p ++ drop (i + 1) l) in
      let b = length-append p (drop (i + 1) l) in
      let c = length-take-le i l (omega arith) in
      let e = length-drop (i + 1) l in
      omega arith

  pub inserted_before : (d : A) (m : ℕ) → m < i → get_or (inserted i p l) m d ≡ get_or l m d
  inserted_before d m b =
      get_or-append (take i l) (p ++ drop (i + 1) l) d m (omega (arith, length-take-le i l (omega arith))) ∙ get_or-take i l m d b

  inserted_from : (d : A) (j : ℕ) → get_or (inserted i p l) (i + j) d ≡ get_or (p ++ drop (i + 1) l) j d
  inserted_from d j =
      let e : length (take i l) ≡ i = length-take-le i l (omega arith) in
      ap (λ (n : ℕ). get_or (inserted i p l) (n + j) d) (sym e) ∙ get_or-append-add (take i l) (p ++ drop (i + 1) l) j d

  -- one of the new elements, whatever its own default
  pub inserted_in : (d e : A) (j : ℕ) → j < length p → get_or p j e ≡ get_or (inserted i p l) (i + j) d
  inserted_in d e j b = get_d_any p j e d b ∙ sym (get_or-append p (drop (i + 1) l) d j b) ∙ sym (inserted_from d j)

  -- past them, the old elements moved up
  pub inserted_past : (d : A) (j : ℕ) → length p ≤ j → get_or l (i + j + 1 - length p) d ≡ get_or (inserted i p l) (i + j) d
  inserted_past d j b =
      let e : i + j + 1 - length p ≡ i + 1 + (j - length p) = omega arith in
      let f : length p + (j - length p) ≡ j = omega arith in
      ap (λ (n : ℕ). get_or l n d) e ∙ sym (get_or-drop (i + 1) l (j - length p) d) ∙ sym (get_or-append-add p (drop (i + 1) l) (j - length p) d)
      ∙ ap (λ (n : ℕ). get_or (p ++ drop (i + 1) l) n d) f ∙ sym (inserted_from d j)

-- a first, n built ones and a last, each through f
module _ {A B : Type 0} (f : A → B) where
  pub built_at : (n : ℕ) (g : ℕ → A) (y : A) (d : B) (j : ℕ) → j < n → get_or (map f (build n g ++ (y ∷ []))) j d ≡ f (g j)
  built_at zero g y d j h = absurd (omega arith)
  built_at (suc n) g y d zero h = refl
  built_at (suc n) g y d (suc j) h = built_at n (λ (k : ℕ). g (suc k)) y d j (omega arith)

  pub last_at : (n : ℕ) (g : ℕ → A) (y : A) (d : B) → get_or (map f (build n g ++ (y ∷ []))) n d ≡ f y
  last_at zero g y d = refl
  last_at (suc n) g y d = last_at n (λ (k : ℕ). g (suc k)) y d
