-- Laws of `pad`: an array's places, filled up with a fixed element, against the list that they hold.
-- Assumes nothing.
use mathlib.Core.Path.{◌≡◌, refl, ap, ◌∙◌, sym}
use mathlib.Core.Logic.{⊎_elim}
use mathlib.Core.List.{List, [], ◌∷◌, ◌++◌, append-nil}
use Prim.Native.Nat.{ℕ, zero, suc, ◌+◌, ◌<◌, ◌≤◌}
use native.Mathlib.Nat.{zero-add, suc-add}
use native.Mathlib.Omega.{arith}
use lib.ListN.{length, get_or, set, take, replicate, get_or-eq_default}
use lib.Seq.{ext_get_or}
use Rattle.base_lists.specs.Lists.{build, pad}
use Rattle.base_lists.proofs.Places.{same_at}
use Rattle.base_lists.proofs.Build.{order, build_length, build_get_or, build_snoc, take_build}

module _ {A : Type 0} where
  pub pad_length : (n : ℕ) (d : A) (l : List A) → length (pad n d l) ≡ n
  pad_length zero d l = refl
  pad_length (suc n) d [] = ap suc (pad_length n d [])
  pad_length (suc n) d (x ∷ l) = ap suc (pad_length n d l)

  pub pad_get_or : (n : ℕ) (d : A) (l : List A) (k : ℕ) → k < n → get_or (pad n d l) k d ≡ get_or l k d
  pad_get_or zero d l k h = absurd (omega arith)
  pad_get_or (suc n) d [] zero h = refl
  pad_get_or (suc n) d [] (suc k) h = pad_get_or n d [] k (omega arith)
  pad_get_or (suc n) d (x ∷ l) zero h = refl
  pad_get_or (suc n) d (x ∷ l) (suc k) h = pad_get_or n d l k (omega arith)

  pub pad_as_build : (n : ℕ) (d : A) (l : List A) → pad n d l ≡ build n (λ (k : ℕ). get_or l k d)
  pad_as_build zero d l = refl
  pad_as_build (suc n) d [] = ap (λ (r : List A). d ∷ r) (pad_as_build n d [])
  pad_as_build (suc n) d (x ∷ l) = ap (λ (r : List A). x ∷ r) (pad_as_build n d l)

  pub pad_replicate : (n : ℕ) (d : A) → pad n d [] ≡ replicate n d
  pad_replicate zero d = refl
  pad_replicate (suc n) d = ap (λ (r : List A). d ∷ r) (pad_replicate n d)

  pub pad_none : (n : ℕ) (d : A) (k : ℕ) → get_or (pad n d []) k d ≡ d
  pad_none n d k = ap (λ (l : List A). get_or l k d) (pad_replicate n d) ∙ same_at n d k

  -- the list, and then the filler
  pub pad_add : (k : ℕ) (d : A) (l : List A) → pad (length l + k) d l ≡ l ++ replicate k d
  pad_add k d [] = rw zero-add (pad_replicate k d)
  pad_add k d (x ∷ l) = rw suc-add (ap (λ (r : List A). x ∷ r) (pad_add k d l))

  pub pad_past : (n : ℕ) (d : A) (l : List A) (k : ℕ) → length l ≤ k → k < n → get_or (pad n d l) k d ≡ d
  pad_past n d l k h b = pad_get_or n d l k b ∙ get_or-eq_default l d h

  pub pad_front : (n : ℕ) (d : A) (l r : List A) → length l ≤ n → take (length l) (pad n d (l ++ r)) ≡ l
  pad_front n d [] r h = refl
  pad_front zero d (x ∷ l) r h = absurd (omega arith)
  pad_front (suc n) d (x ∷ l) r h = ap (λ (s : List A). x ∷ s) (pad_front n d l r (omega arith))

  pub pad_take : (n : ℕ) (d : A) (l : List A) → length l ≤ n → take (length l) (pad n d l) ≡ l
  pad_take n d l h = ap (λ (m : List A). take (length l) (pad n d m)) (sym (append-nil l)) ∙ pad_front n d l [] h

  pub pad_full : (n : ℕ) (d : A) (l : List A) → length l ≡ n → pad n d l ≡ l
  pad_full zero d [] e = refl
  pad_full zero d (x ∷ l) e = absurd (omega arith)
  pad_full (suc n) d [] e = absurd (omega arith)
  pad_full (suc n) d (x ∷ l) e = ap (λ (r : List A). x ∷ r) (pad_full n d l (omega arith))

  -- the places give the list back
  pub pad_build : (n m : ℕ) (d : A) (l : List A) → length l ≡ n → n ≤ m → build n (λ (k : ℕ). get_or (pad m d l) k d) ≡ l
  pad_build n m d l e h = take_build n (pad m d l) d (rw (pad_length m d l) h) ∙ rw (← e) (pad_take m d l (omega arith))

  -- one element more is one store
  pub pad_set : (n : ℕ) (d : A) (l : List A) (x : A) → length l < n → set (pad n d l) (length l) x ≡ pad n d (l ++ (x ∷ []))
  pad_set zero d l x h = absurd (omega arith)
  pad_set (suc n) d [] x h = refl
  pad_set (suc n) d (y ∷ l) x h = ap (λ (r : List A). y ∷ r) (pad_set n d l x (omega arith))

  -- one turn of a loop that fills the places from the front
  pub pad_build_more : (n i : ℕ) (d : A) (f : ℕ → A) → i < n → set (pad n d (build i f)) i (f i) ≡ pad n d (build (i + 1) f)
  pad_build_more n i d f h =
      rw (build_snoc i f) (rw (build_length i f) at (pad_set n d (build i f) (f i) (rw (build_length i f) h)))

  -- a store among the places is a store in the list
  pub set_pad : (n : ℕ) (d : A) (l : List A) (i : ℕ) (x : A) → i < length l → length l ≤ n → set (pad n d l) i x ≡ pad n d (set l i x)
  set_pad n d [] i x h b = absurd (omega arith)
  set_pad zero d (y ∷ l) i x h b = absurd (omega arith)
  set_pad (suc n) d (y ∷ l) zero x h b = refl
  set_pad (suc n) d (y ∷ l) (suc i) x h b = ap (λ (r : List A). y ∷ r) (set_pad n d l i x (omega arith) (omega arith))

  -- and the list gives the places back, where all others hold d
  pub pad_back : (n m : ℕ) (d : A) (l : List A) → length l ≡ n → ((k : ℕ) → m ≤ k → k < n → get_or l k d ≡ d) → pad n d (build m (λ (k : ℕ). get_or l k d)) ≡ l
  pad_back n m d l e h =
      let b : List A = build m (λ (k : ℕ). get_or l k d) in
      ext_get_or d (pad n d b) l (pad_length n d b ∙ sym e)
      (λ k c.
      let c : k < n = rw (pad_length n d b) at c in
      pad_get_or n d b k c ∙ ⊎_elim (λ (u : k < m). build_get_or m (λ (k : ℕ). get_or l k d) d k u)
      (λ (u : m ≤ k). get_or-eq_default b d (rw (build_length m (λ (k : ℕ). get_or l k d)) u) ∙ sym (h k u c))
      (order k m))
