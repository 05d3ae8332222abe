-- Places that are filled from the front: what stands in them, and one element more, also where the list outgrows them.
-- Assumes nothing.
use Prim.Native.Nat.{ℕ, zero, suc, ◌+◌, ◌<◌, ◌≤◌}
use mathlib.Core.Path.{◌≡◌, refl, ap, ◌∙◌, sym}
use mathlib.Core.Logic.{◌⊎◌, inl, inr, ⊎_elim}
use mathlib.Core.Bool.{Bool, cond}
use mathlib.Core.List.{List, [], ◌∷◌, ◌++◌}
use native.Mathlib.Omega.{arith}
use lib.Dec.{leb}
use lib.ListN.{length, get_or, set, length-append}
use borrow.Author.Tests.{le-leb, lt-leb}
use Rattle.base_lists.specs.Lists.{build, pad}
use Rattle.base_lists.proofs.Build.{order, build_length}
use Rattle.base_lists.proofs.Tests.{cond_ge}
use Rattle.base_lists.proofs.Pad.{pad_set, pad_build}
use Rattle.text_scan.specs.Kept.{counted}

module _ {A : Type 0} (n : ℕ) (d : A) where
  -- the first k of some places
  abbrev pub front : ℕ → List A → List A
  front k l = build k (λ (i : ℕ). get_or l i d)

  module _ (l : List A) (k : ℕ) (x : A) (small : k < n) (filled : l ≡ pad n d (front k l)) where
    sized : length (front k l) ≡ k
    sized = build_length k (λ (i : ℕ). get_or l i d)

    pub filled_more : set l k x ≡ pad n d (front k l ++ (x ∷ []))
    filled_more =
        ap (λ (m : List A). set m k x) filled ∙ ap (λ (j : ℕ). set (pad n d (front k l)) j x) (sym sized)
        ∙ pad_set n d (front k l) x (omega (arith, sized))

    pub front_more : front (k + 1) (set l k x) ≡ front k l ++ (x ∷ [])
    front_more =
        ap (front (k + 1)) filled_more
        ∙ pad_build (k + 1) n d (front k l ++ (x ∷ [])) (length-append (front k l) (x ∷ []) ∙ ap (λ (j : ℕ). j + 1) sized) (omega arith)

-- ---- places for the first elements of a list of any length

module _ (places n : ℕ) where
  pub counted_small : n ≤ places → counted places n ≡ n
  counted_small h = ap (λ (b : Bool). cond b n (suc places)) (le-leb n places h)

  pub counted_large : places < n → counted places n ≡ suc places
  counted_large h = ap (λ (b : Bool). cond b n (suc places)) (lt-leb n places h)

pad_over : {A : Type 0} (n : ℕ) (d : A) (l m : List A) → n ≤ length l → pad n d (l ++ m) ≡ pad n d l
pad_over zero d l m h = refl
pad_over (suc n) d [] m h = absurd (omega arith)
pad_over {A} (suc n) d (x ∷ l) m h = ap (λ (r : List A). x ∷ r) (pad_over n d l m (omega arith))

-- one element more: in the next place, or past the places
pub record Next {A : Type 0} (n : ℕ) (d : A) (l : List A) (x : A) : Type 0 where
  pub room : counted n (length l) < n
  pub count : counted n (length l) + 1 ≡ counted n (length (l ++ (x ∷ [])))
  pub places : set (pad n d l) (counted n (length l)) x ≡ pad n d (l ++ (x ∷ []))

pub record Over {A : Type 0} (n : ℕ) (d : A) (l : List A) (x : A) : Type 0 where
  pub full : n ≤ counted n (length l)
  pub count : suc n ≡ counted n (length (l ++ (x ∷ [])))
  pub places : pad n d l ≡ pad n d (l ++ (x ∷ []))

pub next_or_over : {A : Type 0} (n : ℕ) (d : A) (l : List A) (x : A) → Next n d l x ⊎ Over n d l x
next_or_over {A} n d l x = ⊎_elim (λ h. inl (next h)) (λ h. inr (over h)) (order (length l) n)
  where
    next : length l < n → Next n d l x
    next h =
        let size = length-append l (x ∷ []) in
        let c = counted_small n (length l) (omega arith) in
        record {
          room = omega (arith, c);
          count = ap (λ (k : ℕ). k + 1) c ∙ sym (counted_small n (length (l ++ (x ∷ []))) (omega (arith, size)) ∙ size);
          places = ap (λ (k : ℕ). set (pad n d l) k x) c ∙ pad_set n d l x h;
        }

    over : n ≤ length l → Over n d l x
    over h =
        record {
          full = cond_ge (leb (length l) n) (length l) (suc n) n h (omega arith);
          count = sym (counted_large n (length (l ++ (x ∷ []))) (omega (arith, length-append l (x ∷ []))));
          places = sym (pad_over n d l (x ∷ []) h);
        }
