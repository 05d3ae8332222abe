-- A list from a place on: one byte and the rest, and the end. Laws of the loops over bytes.
-- Assumes nothing.
use Prim.Native.Nat.{ℕ, zero, suc, ◌+◌, ◌<◌, ◌≤◌}
use mathlib.Core.Path.{◌≡◌, refl, ap, ◌∙◌, sym}
use mathlib.Core.Bool.{Bool, true, false, cond, ◌||◌}
use mathlib.Core.List.{List, [], ◌∷◌}
use native.Mathlib.Omega.{arith}
use native.Mathlib.Numerals.{add-one}
use lib.Dec.{eqb, ltb}
use lib.ListN.{length, get_or, drop}
use lib.Seq.{drop-cons}
use borrow.Author.Tests.{eq-eqb, ne_eqb, leb-true}
use mathlib.Core.Path.{ap₂}
use mathlib.Core.Logic.{⊎_elim}
use Rattle.std.specs.List.{list_any}
use Rattle.base_lists.proofs.Build.{same_or}
use Rattle.base_lists.specs.Lists.{member}
use Rattle.base_lists.proofs.Tests.{both}
use Rattle.text_scan.specs.Reader.{got, lost, is_blank, is_digit, here, sign, digits, goes_on, digit_on}
use Rattle.text_scan.specs.Reads.{after_blanks}

pub one_more : (s : List ℕ) (i : ℕ) → i < length s → drop i s ≡ get_or s i 0 ∷ drop (i + 1) s
one_more s i h = rw (add-one, drop-cons s i 0)

pub no_more : (s : List ℕ) (i : ℕ) → length s ≤ i → drop i s ≡ []
no_more [] zero h = refl
no_more [] (suc i) h = refl
no_more (x ∷ s) zero h = absurd (omega arith)
no_more (x ∷ s) (suc i) h = no_more s i (omega arith)

-- ---- one of some bytes

eqb_either : (x y : ℕ) → eqb x y ≡ eqb y x
eqb_either x y =
    ⊎_elim (λ (e : x ≡ y). eq-eqb x y e ∙ sym (eq-eqb y x (sym e))) (λ (n : x ≡ y → ⊥). ne_eqb x y n ∙ sym (ne_eqb y x (λ e. n (sym e)))) (same_or x y)

pub contains_member : (b : ℕ) (ms : List ℕ) → list_any (λ (y : ℕ). eqb y b) ms ≡ member b ms
contains_member b [] = refl
contains_member b (m ∷ ms) = ap₂ (λ (x y : Bool). x || y) (eqb_either m b) (contains_member b ms)

-- ---- blanks

module _ (s : List ℕ) (i : ℕ) where
  pub blank_ends : length s ≤ i → drop i s ≡ after_blanks (drop i s)
  blank_ends h = rw (no_more s i h)

  pub blank_stops : i < length s → is_blank (get_or s i 0) ≡ false → drop i s ≡ after_blanks (drop i s)
  blank_stops h e =
      one_more s i h ∙ sym (ap after_blanks (one_more s i h)
      ∙ ap (λ (c : Bool). cond c (after_blanks (drop (i + 1) s)) (get_or s i 0 ∷ drop (i + 1) s)) e)

  pub blank_goes : i < length s → is_blank (get_or s i 0) ≡ true → after_blanks (drop (i + 1) s) ≡ after_blanks (drop i s)
  blank_goes h e =
      sym (ap after_blanks (one_more s i h) ∙ ap (λ (c : Bool). cond c (after_blanks (drop (i + 1) s)) (get_or s i 0 ∷ drop (i + 1) s)) e)

pub sign_after : (ms s : List ℕ) → sign ms s ≡ here ms (after_blanks s)
unfolding sign here
sign_after ms [] = refl
sign_after ms (b ∷ s) = after (sign_after ms s) (is_blank b)
  where
    after : sign ms s ≡ here ms (after_blanks s) → (c : Bool) → cond c (sign ms s) (here ms (b ∷ s)) ≡ here ms (cond c (after_blanks s) (b ∷ s))
    after e true = e
    after e false = refl

-- ---- one byte

module _ (s ms : List ℕ) (at : ℕ) where
  pub here_end : length s ≤ at → lost (drop at s) ≡ here ms (drop at s)
  unfolding here
  here_end h = rw (no_more s at h)

  pub here_not : at < length s → member (get_or s at 0) ms ≡ false → lost (drop at s) ≡ here ms (drop at s)
  unfolding here
  here_not h e = rw (one_more s at h) (sym (ap (λ (c : Bool). cond c (got (get_or s at 0) (drop (at + 1) s)) (lost (get_or s at 0 ∷ drop (at + 1) s))) e))

  pub here_is : at < length s → member (get_or s at 0) ms ≡ true → got (get_or s at 0) (drop (at + 1) s) ≡ here ms (drop at s)
  unfolding here
  here_is h e = rw (one_more s at h) (sym (ap (λ (c : Bool). cond c (got (get_or s at 0) (drop (at + 1) s)) (lost (get_or s at 0 ∷ drop (at + 1) s))) e))

-- ---- digits

module _ (top n b : ℕ) where
  pub goes_small : goes_on top n b ≡ true → digit_on n b ≤ top
  goes_small h = leb-true _ _ (both (ltb 0 n) _ (both (is_digit b) _ h).1).1

module _ (s : List ℕ) (top n at : ℕ) where
  pub digits_end : length s ≤ at → got n (drop at s) ≡ digits top n (drop at s)
  unfolding digits
  digits_end h = rw (no_more s at h)

  digits_at : at < length s → digits top n (drop at s) ≡ cond (goes_on top n (get_or s at 0)) (digits top (digit_on n (get_or s at 0)) (drop (at + 1) s)) (got n (get_or s at 0 ∷ drop (at + 1) s))
  unfolding digits
  digits_at h = ap (digits top n) (one_more s at h)

  pub digits_stop : at < length s → goes_on top n (get_or s at 0) ≡ false → got n (drop at s) ≡ digits top n (drop at s)
  digits_stop h e =
      ap (got n) (one_more s at h)
      ∙ sym (digits_at h ∙ ap (λ (c : Bool). cond c (digits top (digit_on n (get_or s at 0)) (drop (at + 1) s)) (got n (get_or s at 0 ∷ drop (at + 1) s))) e)

  pub digits_go : at < length s → goes_on top n (get_or s at 0) ≡ true → digits top (digit_on n (get_or s at 0)) (drop (at + 1) s) ≡ digits top n (drop at s)
  digits_go h e =
      sym (digits_at h ∙ ap (λ (c : Bool). cond c (digits top (digit_on n (get_or s at 0)) (drop (at + 1) s)) (got n (get_or s at 0 ∷ drop (at + 1) s))) e)
