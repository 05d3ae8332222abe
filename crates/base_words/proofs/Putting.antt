-- Putting text: one piece after another, one byte more, and the last digit ahead of those before it.
-- Assumes nothing.
use mathlib.Core.Path.{◌≡◌, refl, ap, ◌∙◌, sym}
use mathlib.Core.List.{List, [], ◌∷◌, ◌++◌}
use Prim.Native.Nat.{ℕ, zero, suc, ◌+◌, ◌-◌, ◌/◌, ◌%◌, ◌^◌, ◌<◌, ◌≤◌}
use native.Mathlib.Omega.{arith}
use native.Mathlib.Nat.{add-zero}
use native.Mathlib.Numerals.{add-one}
use lib.ListN.{length, get_or, set, take, length-append, length-set}
use lib.Seq.{sets, length-sets, take-suc, take-length, length-take-le}
use lib.IntN.{ℤ}
use lib.Signed.{mag}
use mir.Syntax.{w32}
use mir.Val.{SFits, to_z, of_z}
use mir.Facts.{to_z-of_z}
use Rattle.base_lists.proofs.Sets.{sets_append}
use Rattle.base_words.specs.Text.{natural, integer, PutsText}
use Rattle.base_words.proofs.Digits.{natural_small, natural_more, length_more, length_some, integer_small, integer_large}

pub puts_none : (s : List ℕ) (at : ℕ) → PutsText [] s at s at
puts_none s at = record { text = refl; past = omega arith }

-- one piece, and the next from where it ended
pub puts_then : {xs ys s t u : List ℕ} {at mid end : ℕ} → PutsText xs s at t mid → PutsText ys t mid u end → PutsText (xs ++ ys) s at u end
puts_then {xs} {ys} {s} {t} {u} {at} {mid} {end} p q =
    record {
      text = q.text ∙ ap (λ (l : List ℕ). sets l mid ys) p.text ∙ ap (λ (k : ℕ). sets (sets s at xs) k ys) p.past
          ∙ sets_append xs ys s at;
      past = omega (arith, p.past, q.past, length-append xs ys);
    }

pub puts_length : {xs s t : List ℕ} {at end : ℕ} → PutsText xs s at t end → length t ≡ length s
puts_length {xs} {s} {t} {at} p = ap length p.text ∙ length-sets s at xs

-- two stores at different places
set_swap : (l : List ℕ) (i j x y : ℕ) → (i ≡ j → ⊥) → set (set l i x) j y ≡ set (set l j y) i x
set_swap [] i j x y ne = refl
set_swap (a ∷ l) zero zero x y ne = absurd (ne refl)
set_swap (a ∷ l) zero (suc j) x y ne = refl
set_swap (a ∷ l) (suc i) zero x y ne = refl
set_swap (a ∷ l) (suc i) (suc j) x y ne = ap (λ (r : List ℕ). a ∷ r) (set_swap l i j x y (λ e. ne (ap suc e)))

-- the last byte is put first
pub sets_last : (xs s : List ℕ) (at k d : ℕ) → k ≡ at + length xs → sets (set s k d) at xs ≡ sets s at (xs ++ (d ∷ []))
sets_last [] s at k d e = ap (λ (n : ℕ). set s n d) (e ∙ add-zero at)
sets_last (x ∷ xs) s at k d e =
    ap (λ (l : List ℕ). sets l (suc at) xs) (set_swap s k at d x (λ n. omega arith)) ∙ sets_last xs (set s at x) (suc at) k d (omega arith)

-- ---- a number, from its last digit on: what is left to put gives the whole

pub record Filling (s₀ : List ℕ) (at n : ℕ) (s : List ℕ) (m i : ℕ) : Type 0 where
  pub size : length s ≡ length s₀
  pub place : i + 1 ≡ length (natural m)
  pub within : i < length (natural n)
  pub left : sets s at (natural m) ≡ sets s₀ at (natural n)

pub filling_starts : (s : List ℕ) (at n w i : ℕ) → 1 ≤ w → w ≡ length (natural n) → i ≡ w - 1 → Filling s at n s n i
filling_starts s at n w i l e h = record { size = refl; place = omega arith; within = omega arith; left = refl }

module _ {s₀ : List ℕ} {at n : ℕ} {s : List ℕ} {m i : ℕ} (f : Filling s₀ at n s m i) where
  pub filling_goes_on : 9 < m → Filling s₀ at n (set s (at + i) (48 + m % 10)) (m / 10) (i - 1)
  filling_goes_on h =
      let p = f.place in
      let w = f.within in
      let l = length_more m (omega arith) in
      let o = length_some (m / 10) in
      record {
        size = length-set s (at + i) (48 + m % 10) ∙ f.size;
        place = omega arith;
        within = omega arith;
        left = sets_last (natural (m / 10)) s at (at + i) (48 + m % 10) (omega arith)
            ∙ ap (sets s at) (sym (natural_more m (omega arith))) ∙ f.left;
      }

  pub filling_place : 9 < m → 1 ≤ i
  filling_place h = omega (arith, f.place, length_more m (omega arith), length_some (m / 10))

  pub filling_ends : m ≤ 9 → (e : ℕ) → e ≡ at + length (natural n) → PutsText (natural n) s₀ at (set s at (48 + m % 10)) e
  filling_ends h e d =
      let r : m % 10 ≡ m = omega arith in
      record {
        text = ap (λ (k : ℕ). set s at (48 + k)) r ∙ ap (sets s at) (sym (natural_small m (omega arith))) ∙ f.left;
        past = d;
      }

-- ---- a signed number by its bits

-- one byte
pub puts_byte : (s : List ℕ) (at b : ℕ) → PutsText (b ∷ []) s at (set s at b) (at + 1)
puts_byte s at b = record { text = refl; past = refl }

-- b is the bits that the call of `base_number::bits` answers for z
module _ (z : ℤ) (b : ℕ) (f : SFits w32 z) (g : b ≡ of_z w32 (to_z w32 (of_z w32 z))) (s : List ℕ) (at : ℕ) where
  h : mag z < 2 ^ 31
  h = f.sfits

  e : b ≡ of_z w32 z
  e = g ∙ ap (of_z w32) (to_z-of_z f)

  pub room_small : b < 2147483648 → at + length (integer z) ≤ length s → at + length (natural b) ≤ length s
  room_small l r = omega (arith, ap length (integer_small z b h e l))

  pub puts_small : b < 2147483648 → {t : List ℕ} {end : ℕ} → PutsText (natural b) s at t end → PutsText (integer z) s at t end
  puts_small l p = rw (integer_small z b h e l) p

  pub room_large : 2147483648 ≤ b → at + length (integer z) ≤ length s → at + 1 + length (natural (4294967296 - b)) ≤ length s
  room_large l r = omega (arith, ap length (integer_large z b h e l))

  pub puts_large : 2147483648 ≤ b → {t : List ℕ} {end : ℕ} → PutsText (natural (4294967296 - b)) (set s at 45) (at + 1) t end →
      PutsText (integer z) s at t end
  puts_large l p = rw (integer_large z b h e l) (puts_then (puts_byte s at 45) p)
