-- The digits of a number: by its last digit, how many there are, and a signed number's by its bits.
-- Assumes nothing.
use mathlib.Core.Path.{◌≡◌, refl, ap, ◌∙◌, sym}
use mathlib.Core.Logic.{⊎_elim}
use mathlib.Core.List.{List, [], ◌∷◌, ◌++◌}
use Prim.Native.Nat.{ℕ, zero, suc, ◌+◌, ◌-◌, ◌/◌, ◌%◌, ◌^◌, ◌<◌, ◌≤◌}
use native.Mathlib.Nat.{div-lt_self, div-lt_iff_lt-mul, pow-suc}
use native.Mathlib.Omega.{arith}
use lib.Dec.{ltb, lit<}
use lib.ListN.{length, length-append}
use lib.IntN.{ℤ, pos, negsuc}
use lib.Signed.{mag}
use mir.Syntax.{w32}
use mir.Val.{of_z}
use borrow.Author.Tests.{lt-ltb, le-ltb}
use Rattle.base_lists.proofs.Build.{order}
use Rattle.base_words.specs.Text.{digit, digits, natural, integer}

-- ---- any bound above the number gives the same digits

tenth : (n k : ℕ) → 10 ≤ n → n ≤ suc k → n / 10 ≤ k
tenth n k h l = omega (arith, div-lt_self {n = n} {k = 10} (omega arith) (lit< tt))

digits_small : (k n : ℕ) → n < 10 → digits k (ltb n 10) n ≡ digit n ∷ []
unfolding digits
digits_small zero n h = refl
digits_small (suc k) n h = rw (lt-ltb n 10 h)

digits_more : (k n : ℕ) → 10 ≤ n → digits (suc k) (ltb n 10) n ≡ digits k (ltb (n / 10) 10) (n / 10) ++ (digit (n % 10) ∷ [])
unfolding digits
digits_more k n h = rw (le-ltb n 10 h)

digits_any : (j k n : ℕ) → n ≤ j → n ≤ k → digits j (ltb n 10) n ≡ digits k (ltb n 10) n
digits_any zero k n a b = digits_small zero n (omega arith) ∙ sym (digits_small k n (omega arith))
digits_any (suc j) zero n a b = digits_small (suc j) n (omega arith) ∙ sym (digits_small zero n (omega arith))
digits_any (suc j) (suc k) n a b =
    ⊎_elim (λ (h : n < 10). digits_small (suc j) n h ∙ sym (digits_small (suc k) n h))
    (λ (h : 10 ≤ n).
    digits_more j n h ∙ ap (λ (l : List ℕ). l ++ (digit (n % 10) ∷ [])) (digits_any j k (n / 10) (tenth n j h a) (tenth n k h b))
    ∙ sym (digits_more k n h))
    (order n 10)

-- ---- by the last digit

pub natural_small : (n : ℕ) → n < 10 → natural n ≡ digit n ∷ []
unfolding natural
natural_small n h = digits_small n n h

pub natural_more : (n : ℕ) → 10 ≤ n → natural n ≡ natural (n / 10) ++ (digit (n % 10) ∷ [])
unfolding natural
natural_more zero h = absurd (omega arith)
natural_more (suc n) h =
    digits_more n (suc n) h
    ∙ ap (λ (l : List ℕ). l ++ (digit (suc n % 10) ∷ [])) (digits_any n (suc n / 10) (suc n / 10) (tenth (suc n) n h (omega arith)) (omega arith))

-- ---- how many there are

pub length_small : (n : ℕ) → n < 10 → length (natural n) ≡ 1
length_small n h = ap length (natural_small n h)

pub length_more : (n : ℕ) → 10 ≤ n → length (natural n) ≡ length (natural (n / 10)) + 1
length_more n h = ap length (natural_more n h) ∙ length-append (natural (n / 10)) (digit (n % 10) ∷ [])

-- at most k + 1 digits below the power
pub length_natural : (k n : ℕ) → n < 10 ^ suc k → length (natural n) ≤ suc k
length_natural zero n h = omega (arith, length_small n (omega arith))
length_natural (suc k) n h =
    ⊎_elim (λ (s : n < 10). omega (arith, length_small n s))
    (λ (l : 10 ≤ n). omega (
      arith,
      length_more n l,
      length_natural k (n / 10)
          ((div-lt_iff_lt-mul {k = 10} {x = n} {y = 10 ^ suc k} (lit< tt)).1 (rw pow-suc at h)),
    ))
    (order n 10)

-- at least one
pub length_some : (n : ℕ) → 1 ≤ length (natural n)
length_some n =
    ⊎_elim (λ (s : n < 10). omega (arith, length_small n s)) (λ (l : 10 ≤ n). omega (arith, length_more n l)) (order n 10)

-- ---- a signed number by its bits

pub integer_small : (z : ℤ) (b : ℕ) → mag z < 2 ^ 31 → b ≡ of_z w32 z → b < 2147483648 → integer z ≡ natural b
unfolding integer
integer_small (pos n) b h e l = ap natural (sym e)
integer_small (negsuc n) b h e l = absurd (omega arith)

pub integer_large : (z : ℤ) (b : ℕ) → mag z < 2 ^ 31 → b ≡ of_z w32 z → 2147483648 ≤ b → integer z ≡ 45 ∷ natural (4294967296 - b)
unfolding integer
integer_large (pos n) b h e l = absurd (omega arith)
integer_large (negsuc n) b h e l = ap (λ (k : ℕ). 45 ∷ natural k) (omega arith)

pub length_integer : (z : ℤ) → mag z < 2 ^ 31 → length (integer z) ≤ 11
unfolding integer
length_integer (pos n) h = omega (arith, length_natural 9 n (omega arith))
length_integer (negsuc n) h = omega (arith, length_natural 9 (suc n) (omega arith))
