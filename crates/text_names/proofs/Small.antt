-- What was read as a number is small, and the digits of a number below 20.
-- Assumes nothing.
use Prim.Native.Nat.{ℕ, ◌+◌, ◌-◌, ◌/◌, ◌%◌, ◌<◌, ◌≤◌}
use mathlib.Core.Path.{◌≡◌, refl, ap, ◌∙◌, sym}
use mathlib.Core.List.{List, [], ◌∷◌, ◌++◌}
use native.Mathlib.Omega.{arith}
use Rattle.base_words.specs.Text.{word, digit, natural}
use Rattle.base_words.proofs.Digits.{natural_small, natural_more}
use Rattle.text_scan.specs.Reader.{got, here, sign, digits}
use Rattle.text_scan.proofs.Places.{sign_after}
use Rattle.text_scan.proofs.Sound.{here_was, at_most, digits_small}

-- a first digit, and the number that it begins
digit_small : (s : List ℕ) (b : ℕ) (r : List ℕ) → here (word "0123456789") s ≡ got b r → b - 48 ≤ 9
digit_small s b r e = let h = at_most (word "0123456789") b 57 refl (here_was (word "0123456789") s e).one in omega arith

pub here_small : (s : List ℕ) (b : ℕ) (r t : List ℕ) (top m : ℕ) (u : List ℕ) → 9 ≤ top → here (word "0123456789") s ≡ got b r →
    digits top (b - 48) t ≡ got m u → m ≤ top
here_small s b r t top m u h e d = digits_small top (b - 48) t (let l = digit_small s b r e in omega arith) d

pub sign_small : (s : List ℕ) (b : ℕ) (r t : List ℕ) (top m : ℕ) (u : List ℕ) → 9 ≤ top → sign (word "0123456789") s ≡ got b r →
    digits top (b - 48) t ≡ got m u → m ≤ top
sign_small s b r t top m u h e d = here_small _ b r t top m u h (sym (sign_after (word "0123456789") s) ∙ e) d

-- ---- the digits of a number below 20

pub one_digit : (n : ℕ) → n < 10 → natural n ≡ (48 + n) ∷ []
one_digit n h = natural_small n h

pub two_digits : (n : ℕ) → 10 ≤ n → n ≤ 19 → natural n ≡ 49 ∷ (48 + (n - 10)) ∷ []
two_digits n l h =
    let q : n / 10 ≡ 1 = omega arith in
    let r : 48 + n % 10 ≡ 48 + (n - 10) = omega arith in
    natural_more n l ∙ ap (λ (k : ℕ). natural k ++ (digit (n % 10) ∷ [])) q
    ∙ ap (λ (x : List ℕ). x ++ (digit (n % 10) ∷ [])) (natural_small 1 (omega arith)) ∙ ap (λ (d : ℕ). 49 ∷ d ∷ []) r
