-- Text as bytes: a word's, and a number's in decimal; and what a function that puts text at a place leaves.
use Rattle.std.specs.Prelude.{ℕ, zero, suc, ◌+◌, ◌/◌, ◌%◌, ◌≡◌, Bool, true, false, List, [], ◌∷◌, ◌++◌, ltb, length, ℤ, pos, negsuc}
use Prim.Native.Char.{code}
use Prim.Native.String as text
use Rattle.std.proofs.lemmas.List.Edits.{sets}

-- a word's bytes
abbrev pub word : text.String → List ℕ
word text.[] = []
word (text.◌∷◌ c s) = code c ∷ word s

-- the digits of n, the highest first: by whether n is below 10, so that only the case at hand is computed;
-- the first number only bounds how many stand before the last, and n are enough
abbrev pub digit : ℕ → ℕ
digit n = 48 + n

unfoldable pub digits : ℕ → Bool → ℕ → List ℕ
digits zero small n = digit n ∷ []
digits (suc k) true n = digit n ∷ []
digits (suc k) false n = digits k (ltb (n / 10) 10) (n / 10) ++ (digit (n % 10) ∷ [])

unfoldable pub natural : ℕ → List ℕ
natural n = digits n (ltb n 10) n

-- a signed number: a negative one has a minus sign before its size
unfoldable pub integer : ℤ → List ℕ
integer (pos n) = natural n
integer (negsuc n) = word "-" ++ natural (suc n)

-- the bytes of xs were put at a place, and `end` is the place after them
pub record PutsText (xs before : List ℕ) (at : ℕ) (after : List ℕ) (end : ℕ) : Type 0 where
  pub text : after ≡ sets before at xs
  pub past : end ≡ at + length xs
