-- Numbers as little-endian bytes, the wrapping sum on 32 bits, and the signed range test.
use Rattle.std.specs.Prelude.{ℕ, zero, suc, ◌+◌, ◌*◌, ◌/◌, ◌%◌, ◌^◌, Bool, true, false, ◌&&◌, List, [], ◌∷◌, ℤ, pos, negsuc, int_le, slice_index}
use Rattle.std.specs.Int.{w32}
use Rattle.std.proofs.Common.{to_z, of_z}

-- two bytes at the front of a list, as a number; and a number's two bytes
unfoldable pub short_of : List ℕ → ℕ
short_of s = slice_index s 0 + 256 * slice_index s 1

unfoldable pub short_bytes : ℕ → List ℕ
short_bytes n = n % 256 ∷ n / 256 ∷ []

-- four bytes at the front of a list, as 32 bits; and the four bytes of 32 bits
unfoldable pub bits_of : List ℕ → ℕ
bits_of s = slice_index s 0 + 256 * slice_index s 1 + 65536 * slice_index s 2 + 16777216 * slice_index s 3

unfoldable pub bits_bytes : ℕ → List ℕ
bits_bytes n = n % 256 ∷ n / 256 % 256 ∷ n / 65536 % 256 ∷ n / 16777216 ∷ []

-- the same as a signed number: `to_z` and `of_z` are two's complement
abbrev pub int_of : List ℕ → ℤ
int_of s = to_z w32 (bits_of s)

abbrev pub int_bytes : ℤ → List ℕ
int_bytes z = bits_bytes (of_z w32 z)

-- the sum wraps at 32 bits: the remainder of the two's complement bits' sum, read as signed
abbrev pub wrap_add : ℤ → ℤ → ℤ
wrap_add a b = to_z w32 ((of_z w32 a + of_z w32 b) % 2 ^ 32)

-- low <= x <= high, signed
abbrev pub between : ℤ → ℤ → ℤ → Bool
between low x high = int_le low x && int_le x high

abbrev pub is_zero : ℤ → Bool
is_zero (pos zero) = true
is_zero (pos (suc n)) = false
is_zero (negsuc n) = false
