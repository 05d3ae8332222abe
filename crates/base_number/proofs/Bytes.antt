-- Numbers and their little-endian bytes: reading gives back what was written, writing what was read.
use Rattle.std.proofs.Common.{◌≡◌, ℕ, ◌+◌, ◌*◌, ◌/◌, ◌%◌, ◌^◌, ◌<◌, ◌≤◌, List, [], ◌∷◌, ◌++◌, length, get_or, take, refl, arith}
use Rattle.base_number.specs.Number.{short_of, short_bytes, bits_of, bits_bytes}

-- two bytes
pub length_short_bytes : (n : ℕ) → length (short_bytes n) ≡ 2
unfolding short_bytes
length_short_bytes n = refl

pub short_of_bytes : (n : ℕ) → n < 65536 → (rest : List ℕ) → short_of (short_bytes n ++ rest) ≡ n
unfolding short_of short_bytes
short_of_bytes n h rest = omega arith

pub bytes_of_short : (s : List ℕ) → 2 ≤ length s → ((k : ℕ) → get_or s k 0 < 256) → short_bytes (short_of s) ≡ take 2 s
unfolding short_of short_bytes
bytes_of_short [] l h = absurd (omega arith)
bytes_of_short (a ∷ []) l h = absurd (omega arith)
bytes_of_short (a ∷ b ∷ s) l h =
    let x : a < 256 = h 0 in
    let e0 : (a + 256 * b) % 256 ≡ a = omega arith in
    let e1 : (a + 256 * b) / 256 ≡ b = omega arith in
    rw (e0, e1)

pub bits_of_bytes : (n : ℕ) → n < 2 ^ 32 → (rest : List ℕ) → bits_of (bits_bytes n ++ rest) ≡ n
unfolding bits_of bits_bytes
bits_of_bytes n h rest = omega arith

pub bits_below : (s : List ℕ) → ((k : ℕ) → get_or s k 0 < 256) → bits_of s < 2 ^ 32
unfolding bits_of
bits_below s h = omega (arith, h 0, h 1, h 2, h 3)

pub bytes_of_bits : (s : List ℕ) → 4 ≤ length s → ((k : ℕ) → get_or s k 0 < 256) → bits_bytes (bits_of s) ≡ take 4 s
unfolding bits_of bits_bytes
bytes_of_bits [] l h = absurd (omega arith)
bytes_of_bits (a ∷ []) l h = absurd (omega arith)
bytes_of_bits (a ∷ b ∷ []) l h = absurd (omega arith)
bytes_of_bits (a ∷ b ∷ c ∷ []) l h = absurd (omega arith)
bytes_of_bits (a ∷ b ∷ c ∷ d ∷ s) l h =
    let x : a < 256 = h 0 in
    let y : b < 256 = h 1 in
    let z : c < 256 = h 2 in
    let n = a + 256 * b + 65536 * c + 16777216 * d in
    let e0 : n % 256 ≡ a = omega arith in
    let q1 : n / 256 ≡ b + 256 * c + 65536 * d = omega arith in
    let q2 : n / 65536 ≡ c + 256 * d = omega arith in
    let e3 : n / 16777216 ≡ d = omega arith in
    let e1 : (b + 256 * c + 65536 * d) % 256 ≡ b = omega arith in
    let e2 : (c + 256 * d) % 256 ≡ c = omega arith in
    rw (e0, q1, e1, q2, e2, e3)
