-- The test for 0, of a number and of its bits, which the code looks at.
use Rattle.std.proofs.Common.{◌≡◌, zero, suc, ◌^◌, ◌<◌, true, false, eqb, ℤ, pos, negsuc, refl, arith, w32, of_z, ne_eqb}
use mathlib.Core.Bool.{false≢true}
use lib.Signed.{mag}
use Rattle.base_number.specs.Number.{is_zero}

pub zero_of_test : (z : ℤ) → is_zero z ≡ true → z ≡ pos 0
zero_of_test (pos zero) e = refl
zero_of_test (pos (suc n)) e = absurd (false≢true e)
zero_of_test (negsuc n) e = absurd (false≢true e)

pub test_of_zero : (z : ℤ) → mag z < 2 ^ 31 → of_z w32 z ≡ 0 → is_zero z ≡ true
test_of_zero (pos zero) h e = refl
test_of_zero (pos (suc n)) h e = absurd (omega arith)
test_of_zero (negsuc n) h e = absurd (omega arith)

pub test_of_other : (z : ℤ) → (of_z w32 z ≡ 0 → ⊥) → is_zero z ≡ false
test_of_other (pos zero) f = absurd (f refl)
test_of_other (pos (suc n)) f = refl
test_of_other (negsuc n) f = refl

pub bits_tested : (z : ℤ) → mag z < 2 ^ 31 → eqb (of_z w32 z) 0 ≡ is_zero z
bits_tested (pos zero) h = refl
bits_tested (pos (suc n)) h = ne_eqb (suc n) 0 (λ e. omega arith)
bits_tested (negsuc n) h = ne_eqb (of_z w32 (negsuc n)) 0 (λ e. omega arith)
