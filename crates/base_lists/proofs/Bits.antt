-- A test counted as 0 or 1: its bounds, and what the count says of the test.
-- Assumes nothing.
use mathlib.Core.Path.{◌≡◌, refl}
use mathlib.Core.Bool.{Bool, true, false, ◌||◌}
use Prim.Native.Nat.{◌+◌, ◌≤◌}
use native.Mathlib.Omega.{arith}
use Rattle.base_lists.specs.Lists.{bit}
use Rattle.base_lists.proofs.Build.{never}

pub bit_le : (b : Bool) → bit b ≤ 1
bit_le true = omega arith
bit_le false = omega arith

pub bit_false : (b : Bool) → bit b ≡ 0 → b ≡ false
bit_false true h = absurd (omega arith)
bit_false false h = refl

-- a test passed is a count of one or more, and the other way
pub bit_one : (b : Bool) → b ≡ true → 1 ≤ bit b
bit_one true h = omega arith
bit_one false h = never h

pub one_bit : (b : Bool) → 1 ≤ bit b → b ≡ true
one_bit true h = refl
one_bit false h = absurd (omega arith)

pub bit_or : (a b : Bool) → bit (a || b) ≤ bit a + bit b
bit_or true b = omega arith
bit_or false b = omega arith
