-- A cursor: the number in its variable as the program reads it, and the variables once it has moved on.
-- Assumes nothing.
use mathlib.Core.Path.{◌≡◌, refl, ap, ◌∙◌}
use mathlib.Core.Bool.{true}
use mathlib.Core.List.{List}
use Prim.Native.Nat.{ℕ, ◌+◌, ◌<◌, ◌%◌, ◌^◌}
use native.Mathlib.Nat.{mod-lt}
use native.Mathlib.Omega.{arith}
use lib.Dec.{T}
use lib.ListN.{set}
use lib.IntN.{ℤ, pos, negsuc, nat_abs}
use lib.Signed.{non_neg, mag}
use mir.Syntax.{w32, w64}
use mir.Val.{to_z, of_z, Fits, SFits}
use mir.Facts.{to_z_pos}
use borrow.Author.Tests.{ltb-true}
use Rattle.base_lists.proofs.Build.{never}
use Rattle.run_effect.specs.Effect.{nat_of, cursor_at, moved_on, in_ways}
use Rattle.run_effect.proofs.Back.{back}

-- a number in the ways is not negative, and below them
pub in_ways_below : (z : ℤ) (ways : ℕ) → in_ways z ways ≡ true → nat_of z < ways
in_ways_below (pos n) ways h = ltb-true n ways h
in_ways_below (negsuc n) ways h = never h

in_ways_cast : (z : ℤ) (ways : ℕ) → in_ways z ways ≡ true → ways < 256 → T (non_neg z) × Fits w64 (nat_abs z)
in_ways_cast (pos n) ways h l = (tt, record { fits = omega (arith, ltb-true n ways h) })
in_ways_cast (negsuc n) ways h l = never h

in_ways_abs : (z : ℤ) (ways : ℕ) → in_ways z ways ≡ true → nat_abs z ≡ nat_of z
in_ways_abs (pos n) ways h = refl
in_ways_abs (negsuc n) ways h = never h

-- the same of a number that is read back from its bits
module _ (z : ℤ) (fits : mag z < 2 ^ 31) (ways : ℕ) (h : in_ways z ways ≡ true) where
  pub cursor_cast : ways < 256 → T (non_neg (to_z w32 (of_z w32 z))) × Fits w64 (nat_abs (to_z w32 (of_z w32 z)))
  cursor_cast l = rw (back z fits) (in_ways_cast z ways h l)

  pub cursor_is : nat_abs (to_z w32 (of_z w32 z)) ≡ nat_of z
  cursor_is = rw (back z fits) (in_ways_abs z ways h)

pub next_below : (n ways : ℕ) → n < ways → (n + 1) % ways < ways
next_below n ways h = let k : 0 < ways = omega arith in mod-lt (n + 1) k

pub rest_fits : (m ways : ℕ) → 0 < ways → ways < 256 → SFits w32 (pos (m % ways))
rest_fits m ways h l = record { sfits = omega (arith, mod-lt m h) }

pub moved_is : (c : ℕ) (vs : List ℤ) (ways n : ℕ) → n ≡ cursor_at c vs → n < ways → ways < 256 → set vs c (to_z w32 ((n + 1) % ways)) ≡ moved_on c ways vs
moved_is c vs ways n e h l =
    let t : to_z w32 ((n + 1) % ways) ≡ pos ((n + 1) % ways) = to_z_pos w32 (omega (arith, next_below n ways h)) in
    ap (set vs c) (t ∙ ap (λ (k : ℕ). pos ((k + 1) % ways)) e)
