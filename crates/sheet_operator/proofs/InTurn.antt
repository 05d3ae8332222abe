-- A test that a loop makes at one place after the other.
-- Assumes nothing.
use mathlib.Core.Path.{◌≡◌, sym}
use mathlib.Core.Bool.{Bool, true}
use Prim.Native.Nat.{ℕ, ◌≤◌}
use native.Mathlib.Omega.{arith}
use Rattle.base_lists.specs.Lists.{build, all}

-- a test that passed at every place up to the last
pub all_end : {A : Type 0} (f : A → Bool) (n i : ℕ) (g : ℕ → A) → i ≤ n → n ≤ i → all f (build i g) ≡ true → true ≡ all f (build n g)
all_end f n i g p q h = let e : i ≡ n = omega arith in sym (rw e at h)
