-- A rule of a table, proved at all of its entries by one test that antt computes, whatever its entries are.
use mathlib.Core.Path.{◌≡◌}
use mathlib.Core.Bool.{Bool, true, ◌&&◌, and-eq-true_iff}
use mathlib.Core.List.{List, [], ◌∷◌}
use Prim.Native.Nat.{ℕ, zero, suc, ◌<◌}
use native.Mathlib.Nat.{le_of_suc-le-suc, not-suc-le-zero}
use lib.ListN.{length, get_or}

-- the test f passes at each entry of the list and its place
abbrev pub every : {A : Type 0} → (ℕ → A → Bool) → List A → Bool
every f [] = true
every f (x ∷ l) = f 0 x && every (λ (k : ℕ). f (suc k)) l

pub every_at : {A : Type 0} (f : ℕ → A → Bool) (d : A) (l : List A) → every f l ≡ true → (k : ℕ) → k < length l → f k (get_or l k d) ≡ true
every_at f d [] e k h = absurd (not-suc-le-zero h)
every_at f d (x ∷ l) e zero h = ((and-eq-true_iff (f 0 x) (every (λ (i : ℕ). f (suc i)) l)).0 e).0
every_at f d (x ∷ l) e (suc k) h =
    every_at (λ (i : ℕ). f (suc i)) d l ((and-eq-true_iff (f 0 x) (every (λ (i : ℕ). f (suc i)) l)).0 e).1 k (le_of_suc-le-suc h)
