-- An element by its place: whatever stands past the end, in a list of one element alone, and under `map`.
-- Assumes nothing.
use mathlib.Core.Path.{◌≡◌, refl, ap}
use mathlib.Core.List.{List, [], ◌∷◌, map}
use Prim.Native.Nat.{ℕ, zero, suc, ◌-◌, ◌<◌, ◌≤◌}
use native.Mathlib.Omega.{arith}
use lib.ListN.{length, get_or, set, take, drop, replicate}

module _ {A : Type 0} where
  -- below the length the default is never read
  pub get_d_any : (l : List A) (k : ℕ) (d e : A) → k < length l → get_or l k d ≡ get_or l k e
  get_d_any [] k d e h = absurd (omega arith)
  get_d_any (x ∷ l) zero d e h = refl
  get_d_any (x ∷ l) (suc k) d e h = get_d_any l k d e (omega arith)

  pub get_or_next : (x : A) (l : List A) (r i : ℕ) (d : A) → suc i ≤ r → get_or (x ∷ l) (r - i) d ≡ get_or l (r - suc i) d
  get_or_next x l r i d h = let e : r - i ≡ suc (r - suc i) = omega arith in ap (λ (k : ℕ). get_or (x ∷ l) k d) e

  -- every place of a list of one element, also past its end
  pub same_at : (n : ℕ) (d : A) (k : ℕ) → get_or (replicate n d) k d ≡ d
  same_at zero d k = refl
  same_at (suc n) d zero = refl
  same_at (suc n) d (suc k) = same_at n d k

module _ {A B : Type 0} (f : A → B) where
  pub map_take : (i : ℕ) (l : List A) → map f (take i l) ≡ take i (map f l)
  map_take zero l = refl
  map_take (suc i) [] = refl
  map_take (suc i) (x ∷ l) = ap (λ (r : List B). f x ∷ r) (map_take i l)

  pub map_drop : (i : ℕ) (l : List A) → map f (drop i l) ≡ drop i (map f l)
  map_drop zero l = refl
  map_drop (suc i) [] = refl
  map_drop (suc i) (x ∷ l) = map_drop i l

  pub map_set : (l : List A) (i : ℕ) (x : A) → map f (set l i x) ≡ set (map f l) i (f x)
  map_set [] i x = refl
  map_set (y ∷ l) zero x = refl
  map_set (y ∷ l) (suc i) x = ap (λ (r : List B). f y ∷ r) (map_set l i x)
