-- What is left of a list at turn i of a loop over its n elements: one element, and the rest.
-- Assumes nothing.
use mathlib.Core.Path.{◌≡◌, ap, ◌∙◌}
use mathlib.Core.List.{List, [], ◌∷◌}
use Prim.Native.Nat.{ℕ, suc, ◌+◌, ◌-◌, ◌<◌, ◌≤◌}
use native.Mathlib.Nat.{add-zero, zero-add}
use native.Mathlib.Omega.{arith}
use Rattle.base_lists.specs.Lists.{build}
use Rattle.base_lists.proofs.Build.{build_ext}

-- the elements from i on
abbrev pub rest : {A : Type 0} → ℕ → ℕ → (ℕ → A) → List A
rest n i g = build (n - i) (λ (k : ℕ). g (i + k))

module _ {A : Type 0} (n : ℕ) (g : ℕ → A) where
  pub rest_all : rest n 0 g ≡ build n g
  rest_all = let e : n - 0 ≡ n = omega arith in rw e (build_ext n (λ (k : ℕ). g (0 + k)) g (λ k l. ap g (zero-add k)))

  pub rest_turn : (i : ℕ) → i < n → rest n i g ≡ g i ∷ rest n (i + 1) g
  rest_turn i h =
      let e : n - i ≡ suc (n - (i + 1)) = omega arith in
      ap (λ (m : ℕ). build m (λ (k : ℕ). g (i + k))) e
      ∙ rw add-zero (ap (λ (l : List A). g i ∷ l)
      (build_ext (n - (i + 1)) (λ (k : ℕ). g (i + suc k)) (λ (k : ℕ). g (i + 1 + k)) (λ k l. let d : i + suc k ≡ i + 1 + k = omega arith in ap g d)))

  pub rest_none : (i : ℕ) → n ≤ i → rest n i g ≡ []
  rest_none i h = let e : n - i ≡ 0 = omega arith in rw e
