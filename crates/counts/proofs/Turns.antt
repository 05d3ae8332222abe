-- The definitions, one turn at a time: what is left at turn i of a loop, against what is left at turn i + 1.
-- Assumes nothing.
use mathlib.Core.Path.{◌≡◌, refl, ap, ◌∙◌, sym}
use mathlib.Core.Bool.{Bool, true, false, not, ◌&&◌, ◌||◌}
use mathlib.Core.List.{List, [], ◌∷◌, ◌++◌, map}
use Prim.Native.Nat.{ℕ, zero, suc, ◌+◌, ◌-◌, ◌/◌, ◌<◌}
use native.Mathlib.Numerals.{add-one}
use native.Mathlib.Omega.{arith}
use lib.ListN.{set}
use Rattle.base_lists.specs.Lists.{build, all, member, sum}
use Rattle.base_lists.proofs.Build.{build_snoc}
use Rattle.base_lists.proofs.Rest.{rest, rest_turn}
use Rattle.sheet_operator.specs.Op.{Op, names}
use Rattle.counts.specs.Calm.{calm_from}
use Rattle.counts.specs.Worst.{deal_worst, dealt, worst_op, worst_from}

-- the calm test: the operator names nothing that was named, or it does
module _ (n : ℕ) (g : ℕ → Op) (i : ℕ) (h : i < n) (d : ℕ → Bool) where
  calm_cons : calm_from d (rest n i g) ≡ (all (λ (v : ℕ). not (d v)) (names (g i)) && calm_from (λ (v : ℕ). member v (names (g i)) || d v) (rest n (i + 1) g))
  calm_cons = ap (calm_from d) (rest_turn n g i h)

  pub calm_turn : (e : ℕ → Bool) → e ≡ (λ (v : ℕ). member v (names (g i)) || d v) → all (λ (v : ℕ). not (d v)) (names (g i)) ≡ true →
      calm_from e (rest n (i + 1) g) ≡ calm_from d (rest n i g)
  calm_turn e f a =
      ap (λ (x : ℕ → Bool). calm_from x (rest n (i + 1) g)) f
      ∙ sym (calm_cons ∙ ap (λ (b : Bool). b && calm_from (λ (v : ℕ). member v (names (g i)) || d v) (rest n (i + 1) g)) a)

  pub calm_stop : all (λ (v : ℕ). not (d v)) (names (g i)) ≡ false → calm_from d (rest n i g) ≡ false
  calm_stop a = calm_cons ∙ ap (λ (b : Bool). b && calm_from (λ (v : ℕ). member v (names (g i)) || d v) (rest n (i + 1) g)) a

-- the counts after one operator more
pub worst_turn : (n : ℕ) (g : ℕ → Op) (i : ℕ) → i < n → (w : List ℕ) → worst_from (worst_op w (g i)) (rest n (i + 1) g) ≡ worst_from w (rest n i g)
worst_turn n g i h w = sym (ap (worst_from w) (rest_turn n g i h))

-- a deal's outputs
pub dealt_turn : (w : List ℕ) (n k j : ℕ) (g : ℕ → ℕ) → j < k →
    dealt (set w (g j) (deal_worst n k j)) n k (j + 1) (rest k (j + 1) g) ≡ dealt w n k j (rest k j g)
dealt_turn w n k j g h =
    ap (λ (m : ℕ). dealt (set w (g j) (deal_worst n k j)) n k m (rest k (j + 1) g)) (add-one j) ∙ sym (ap (dealt w n k j) (rest_turn k g j h))

-- a deal's count as the code has it
pub deal_worst_at : (n k j : ℕ) → (k ≡ 0 → ⊥) → (n + (k - 1)) / k ≡ deal_worst n k j
deal_worst_at n zero j h = absurd (h refl)
deal_worst_at n (suc k) j h = let e : suc k - 1 ≡ k = omega arith in ap (λ (m : ℕ). (n + m) / suc k) e

-- a gather's sum
sum_last : (f : ℕ → ℕ) (l : List ℕ) (x : ℕ) → sum (map f (l ++ (x ∷ []))) ≡ sum (map f l) + f x
sum_last f [] x = omega arith
sum_last f (y ∷ l) x = omega (arith, sum_last f l x)

pub sum_turn : (f : ℕ → ℕ) (i : ℕ) (g : ℕ → ℕ) → sum (map f (build (i + 1) g)) ≡ sum (map f (build i g)) + f (g i)
sum_turn f i g = rw (build_snoc i g) (sum_last f (build i g) (g i))
