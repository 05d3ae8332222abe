-- Laws of `fresh`: over `++`, to a smaller set, and the two ends of a loop's turn that tests the elements one by one.
-- Assumes nothing.
use mathlib.Core.Path.{◌≡◌, refl, ap, ◌∙◌, sym, fun_ext}
use mathlib.Core.Bool.{Bool, true, false, not, ◌&&◌, ◌||◌, and_assoc, and-false}
use mathlib.Core.List.{List, [], ◌∷◌, ◌++◌}
use Prim.Native.Nat.{ℕ, suc, ◌+◌, ◌-◌, ◌<◌}
use native.Mathlib.Nat.{add-zero}
use native.Mathlib.Omega.{arith}
use lib.Dec.{eqb}
use borrow.Author.Tests.{not-true}
use Rattle.base_lists.specs.Lists.{build, member, fresh}
use Rattle.base_lists.proofs.Build.{never, build_add, build_snoc}
use Rattle.base_lists.proofs.Tests.{both, both_of, or_swap}

pub fresh_append : (d : ℕ → Bool) (l m : List ℕ) → fresh d (l ++ m) ≡ (fresh d l && fresh (λ (k : ℕ). member k l || d k) m)
fresh_append d [] m = refl
fresh_append d (x ∷ l) m =
    let known : ℕ → Bool = λ (k : ℕ). eqb k x || d k in
    rw (fresh_append known l m, ← and_assoc (not (d x)) (fresh known l) (fresh (λ (k : ℕ). member k l || known k) m))
    (ap (λ (e : ℕ → Bool). not (d x) && fresh known l && fresh e m) (fun_ext (λ (k : ℕ). or_swap (member k l) (eqb k x) (d k))))

-- a loop that returns false at the first element that is known or was there: one turn more, and the return
pub fresh_more : (d : ℕ → Bool) (i : ℕ) (g : ℕ → ℕ) → fresh d (build i g) ≡ true → (member (g i) (build i g) || d (g i)) ≡ false →
    fresh d (build (i + 1) g) ≡ true
fresh_more d i g h n = rw (build_snoc i g, fresh_append d (build i g) (g i ∷ []), h, n)

pub fresh_stop : (d : ℕ → Bool) (n i : ℕ) (g : ℕ → ℕ) → i < n → (member (g i) (build i g) || d (g i)) ≡ true → fresh d (build n g) ≡ false
fresh_stop d n i g l h =
    let e : n ≡ i + suc (n - (i + 1)) = omega arith in
    rw (e, build_add i (suc (n - (i + 1))) g, fresh_append d (build i g), add-zero, h, and-false)

-- what is fresh to a set is fresh to any smaller one
pub fresh_fewer : (d e : ℕ → Bool) (l : List ℕ) → ((k : ℕ) → e k ≡ true → d k ≡ true) → fresh d l ≡ true → fresh e l ≡ true
fresh_fewer d e [] h f = refl
fresh_fewer d e (k ∷ l) h f =
    let p = both (not (d k)) (fresh (λ (x : ℕ). eqb x k || d x) l) f in
    both_of (not (e k)) _ (fewer (d k) (e k) (h k) p.0)
    (fresh_fewer (λ (x : ℕ). eqb x k || d x) (λ (x : ℕ). eqb x k || e x) l (λ x. more (eqb x k) (d x) (e x) (h x)) p.1)
  where
    fewer : (d e : Bool) → (e ≡ true → d ≡ true) → not d ≡ true → not e ≡ true
    fewer d true h n = never (sym (not-true d n) ∙ h refl)
    fewer d false h n = refl

    more : (b c g : Bool) → (g ≡ true → c ≡ true) → (b || g) ≡ true → (b || c) ≡ true
    more true c g i j = refl
    more false c g i j = i j
