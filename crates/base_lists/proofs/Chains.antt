-- Laws of `chain`: over `++`, of one element more, and tests of its members.
-- Assumes nothing.
use mathlib.Core.Path.{◌≡◌, refl, ◌∙◌, sym}
use mathlib.Core.Bool.{Bool, true, ◌||◌, or-false}
use mathlib.Core.List.{List, [], ◌∷◌, ◌++◌, append_assoc, append-nil}
use Prim.Native.Nat.{ℕ, ◌+◌, ◌<◌}
use Rattle.base_lists.specs.Lists.{build, all, member, chain}
use Rattle.base_lists.proofs.Build.{build_snoc}
use Rattle.base_lists.proofs.Tests.{any_append, member_chain, all_chain, all_build}

module _ {A B : Type 0} where
  pub chain_append : (f : A → List B) (l m : List A) → chain f (l ++ m) ≡ chain f l ++ chain f m
  chain_append f [] m = refl
  chain_append f (x ∷ l) m = rw (chain_append f l m) (sym (append_assoc (f x) (chain f l) (chain f m)))

  pub chain_snoc : (f : A → List B) (i : ℕ) (g : ℕ → A) → chain f (build (i + 1) g) ≡ chain f (build i g) ++ f (g i)
  chain_snoc f i g = rw (build_snoc i g, chain_append, append-nil)

-- the lists of one element more
pub member_chain_snoc : {A : Type 0} (k : ℕ) (f : A → List ℕ) (i : ℕ) (g : ℕ → A) →
    member k (chain f (build (i + 1) g)) ≡ (member k (chain f (build i g)) || member k (f (g i)))
member_chain_snoc {A} k f i g =
    member_chain k f (build (i + 1) g)
    ∙ rw (build_snoc i g, any_append (λ (x : A). member k (f x)) (build i g) (g i ∷ []), ← member_chain k f (build i g), or-false)

-- what the lists of all elements pass, the list of each does
pub all_chain_at : {A : Type 0} (t : ℕ → Bool) (f : A → List ℕ) (n : ℕ) (g : ℕ → A) → all t (chain f (build n g)) ≡ true → (i : ℕ) → i < n →
    all t (f (g i)) ≡ true
all_chain_at {A} t f n g h i l = all_build (λ (x : A). all t (f x)) n g (sym (all_chain t f (build n g)) ∙ h) i l
