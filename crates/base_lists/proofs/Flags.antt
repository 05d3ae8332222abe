-- Sets of small numbers kept as flags: a store adds a number, and a loop of stores adds a list.
-- Assumes nothing.
use mathlib.Core.Path.{◌≡◌, ap, ◌∙◌, fun_ext}
use mathlib.Core.Logic.{⊎_elim}
use mathlib.Core.Bool.{Bool, true, false, ◌||◌}
use mathlib.Core.List.{List}
use Prim.Native.Nat.{ℕ, ◌+◌, ◌<◌, ◌≤◌}
use native.Mathlib.Omega.{arith}
use lib.Dec.{eqb, ltb}
use lib.ListN.{length, set, replicate}
use lib.Seq.{get_or-set_same, get_or-set_other}
use borrow.Author.Tests.{eq-eqb, ne_eqb, lt-ltb, le-ltb}
use Rattle.base_lists.specs.Lists.{build, member, chain, has}
use Rattle.base_lists.proofs.Build.{order, same_or, build_snoc}
use Rattle.base_lists.proofs.Places.{same_at}
use Rattle.base_lists.proofs.Tests.{or_swap, member_snoc}
use Rattle.base_lists.proofs.Chains.{member_chain_snoc}

pub has_set : (s : List Bool) (q : ℕ) → q < length s → has (set s q true) ≡ (λ (k : ℕ). eqb k q || has s k)
has_set s q h =
    fun_ext
    (λ (k : ℕ).
    ⊎_elim (λ (e : k ≡ q). rw (eq-eqb k q e, e) (get_or-set_same s q true false h))
    (λ (ne : k ≡ q → ⊥). rw (ne_eqb k q ne) (get_or-set_other s q k true false ne))
    (same_or k q))

-- one store more of a loop that stores each g 0, g 1, ..
pub has_more : (s : List Bool) (d : ℕ → Bool) (i : ℕ) (g : ℕ → ℕ) → has s ≡ (λ (k : ℕ). member k (build i g) || d k) → g i < length s →
    has (set s (g i) true) ≡ (λ (k : ℕ). member k (build (i + 1) g) || d k)
has_more s d i g h l =
    has_set s (g i) l ∙ fun_ext (λ (k : ℕ). rw (build_snoc i g, member_snoc k (build i g) (g i))
    (ap (λ (e : ℕ → Bool). eqb k (g i) || e k) h ∙ or_swap (eqb k (g i)) (member k (build i g)) (d k)))

-- one turn more of a loop that adds the list of each element
pub has_chain_more : {A : Type 0} (r s : List Bool) (d : ℕ → Bool) (f : A → List ℕ) (i : ℕ) (g : ℕ → A) →
    has r ≡ (λ (k : ℕ). member k (f (g i)) || has s k) → has s ≡ (λ (k : ℕ). member k (chain f (build i g)) || d k) →
    has r ≡ (λ (k : ℕ). member k (chain f (build (i + 1) g)) || d k)
has_chain_more r s d f i g p q =
    p ∙ fun_ext (λ (k : ℕ). rw (member_chain_snoc k f i g)
    (ap (λ (e : ℕ → Bool). member k (f (g i)) || e k) q ∙ or_swap (member k (f (g i))) (member k (chain f (build i g))) (d k)))

-- the empty set
pub has_none : (n : ℕ) → has (replicate n false) ≡ (λ (k : ℕ). false)
has_none n = fun_ext (same_at n false)

-- the numbers below i + 1
below_more : (k i : ℕ) → (eqb k i || ltb k i) ≡ ltb k (i + 1)
below_more k i =
    ⊎_elim (λ (e : k ≡ i). rw (eq-eqb k i e, lt-ltb k (i + 1) (omega arith)))
    (λ (ne : k ≡ i → ⊥). rw (ne_eqb k i ne) (⊎_elim (λ (l : k < i). rw (lt-ltb k i l, lt-ltb k (i + 1) (omega arith)))
    (λ (l : i ≤ k). let m : i + 1 ≤ k = ⊎_elim (λ (u : i < k). omega arith) (λ (u : k ≤ i). absurd (ne (omega arith))) (order i k) in
    rw (le-ltb k i l, le-ltb k (i + 1) m))
    (order k i)))
    (same_or k i)

pub has_below_more : (s : List Bool) (i : ℕ) → has s ≡ (λ (k : ℕ). ltb k i) → i < length s → has (set s i true) ≡ (λ (k : ℕ). ltb k (i + 1))
has_below_more s i h l = has_set s i l ∙ fun_ext (λ (k : ℕ). ap (λ (e : ℕ → Bool). eqb k i || e k) h ∙ below_more k i)
