-- Worst counts: what each kind puts, counted by what it takes.
-- Assumes nothing.
use mathlib.Core.Path.{◌≡◌, refl, ap, sym, ◌∙◌, subst}
use mathlib.Core.Bool.{Bool, true, false, cond, ◌||◌}
use mathlib.Core.Option.{Option, some, none}
use mathlib.Core.Logic.{inl}
use mathlib.Core.List.{List, [], ◌∷◌}
use Prim.Native.Nat.{ℕ, zero, suc, ◌+◌, ◌*◌, ◌-◌, ◌/◌, ◌≤◌, ◌<◌}
use native.Mathlib.Omega.{arith}
use native.Mathlib.Nat.{le-div_iff_mul-le, mul_comm, le_trans, div-mul-le_self}
use lib.ListN.{length, get_or}
use lib.Dec.{eqb}
use lib.IntN.{ℤ, pos}
use borrow.Author.Tests.{eqb-true, eqb-false, eq-eqb}
use Rattle.base_lists.specs.Lists.{member}
use Rattle.base_lists.proofs.Members.{member_at}
use Rattle.order_theory.proofs.Trace.{mark, cons?, tput, ttake}
use Rattle.order_theory.proofs.Steps.{Item, Step, runs, lout, line_op, line_put, line_take}
use Rattle.order_theory.proofs.Kahn.{sum, sum_zero, lt_of}
use Rattle.order_theory.proofs.Deal.{share_of, onward, onward_lt, share_le, Once, deal_op, gather_op, deal_put, deal_take, gather_put, gather_take}
use Rattle.order_theory.proofs.Equations.{Kind, line, latest, double, deal, gather, nought}
use Rattle.order_theory.proofs.Denote.{denote, takes_from, Good, latest_op, double_op, double_take, double_put, way_of}

unfoldable pub WEq : Kind → (ℕ → ℕ) → Type 0
WEq (line p o ss) W = W o ≡ W p
WEq (latest p k f) W = Unit
WEq (double p o o') W = (W o ≡ W p) × (W o' ≡ W p)
WEq (deal c p os) W = (j : ℕ) → j < length os → (W p + (length os - 1 - j)) / length os ≤ W (get_or os j 0)
WEq (gather c o is) W = W o ≡ sum (length is) (λ j. W (get_or is j 0))

pub sum_below : (n : ℕ) (f g : ℕ → ℕ) → ((k : ℕ) → k < n → f k ≤ g k) → sum n f ≤ sum n g
unfolding sum
sum_below zero f g h = omega arith
sum_below (suc n) f g h = omega (arith, h n (omega arith), sum_below n f g (λ k l. h k (omega arith)))

sum_same : (n p : ℕ) (f g : ℕ → ℕ) → n ≤ p → ((k : ℕ) → eqb k p ≡ false → g k ≡ f k) → sum n g ≡ sum n f
unfolding sum
sum_same zero p f g h e = refl
sum_same (suc n) p f g h e = rw (e n (ne (eqb n p) refl)) (ap (λ (m : ℕ). f n + m) (sum_same n p f g (omega arith) e))
  where
    ne : (b : Bool) → eqb n p ≡ b → b ≡ false
    ne true t = absurd (omega (arith, eqb-true n p t))
    ne false t = refl

sum_one : (n p : ℕ) (f g : ℕ → ℕ) → p < n → ((k : ℕ) → eqb k p ≡ false → g k ≡ f k) → g p ≡ suc (f p) → sum n g ≡ suc (sum n f)
unfolding sum
sum_one zero p f g h e s = absurd (omega arith)
sum_one (suc n) p f g h e s = go (eqb n p) refl (λ l. sum_one n p f g l e s)
  where
    go : (b : Bool) → eqb n p ≡ b → (p < n → sum n g ≡ suc (sum n f)) → g n + sum n g ≡ suc (f n + sum n f)
    go true t ih = let m = eqb-true n p t in let l : g n ≡ suc (f n) = rw m s in omega (arith, sum_same n p f g (omega arith) e)
    go false t ih = omega (arith, e n t, ih (lt_of n p h (eqb-false n p t)))

sum_share : {A : Type 0} (k c : ℕ) (xs : List A) → c < k → sum k (λ j. length (share_of k j c xs)) ≡ length xs
unfolding share_of
sum_share k c [] h = sym (sum_zero k)
sum_share k c (x ∷ xs) h =
    sum_one k c (λ j. length (share_of k j (onward k c) xs)) (λ j. length (cons? (mark (eqb j c) x) (share_of k j (onward k c) xs))) h
    (λ j e. rw e) (rw (eq-eqb c c refl))
    ∙ ap suc (sum_share k (onward k c) xs (onward_lt k c h))

lout_le : (ss : List Step) (v : ℕ → ℤ) (xs : List Item) → length (lout ss v xs) ≤ length xs
unfolding lout
lout_le ss v [] = omega arith
lout_le ss v (x ∷ xs) = go (runs ss x v).0 (lout_le ss (runs ss x v).1 xs)
  where
    go : (o : Option Item) → length (lout ss (runs ss x v).1 xs) ≤ length xs
        → length (cons? o (lout ss (runs ss x v).1 xs)) ≤ suc (length xs)
    go none h = omega arith
    go (some y) h = omega arith

latest_put : (p k f q : ℕ) (v : ℕ → ℤ) (xs : List Item) → tput (latest_op p k f) v q xs ≡ []
unfolding latest_op tput
latest_put p k f q v [] = refl
latest_put p k f q v (x ∷ xs) = latest_put p k f q (λ i. cond (eqb i k) (get_or x f (pos 0)) (v i)) xs

-- n items dealt k ways leave at most (n + k - 1 - j) / k on way j
way_le : (k j n L : ℕ) → 0 < k → j < k → k * L + j < n + k → L ≤ (n + (k - 1 - j)) / k
way_le k j n L hk hj h = (le-div_iff_mul-le hk).1 (omega (arith, mul_comm L k))

module _ (W : ℕ → ℕ) (xs : List Item) where
  deal_grows : (c p : ℕ) (os : List ℕ) → 0 < length os → Once os
      → ((j : ℕ) → j < length os → (W p + (length os - 1 - j)) / length os ≤ W (get_or os j 0))
      → length xs ≤ W p → (j : ℕ) → j < length os → length (tput (deal_op c p os) nought (get_or os j 0) xs) ≤ W (get_or os j 0)
  deal_grows c p os h0 u w k j hj =
      rw (deal_put c p os u j hj 0 nought xs refl h0)
      (le_trans (way_le (length os) j (W p) (length (share_of (length os) j 0 xs)) h0 hj
      (omega (arith, share_le (length os) j 0 j xs hj h0 hj (inl (omega arith))))) (w j hj))

  gather_grows : (c o : ℕ) (is : List ℕ) → 0 < length is → Once is → W o ≡ sum (length is) (λ j. W (get_or is j 0))
      → ((p : ℕ) → member p is ≡ true → length (ttake (gather_op c o is) nought p xs) ≤ W p) → length xs ≤ W o
  gather_grows c o is h0 u w t =
      rw (w, ← (sum_share (length is) 0 xs h0))
      (sum_below (length is) (λ j. length (share_of (length is) j 0 xs)) (λ j. W (get_or is j 0))
      (λ j hj. rw (gather_take c o is u j hj 0 nought xs refl h0) at (t (get_or is j 0) (member_at is j hj))))

  pub grows : (κ : Kind) → WEq κ W → Good κ → ((p : ℕ) → takes_from κ p ≡ true → length (ttake (denote κ) nought p xs) ≤ W p)
      → (q : ℕ) → (denote κ).outs q ≡ true → length (tput (denote κ) nought q xs) ≤ W q
  unfolding denote takes_from Good WEq line_op latest_op double_op deal_op gather_op
  grows (line p o ss) w g t q h =
      let k : length xs ≤ W p = rw line_take at (t p (eq-eqb p p refl)) in
      rw (eqb-true q o h, line_put p o ss nought xs, w) (omega (arith, lout_le ss nought xs))
  grows (latest p k f) w g t q h = rw (latest_put p k f q nought xs) (omega arith)
  grows (double p o o') w g t q h =
      let k : length xs ≤ W p = rw double_take at (t p (eq-eqb p p refl)) in
      rw (double_put p o o' q nought xs h) (go k (eqb q o) refl h)
    where
      go : length xs ≤ W p → (b : Bool) → eqb q o ≡ b → (b || eqb q o') ≡ true → length xs ≤ W q
      go k true e h = rw (eqb-true q o e, w.0) k
      go k false e h = rw (eqb-true q o' h, w.1) k
  grows (deal c p os) w g t q h =
      let k : length xs ≤ W p = rw deal_take at (t p (eq-eqb p p refl)) in
      let j = way_of os q h in
      subst (λ (r : ℕ). length (tput (deal_op c p os) nought r xs) ≤ W r) j.2 (deal_grows c p os g.0 g.1 w k j.0 j.1)
  grows (gather c o is) w g t q h = rw (eqb-true q o h, gather_put c o is nought xs) (gather_grows c o is g.0 g.1 w t)

-- n / k rounded up is no less than what way j of a deal gets
pub rounded_up : (n k j : ℕ) → 0 < k → j < k → (n + (k - 1 - j)) / k ≤ (n + (k - 1)) / k
rounded_up n k j hk hj = (le-div_iff_mul-le hk).1 (le_trans (div-mul-le_self (n + (k - 1 - j)) k) (omega arith))
