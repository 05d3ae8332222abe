-- Round-robin: what a deal gives each way, which is also what a gather has taken from each way.
-- Assumes nothing.
use mathlib.Core.Path.{◌≡◌, refl, ap}
use mathlib.Core.Bool.{Bool, true, false, cond}
use mathlib.Core.Option.{some, none}
use mathlib.Core.Logic.{◌⊎◌, inl, inr, ◌≢◌}
use mathlib.Core.List.{List, [], ◌∷◌, map}
use Prim.Native.Nat.{ℕ, zero, suc, ◌+◌, ◌*◌, ◌-◌, ◌<◌}
use native.Mathlib.Omega.{arith}
use native.Mathlib.Nat.{mul-zero}
use lib.ListN.{length, get_or}
use lib.Dec.{eqb}
use lib.IntN.{ℤ, pos}
use borrow.Author.Tests.{eqb-true, eqb-false, eq-eqb}
use Rattle.base_lists.specs.Lists.{member}
use Rattle.base_lists.proofs.Places.{get_d_any}
use Rattle.base_lists.proofs.Members.{member_at}
use Rattle.run_effect.specs.Effect.{nat_of}
use Rattle.order_theory.proofs.Model.{Op, Local}
use Rattle.order_theory.proofs.Trace.{mark, cons?, tv, tput, ttake}
use Rattle.order_theory.proofs.Steps.{Item, upd}

abbrev pub onward : ℕ → ℕ → ℕ
onward k c = cond (eqb (suc c) k) 0 (suc c)

-- what way j gets of a list that is dealt k ways from cursor c on, and where the cursor then is
module _ {A : Type 0} where
  unfoldable pub share_of : ℕ → ℕ → ℕ → List A → List A
  share_of k j c [] = []
  share_of k j c (x ∷ xs) = cons? (mark (eqb j c) x) (share_of k j (onward k c) xs)

  unfoldable pub turn : ℕ → ℕ → List A → ℕ
  turn k c [] = c
  turn k c (x ∷ xs) = turn k (onward k c) xs

-- the key of split: what is dealt of a mapped list is what is dealt, mapped
module _ {A B : Type 0} (f : A → B) where
  pub share_map : (k j c : ℕ) (xs : List A) → share_of k j c (map f xs) ≡ map f (share_of k j c xs)
  unfolding share_of
  share_map k j c [] = refl
  share_map k j c (x ∷ xs) = go (eqb j c) (share_map k j (onward k c) xs)
    where
      go : (b : Bool) → share_of k j (onward k c) (map f xs) ≡ map f (share_of k j (onward k c) xs)
          → cons? (mark b (f x)) (share_of k j (onward k c) (map f xs)) ≡ map f (cons? (mark b x) (share_of k j (onward k c) xs))
      go true ih = ap (λ (l : List B). f x ∷ l) ih
      go false ih = ih

  pub turn_map : (k c : ℕ) (xs : List A) → turn k c (map f xs) ≡ turn k c xs
  unfolding turn
  turn_map k c [] = refl
  turn_map k c (x ∷ xs) = turn_map k (onward k c) xs

pub onward_lt : (k c : ℕ) → c < k → onward k c < k
onward_lt k c h = go (eqb (suc c) k) refl
  where
    go : (b : Bool) → eqb (suc c) k ≡ b → cond b 0 (suc c) < k
    go true e = omega arith
    go false e = let n : suc c ≢ k = eqb-false (suc c) k e in omega arith

-- at most n / k rounded up of n items to each way; more sharply, by how far the way is from the cursor
abbrev pub Far : ℕ → ℕ → ℕ → ℕ → Type 0
Far k j c d = (c + d ≡ j) ⊎ (c + d ≡ j + k)

far_here : (k j c : ℕ) → j < k → j ≡ c → Far k j (onward k c) (k - 1)
far_here k j c hj e = go (eqb (suc c) k) refl
  where
    go : (b : Bool) → eqb (suc c) k ≡ b → Far k j (cond b 0 (suc c)) (k - 1)
    go true h = let l = eqb-true (suc c) k h in inl (omega arith)
    go false h = inr (omega arith)

far_on : (k j c d : ℕ) → j < k → c < k → Far k j c (suc d) → Far k j (onward k c) d
far_on k j c d hj hc f = go (eqb (suc c) k) refl f
  where
    go : (b : Bool) → eqb (suc c) k ≡ b → Far k j c (suc d) → Far k j (cond b 0 (suc c)) d
    go true h (inl e) = let l = eqb-true (suc c) k h in inl (absurd (omega arith))
    go true h (inr e) = let l = eqb-true (suc c) k h in inl (omega arith)
    go false h (inl e) = inl (omega arith)
    go false h (inr e) = inr (omega arith)

far_zero : (k j c : ℕ) → c < k → Far k j c 0 → j ≡ c
far_zero k j c hc (inl e) = omega arith
far_zero k j c hc (inr e) = absurd (omega arith)

far_same : (k j d : ℕ) → d < k → Far k j j d → d ≡ 0
far_same k j d h (inl e) = omega arith
far_same k j d h (inr e) = absurd (omega arith)

module _ {A : Type 0} where
  pub share_le : (k j c d : ℕ) (xs : List A) → j < k → c < k → d < k → Far k j c d → k * length (share_of k j c xs) + d < length xs + k
  unfolding share_of
  share_le k j c d [] hj hc hd f = omega (arith, mul-zero k)
  share_le k j c d (x ∷ xs) hj hc hd f = go (eqb j c) refl d hd f (λ d hd f. share_le k j (onward k c) d xs hj (onward_lt k c hc) hd f)
    where
      L : ℕ
      L = length (share_of k j (onward k c) xs)

      go : (b : Bool) → eqb j c ≡ b → (d : ℕ) → d < k → Far k j c d → ((d : ℕ) → d < k → Far k j (onward k c) d → k * L + d < length xs + k)
          → k * length (cons? (mark b x) (share_of k j (onward k c) xs)) + d < suc (length xs) + k
      go true e d hd f ih =
          let m = eqb-true j c e in
          let z : d ≡ 0 = far_same k j d hd (rw (← m) at f) in
          let h = ih (k - 1) (omega arith) (far_here k j c hj m) in
          omega arith
      go false e zero hd f ih = absurd (eqb-false j c e (far_zero k j c hc f))
      go false e (suc d) hd f ih = let h = ih d (omega arith) (far_on k j c d hj hc f) in omega arith

-- deal and gather as operators
unfoldable pub deal_op : ℕ → ℕ → List ℕ → Op Item ℤ
deal_op c p os = record {
  outs = λ q. member q os;
  own = λ i. eqb i c;
  sel = λ v. p;
  puts = λ x v q. cond (member q os) (mark (eqb q (get_or os (nat_of (v c)) 0)) x) none;
  next = λ x v. upd c (pos (onward (length os) (nat_of (v c)))) v;
}

unfoldable pub gather_op : ℕ → ℕ → List ℕ → Op Item ℤ
gather_op c o is = record {
  outs = λ q. eqb q o;
  own = λ i. eqb i c;
  sel = λ v. get_or is (nat_of (v c)) (get_or is 0 0);
  puts = λ x v q. cond (eqb q o) (some x) none;
  next = λ x v. upd c (pos (onward (length is) (nat_of (v c)))) v;
}

pub deal_local : (c p : ℕ) (os : List ℕ) → Local Item ℤ (deal_op c p os)
unfolding deal_op
deal_local c p os = record {
  sel_local = λ v w h. refl;
  puts_local = λ x v w h q. rw (h c (eq-eqb c c refl));
  puts_out = λ x v q e. rw e;
  next_local = λ x v w h i e. rw (h c (eq-eqb c c refl), h i e);
  next_frame = λ x v i e. rw e;
}

pub gather_local : (c o : ℕ) (is : List ℕ) → Local Item ℤ (gather_op c o is)
unfolding gather_op
gather_local c o is = record {
  sel_local = λ v w h. rw (h c (eq-eqb c c refl));
  puts_local = λ x v w h q. refl;
  puts_out = λ x v q e. rw e;
  next_local = λ x v w h i e. rw (h c (eq-eqb c c refl), h i e);
  next_frame = λ x v i e. rw e;
}

-- queues that are each named once
abbrev pub Once : List ℕ → Type 0
Once qs = (i j : ℕ) → i < length qs → j < length qs → get_or qs i 0 ≡ get_or qs j 0 → i ≡ j

once_eqb : (qs : List ℕ) → Once qs → (i j : ℕ) → i < length qs → j < length qs → eqb (get_or qs i 0) (get_or qs j 0) ≡ eqb i j
once_eqb qs u i j hi hj = go (eqb i j) refl
  where
    go : (b : Bool) → eqb i j ≡ b → eqb (get_or qs i 0) (get_or qs j 0) ≡ b
    go true e = eq-eqb (get_or qs i 0) (get_or qs j 0) (ap (λ (k : ℕ). get_or qs k 0) (eqb-true i j e))
    go false e = ne (eqb (get_or qs i 0) (get_or qs j 0)) refl
      where
        ne : (b : Bool) → eqb (get_or qs i 0) (get_or qs j 0) ≡ b → b ≡ false
        ne true h = absurd (eqb-false i j e (u i j hi hj (eqb-true (get_or qs i 0) (get_or qs j 0) h)))
        ne false h = refl

-- a deal puts on way j what is dealt to it
pub deal_put : (c p : ℕ) (os : List ℕ) → Once os → (j : ℕ) → j < length os → (k : ℕ) (v : ℕ → ℤ) (xs : List Item) → v c ≡ pos k
    → k < length os
    → tput (deal_op c p os) v (get_or os j 0) xs ≡ share_of (length os) j k xs
unfolding deal_op tput share_of
deal_put c p os u j hj k v [] e hk = refl
deal_put c p os u j hj k v (x ∷ xs) e hk =
    let ih = deal_put c p os u j hj (onward (length os) k) (upd c (pos (onward (length os) (nat_of (v c)))) v) xs
    (rw (eq-eqb c c refl, e)) (onward_lt (length os) k hk) in
    rw (member_at os j hj, e, once_eqb os u j k hj hk) (ap (cons? (mark (eqb j k) x)) (rw e at ih))

-- a gather has taken from way j what would be dealt to it of all that it put
pub gather_take : (c o : ℕ) (is : List ℕ) → Once is → (j : ℕ) → j < length is → (k : ℕ) (v : ℕ → ℤ) (xs : List Item) → v c ≡ pos k
    → k < length is
    → ttake (gather_op c o is) v (get_or is j 0) xs ≡ share_of (length is) j k xs
unfolding gather_op ttake share_of
gather_take c o is u j hj k v [] e hk = refl
gather_take c o is u j hj k v (x ∷ xs) e hk =
    let ih = gather_take c o is u j hj (onward (length is) k) (upd c (pos (onward (length is) (nat_of (v c)))) v) xs
    (rw (eq-eqb c c refl, e)) (onward_lt (length is) k hk) in
    rw (e, get_d_any is k (get_or is 0 0) 0 hk, once_eqb is u j k hj hk) (ap (cons? (mark (eqb j k) x)) (rw e at ih))

pub deal_take : (c p : ℕ) (os : List ℕ) (v : ℕ → ℤ) (xs : List Item) → ttake (deal_op c p os) v p xs ≡ xs
unfolding deal_op ttake
deal_take c p os v [] = refl
deal_take c p os v (x ∷ xs) =
    rw (eq-eqb p p refl) (ap (λ (l : List Item). x ∷ l) (deal_take c p os (upd c (pos (onward (length os) (nat_of (v c)))) v) xs))

pub gather_put : (c o : ℕ) (is : List ℕ) (v : ℕ → ℤ) (xs : List Item) → tput (gather_op c o is) v o xs ≡ xs
unfolding gather_op tput
gather_put c o is v [] = refl
gather_put c o is v (x ∷ xs) =
    rw (eq-eqb o o refl) (ap (λ (l : List Item). x ∷ l) (gather_put c o is (upd c (pos (onward (length is) (nat_of (v c)))) v) xs))

pub deal_turn : (c p : ℕ) (os : List ℕ) (k : ℕ) (v : ℕ → ℤ) (xs : List Item) → v c ≡ pos k
    → tv (deal_op c p os) v xs c ≡ pos (turn (length os) k xs)
unfolding deal_op tv turn
deal_turn c p os k v [] e = e
deal_turn c p os k v (x ∷ xs) e =
    deal_turn c p os (onward (length os) k) (upd c (pos (onward (length os) (nat_of (v c)))) v) xs (rw (eq-eqb c c refl, e))

pub gather_turn : (c o : ℕ) (is : List ℕ) (k : ℕ) (v : ℕ → ℤ) (xs : List Item) → v c ≡ pos k
    → tv (gather_op c o is) v xs c ≡ pos (turn (length is) k xs)
unfolding gather_op tv turn
gather_turn c o is k v [] e = e
gather_turn c o is k v (x ∷ xs) e =
    gather_turn c o is (onward (length is) k) (upd c (pos (onward (length is) (nat_of (v c)))) v) xs (rw (eq-eqb c c refl, e))

pub turn_lt : {A : Type 0} (n k : ℕ) (xs : List A) → k < n → turn n k xs < n
unfolding turn
turn_lt n k [] h = h
turn_lt n k (x ∷ xs) h = turn_lt n (onward n k) xs (onward_lt n k h)
