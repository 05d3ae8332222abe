-- Queue by queue: a take, puts and the test for room on the product's list of queues are the theory's on a function from queue numbers.
-- Assumes nothing.
use mathlib.Core.Path.{◌≡◌, refl, ap, ◌∙◌, subst}
use mathlib.Core.Option.{Option, some}
use mathlib.Core.Bool.{Bool, true, false, not, ◌&&◌}
use mathlib.Core.List.{List, [], ◌∷◌, ◌++◌, map-append}
use mathlib.Core.Logic.{⊎_elim}
use Prim.Native.Nat.{ℕ, zero, suc, ◌≤◌, ◌<◌}
use native.Mathlib.Omega.{arith}
use lib.Dec.{eqb, ltb, leb}
use lib.ListN.{length, get_or, set, length-map, length-set}
use lib.Seq.{get_or-set_same, get_or-set_other}
use borrow.Author.Tests.{eq-eqb, ne_eqb, ltb-true, lt-ltb, le-ltb, leb-true, leb-false}
use Rattle.base_lists.specs.Lists.{all, member, times}
use Rattle.base_lists.proofs.Build.{same_or, order}
use Rattle.base_lists.proofs.Tests.{both, all_member}
use Rattle.base_lists.proofs.Times.{once_first}
use Rattle.base_lists.proofs.Members.{some_member, no_member}
use Rattle.run_store.specs.declared.Item.{Item}
use Rattle.base_bounds.specs.Bounds.{ROOM}
use Rattle.run_machine.specs.Machine.{full, put_all}
use Rattle.run_machine.proofs.Keeps.{puts_other}
use Rattle.order_theory.proofs.Model.{push, pop, fits, room}
use Rattle.order_theory.proofs.Trace.{mark}
use Rattle.order.proofs.Model.{TItem, item_as, items_as}

-- ---- a take

pub take_as : (qs : List (List Item)) (q : ℕ) (x : Item) (xs : List Item) (k : ℕ) → q < length qs → get_or qs q [] ≡ x ∷ xs →
    pop (eqb k q) (items_as (get_or qs k [])) ≡ items_as (get_or (set qs q xs) k [])
take_as qs q x xs k l e =
    ⊎_elim (λ (s : k ≡ q). rw (s, eq-eqb q q refl, e, get_or-set_same qs q xs [] l))
    (λ (n : k ≡ q → ⊥). rw (ne_eqb k q n, get_or-set_other qs q k xs [] n))
    (same_or k q)

-- ---- puts

push_as : (xs : List Item) (x : Item) → items_as (xs ++ (x ∷ [])) ≡ items_as xs ++ (x.f ∷ [])
push_as xs x = map-append item_as xs (x ∷ [])

pub puts_at : (qs : List (List Item)) (to : List ℕ) (x : Item) (k : ℕ) → ((j : ℕ) → times j to ≤ 1) →
    all (λ (q : ℕ). ltb q (length qs)) to ≡ true →
    items_as (get_or (put_all qs to x) k []) ≡ push (mark (member k to) x.f) (items_as (get_or qs k []))
puts_at qs [] x k o b = refl
puts_at qs (q ∷ to) x k o b =
    let ys : List Item = get_or qs q [] ++ (x ∷ []) in
    let p = both (ltb q (length qs)) (all (λ (q : ℕ). ltb q (length qs)) to) b in
    ⊎_elim
    (λ (s : k ≡ q).
    rw (s, eq-eqb q q refl)
    (ap items_as (puts_other (set qs q ys) to x q (once_first q to o) ∙ get_or-set_same qs q ys [] (ltb-true q (length qs) p.0))
    ∙ push_as (get_or qs q []) x))
    (λ (n : k ≡ q → ⊥).
    rw (ne_eqb k q n)
    (puts_at (set qs q ys) to x k (λ j. omega (arith, o j)) (rw (length-set qs q ys) p.1)
    ∙ ap (λ (l : List Item). push (mark (member k to) x.f) (items_as l)) (get_or-set_other qs q k ys [] n)))
    (same_or k q)

-- ---- room

module _ (bound : ℕ) (put : ℕ → Option TItem) (queue : ℕ → List TItem) where
  room_of_all : (n : ℕ) → ((k : ℕ) → k < n → fits bound (put k) (queue k) ≡ true) → room bound n put queue ≡ true
  unfolding room
  room_of_all zero h = refl
  room_of_all (suc n) h = rw (h n (omega arith)) (room_of_all n (λ k l. h k (omega arith)))

  no_room_of_one : (n k : ℕ) → k < n → fits bound (put k) (queue k) ≡ false → room bound n put queue ≡ false
  unfolding room
  no_room_of_one zero k l h = absurd (omega arith)
  no_room_of_one (suc n) k l h =
      ⊎_elim (λ (b : k < n). later (fits bound (put n) (queue n)) (no_room_of_one n k b h)) (λ (b : n ≤ k). here (omega arith)) (order k n)
    where
      later : (b : Bool) → room bound n put queue ≡ false → (b && room bound n put queue) ≡ false
      later true e = e
      later false e = refl

      here : k ≡ n → (fits bound (put n) (queue n) && room bound n put queue) ≡ false
      here e = rw (subst (λ (j : ℕ). fits bound (put j) (queue j) ≡ false) e h)

-- one queue
length_as : (xs : List Item) → length (items_as xs) ≡ length xs
length_as xs = length-map xs item_as

roomy_one : (xs : List Item) (y : TItem) → leb ROOM (length xs) ≡ false → fits ROOM (some y) (items_as xs) ≡ true
roomy_one xs y h = rw (length_as xs) (lt-ltb (length xs) ROOM (leb-false ROOM (length xs) h))

full_one : (xs : List Item) (y : TItem) → leb ROOM (length xs) ≡ true → fits ROOM (some y) (items_as xs) ≡ false
full_one xs y h = rw (length_as xs) (le-ltb (length xs) ROOM (leb-true ROOM (length xs) h))

pub room_as : (n : ℕ) (qs : List (List Item)) (to : List ℕ) (y : TItem) → all (λ (q : ℕ). ltb q n) to ≡ true →
    room ROOM n (λ (k : ℕ). mark (member k to) y) (λ (k : ℕ). items_as (get_or qs k [])) ≡ not (full qs to)
room_as n qs to y b = go (full qs to) refl
  where
    put : ℕ → Option TItem
    put k = mark (member k to) y

    queue : ℕ → List TItem
    queue k = items_as (get_or qs k [])

    fit : full qs to ≡ false → (k : ℕ) (m : Bool) → member k to ≡ m → fits ROOM (mark m y) (items_as (get_or qs k [])) ≡ true
    fit e k true m = roomy_one (get_or qs k []) y (no_member (λ (q : ℕ). leb ROOM (length (get_or qs q []))) to k e m)
    fit e k false m = refl

    go : (f : Bool) → full qs to ≡ f → room ROOM n put queue ≡ not f
    go true e =
        let r = some_member (λ (q : ℕ). leb ROOM (length (get_or qs q []))) to e in
        let l = ltb-true r.0 n (all_member (λ (q : ℕ). ltb q n) to b r.0 r.1.0) in
        no_room_of_one ROOM put queue n r.0 l (rw r.1.0 (full_one (get_or qs r.0 []) y r.1.1))
    go false e = room_of_all ROOM put queue n (λ k l. fit e k (member k to) refl)
