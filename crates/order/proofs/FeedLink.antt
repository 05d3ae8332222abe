-- Feeds after a fresh start: with room for them all they are all accepted, and the theory's machine begins with the items given.
-- Assumes nothing.
use mathlib.Core.Path.{◌≡◌, refl, sym, ap, ◌∙◌, subst, fun_ext}
use mathlib.Core.Bool.{Bool, true, false, cond}
use mathlib.Core.List.{List, [], ◌∷◌, ◌++◌, append_assoc, append-nil}
use Prim.Native.Nat.{ℕ, ◌+◌, ◌≤◌, ◌<◌}
use native.Mathlib.Omega.{arith}
use lib.Dec.{eqb, ltb}
use lib.ListN.{length, get_or, length-set, length-append}
use lib.Seq.{get_or-set_same, get_or-set_other}
use lib.IntN.{ℤ, pos}
use borrow.Author.Tests.{ltb-true, eqb-true, eqb-false, eq-eqb}
use Rattle.base_lists.proofs.Build.{never}
use Rattle.base_lists.proofs.Tests.{both}
use Rattle.base_lists.proofs.Places.{same_at}
use Rattle.sheet.specs.declared.Sheet.{Sheet}
use Rattle.sheet.specs.Answer.{accepted}
use Rattle.sheet.specs.Sheet.{view_sheet}
use Rattle.sheet.specs.Check.{check_of}
use Rattle.base_bounds.specs.Bounds.{VARIABLES, FIELDS, ROOM, QUEUES}
use Rattle.run_store.specs.declared.Item.{Item}
use Rattle.run_machine.specs.Machine.{Machine}
use Rattle.run_machine.specs.Numbers.{GoodM}
use Rattle.run_machine.specs.Calls.{Call}
use Rattle.run_machine.proofs.Sound.{sound_of_accepted}
use Rattle.run_machine.proofs.Keeps.{feed_keeps}
use Rattle.run_machine.proofs.FreshLaws.{fresh_machine, fresh_good}
use Rattle.order_theory.proofs.Equations.{nought}
use Rattle.order_theory.proofs.Final.{begin}
use Rattle.order.specs.Order.{Feed, fed, AllTaken, given, to_inputs, wide_feeds}
use Rattle.order.proofs.Model.{items_as, state_as}
use Rattle.order.proofs.Held.{held, fed_to, held_feed, feed_held}

-- the machine after the feeds
abbrev pub fed_all : Machine → List Feed → Machine
fed_all m [] = m
fed_all m (x ∷ xs) = fed_all (fed_to m x.queue x.item) xs

-- a queue's item more, seen from any queue
fed_at : (m : Machine) (q : ℕ) (x : Item) (k : ℕ) → q < length m.queues →
    get_or (fed_to m q x).queues k [] ≡ cond (eqb k q) (get_or m.queues k [] ++ (x ∷ [])) (get_or m.queues k [])
fed_at m q x k l = go (eqb k q) refl
  where
    go : (b : Bool) → eqb k q ≡ b → get_or (fed_to m q x).queues k [] ≡ cond b (get_or m.queues k [] ++ (x ∷ [])) (get_or m.queues k [])
    go true e =
        let s : k ≡ q = eqb-true k q e in
        ap (λ (j : ℕ). get_or (fed_to m q x).queues j []) s ∙ get_or-set_same m.queues q (get_or m.queues q [] ++ (x ∷ [])) [] l
        ∙ ap (λ (j : ℕ). get_or m.queues j [] ++ (x ∷ [])) (sym s)
    go false e = get_or-set_other m.queues q k (get_or m.queues q [] ++ (x ∷ [])) [] (eqb-false k q e)

-- the items given stand after those that were there
fed_queue : (t : Sheet) (xs : List Feed) (m : Machine) → t.inputs ≤ length m.queues → to_inputs t xs ≡ true → (k : ℕ) →
    get_or (fed_all m xs).queues k [] ≡ get_or m.queues k [] ++ given xs k
fed_queue t [] m n h k = sym (append-nil (get_or m.queues k []))
fed_queue t (x ∷ xs) m n h k =
    let e = both (ltb x.queue t.inputs) (to_inputs t xs) h in
    let l : x.queue < length m.queues = omega (arith, ltb-true x.queue t.inputs e.0) in
    let m' = fed_to m x.queue x.item in
    let n' : t.inputs ≤ length m'.queues =
    omega (arith, length-set m.queues x.queue (get_or m.queues x.queue [] ++ (x.item ∷ []))) in
    fed_queue t xs m' n' e.1 k
    ∙ ap (λ (ys : List Item). ys ++ given xs k) (fed_at m x.queue x.item k l)
    ∙ go (eqb k x.queue)
  where
    go : (b : Bool) → cond b (get_or m.queues k [] ++ (x.item ∷ [])) (get_or m.queues k []) ++ given xs k
        ≡ get_or m.queues k [] ++ cond b (x.item ∷ given xs k) (given xs k)
    go true = append_assoc (get_or m.queues k []) (x.item ∷ []) (given xs k)
    go false = refl

fed_vars : (xs : List Feed) (m : Machine) → (fed_all m xs).vars ≡ m.vars
fed_vars [] m = refl
fed_vars (x ∷ xs) m = fed_vars xs (fed_to m x.queue x.item)

-- each queue has room for what it is still given
abbrev Roomy : Machine → List Feed → Type 0
Roomy m xs = (k : ℕ) → length (get_or m.queues k []) + length (given xs k) ≤ ROOM

roomy_next : (m : Machine) (x : Feed) (xs : List Feed) → x.queue < length m.queues → Roomy m (x ∷ xs) →
    (length (get_or m.queues x.queue []) < ROOM) × Roomy (fed_to m x.queue x.item) xs
roomy_next m x xs l r =
    (now (eqb x.queue x.queue) (eq-eqb x.queue x.queue refl) (r x.queue), λ k. later k (eqb k x.queue) refl (r k))
  where
    now : (b : Bool) → b ≡ true →
        length (get_or m.queues x.queue []) + length (cond b (x.item ∷ given xs x.queue) (given xs x.queue)) ≤ ROOM →
        length (get_or m.queues x.queue []) < ROOM
    now true e h = omega arith
    now false e h = never e

    next : (k : ℕ) (b : Bool) → eqb k x.queue ≡ b →
        get_or (fed_to m x.queue x.item).queues k [] ≡ cond b (get_or m.queues k [] ++ (x.item ∷ [])) (get_or m.queues k [])
    next k b e =
        fed_at m x.queue x.item k l ∙ ap (λ (b : Bool). cond b (get_or m.queues k [] ++ (x.item ∷ [])) (get_or m.queues k [])) e

    later : (k : ℕ) (b : Bool) → eqb k x.queue ≡ b →
        length (get_or m.queues k []) + length (cond b (x.item ∷ given xs k) (given xs k)) ≤ ROOM →
        length (get_or (fed_to m x.queue x.item).queues k []) + length (given xs k) ≤ ROOM
    later k true e h = omega (arith, ap length (next k true e), length-append (get_or m.queues k []) (x.item ∷ []))
    later k false e h = omega (arith, ap length (next k false e))

-- every feed is accepted, and a good machine is left
pub record FedAll (t : Sheet) (m : Machine) (xs : List Feed) : Type 0 where
  pub taken : AllTaken t (held m) xs
  pub left : fed t (held m) xs ≡ held (fed_all m xs)
  pub good : GoodM (view_sheet t) (fed_all m xs)

feeds_held : (t : Sheet) → check_of t ≡ accepted → (xs : List Feed) (m : Machine) → GoodM (view_sheet t) m →
    to_inputs t xs ≡ true → wide_feeds xs ≡ true → Roomy m xs → FedAll t m xs
feeds_held t h [] m g i w r = record { taken = tt; left = refl; good = g }
feeds_held t h (x ∷ xs) m g i w r =
    let e = both (ltb x.queue t.inputs) (to_inputs t xs) i in
    let v = both (eqb (length x.item.f) FIELDS) (wide_feeds xs) w in
    let s = sound_of_accepted t h in
    let l = ltb-true x.queue t.inputs e.0 in
    let n = roomy_next m x xs (omega (arith, s.inputs, s.queues, g.many)) r in
    let m' = fed_to m x.queue x.item in
    let one = feed_held t h m g x.queue x.item l n.0 in
    let g' = feed_keeps (view_sheet t) s m g x.queue x.item m' (eqb-true (length x.item.f) FIELDS v.0)
    (held_feed t h m g x.queue x.item l n.0) in
    let rest = feeds_held t h xs m' g' e.1 v.1 n.1 in
    record {
      taken = (ap (λ (c : Call). c.answer) one, subst (λ (c : Call). AllTaken t c xs) (sym one) rest.taken);
      left = ap (λ (c : Call). fed t c xs) one ∙ rest.left;
      good = rest.good;
    }

module _ (t : Sheet) (h : check_of t ≡ accepted) (xs : List Feed) where
  -- after a fresh start
  pub fresh_feeds : to_inputs t xs ≡ true → wide_feeds xs ≡ true → ((k : ℕ) → length (given xs k) ≤ ROOM) → FedAll t fresh_machine xs
  fresh_feeds i w r =
      feeds_held t h xs fresh_machine (fresh_good (view_sheet t) (sound_of_accepted t h)) i w
      (λ k. let e : get_or fresh_machine.queues k [] ≡ [] = same_at QUEUES [] k in omega (arith, ap length e, r k))

  pub fed_begins : to_inputs t xs ≡ true → state_as (fed_all fresh_machine xs) ≡ begin (λ (q : ℕ). items_as (given xs q))
  fed_begins i = λ j. record { queue = fun_ext queues j; var = fun_ext vars j }
    where
      queues : (k : ℕ) → (state_as (fed_all fresh_machine xs)).queue k ≡ items_as (given xs k)
      queues k =
          let s = sound_of_accepted t h in
          ap items_as
          (fed_queue t xs fresh_machine (omega (arith, s.inputs, s.queues)) i k
          ∙ ap (λ (ys : List Item). ys ++ given xs k) (same_at QUEUES [] k))

      vars : (k : ℕ) → (state_as (fed_all fresh_machine xs)).var k ≡ nought k
      vars k = ap (λ (vs : List ℤ). get_or vs k (pos 0)) (fed_vars xs fresh_machine) ∙ same_at VARIABLES (pos 0) k

-- nothing is given past the inputs
pub given_none : (t : Sheet) (xs : List Feed) → to_inputs t xs ≡ true → (q : ℕ) → t.inputs ≤ q → given xs q ≡ []
given_none t [] i q l = refl
given_none t (x ∷ xs) i q l =
    let p = both (ltb x.queue t.inputs) (to_inputs t xs) i in
    go (eqb q x.queue) refl (ltb-true x.queue t.inputs p.0) (given_none t xs p.1 q l)
  where
    go : (b : Bool) → eqb q x.queue ≡ b → x.queue < t.inputs → given xs q ≡ [] → cond b (x.item ∷ given xs q) (given xs q) ≡ []
    go true e u r = absurd (omega (arith, eqb-true q x.queue e))
    go false e u r = r
