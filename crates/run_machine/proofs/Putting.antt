-- The queues that a firing puts its item on: by how many they are, what `no_room` asks and `put_all` leaves of each; and in what order there is room.
-- Assumes nothing.
use mathlib.Core.Path.{◌≡◌, refl, sym, ap, ◌∙◌, subst}
use mathlib.Core.Bool.{Bool, true, false, not, ◌||◌, or-false}
use mathlib.Core.List.{List, [], ◌∷◌, ◌++◌}
use Prim.Native.Nat.{ℕ, ◌+◌, ◌-◌, ◌<◌}
use lib.Dec.{eqb, ltb, leb}
use lib.ListN.{length, get_or, set, length-set}
use lib.IntN.{ℤ}
use borrow.Author.Tests.{ltb-true, leb-false, lt-leb, eq-eqb, not-true}
use Rattle.base_lists.specs.Lists.{all, any, fresh}
use Rattle.base_lists.proofs.Build.{never}
use Rattle.base_lists.proofs.Tests.{both, neither, neither_of, or_right}
use Rattle.run_store.specs.Store.{push_at}
use Rattle.base_bounds.specs.Bounds.{QUEUES, ROOM}
use Rattle.run_store.specs.declared.Item.{Item}
use Rattle.run_effect.specs.declared.Puts.{Puts}
use Rattle.run_effect.specs.declared.Puts.TheVariants.{Nowhere, One, Two}
use Rattle.run_effect.specs.Effect.{puts_of}
use Rattle.run_machine.specs.Machine.{put_all}
use Rattle.run_machine.specs.Working.{Raw, raw, put_raw, puts_raw, Room}
use Rattle.run_machine.proofs.Bridge.{Holds, push_holds, room_after_take, room_after_push}

abbrev pub below_all : List ℕ → Bool
below_all to = all (λ (q : ℕ). ltb q QUEUES) to

abbrev pub full_of : List ℕ → List ℕ → Bool
full_of cs to = any (λ (q : ℕ). leb ROOM (get_or cs q 0)) to

-- ---- by the variant

pub puts_none : (p : Puts) (w : Raw) (x : Item) → p ≡ Nowhere → w ≡ puts_raw w (puts_of p) x
puts_none p w x e = sym (ap (λ (k : Puts). puts_raw w (puts_of k) x) e)

module _ (p : Puts) (a : ℕ) (e : p ≡ One a) where
  pub below_one : below_all (puts_of p) ≡ true → a < QUEUES
  below_one h = ltb-true a QUEUES (both (ltb a QUEUES) true (subst (λ (k : Puts). below_all (puts_of k) ≡ true) e h)).0

  pub full_one : (cs : List ℕ) (b : Bool) → b ≡ leb ROOM (get_or cs a 0) → b ≡ full_of cs (puts_of p)
  full_one cs b h = h ∙ sym (ap (λ (k : Puts). full_of cs (puts_of k)) e ∙ or-false (leb ROOM (get_or cs a 0)))

  pub room_one : (cs : List ℕ) → Room cs (puts_of p) → (a < QUEUES) × (get_or cs a 0 < ROOM)
  room_one cs h = let r = subst (λ (k : Puts). Room cs (puts_of k)) e h in (r.0, r.1)

  pub puts_one : (w v : Raw) (x : Item) → v ≡ put_raw w a x → v ≡ puts_raw w (puts_of p) x
  puts_one w v x h = h ∙ sym (ap (λ (k : Puts). puts_raw w (puts_of k) x) e)

module _ (p : Puts) (a b : ℕ) (e : p ≡ Two a b) where
  pub below_two : below_all (puts_of p) ≡ true → (a < QUEUES) × (b < QUEUES)
  below_two h =
      let t = both (ltb a QUEUES) (below_all (b ∷ [])) (subst (λ (k : Puts). below_all (puts_of k) ≡ true) e h) in
      (ltb-true a QUEUES t.0, ltb-true b QUEUES (both (ltb b QUEUES) true t.1).0)

  module _ (cs : List ℕ) (f : Bool) (h : f ≡ leb ROOM (get_or cs a 0)) where
    -- the first decides, or the second does
    full_two : (t : Bool) → f ≡ t → full_of cs (puts_of p) ≡ (t || leb ROOM (get_or cs b 0))
    full_two t i =
        ap (λ (k : Puts). full_of cs (puts_of k)) e
        ∙ ap (λ (g : Bool). leb ROOM (get_or cs a 0) || g) (or-false (leb ROOM (get_or cs b 0)))
        ∙ ap (λ (g : Bool). g || leb ROOM (get_or cs b 0)) (sym h ∙ i)

    pub full_first : f ≡ true → true ≡ full_of cs (puts_of p)
    full_first t = sym (full_two true t)

    pub full_second : (g : Bool) → f ≡ false → g ≡ leb ROOM (get_or cs b 0) → g ≡ full_of cs (puts_of p)
    full_second g t k = k ∙ sym (full_two false t)

  pub room_first : (cs : List ℕ) → Room cs (puts_of p) → (a < QUEUES) × (get_or cs a 0 < ROOM)
  room_first cs h = let r = subst (λ (k : Puts). Room cs (puts_of k)) e h in (r.0, r.1)

  pub room_second : (cs : List ℕ) (s : List ℤ) (v : Raw) (x : Item) → Room cs (puts_of p) → v ≡ put_raw (raw cs s) a x →
      (b < QUEUES) × (get_or v.counts b 0 < ROOM)
  room_second cs s v x h f =
      let r = subst (λ (k : Puts). Room cs (puts_of k)) e h in
      let t : v.counts ≡ set cs a (get_or cs a 0 + 1) = ap (λ (u : Raw). u.counts) f in
      (r.2.0, rw t r.2.1)

  pub puts_two : (w v u : Raw) (x : Item) → v ≡ put_raw w a x → u ≡ put_raw v b x → u ≡ puts_raw w (puts_of p) x
  puts_two w v u x f g = g ∙ ap (λ (r : Raw). put_raw r b x) f ∙ sym (ap (λ (k : Puts). puts_raw w (puts_of k) x) e)

-- ---- room for each of the queues, one after the other, where none is full and all differ

full_after_take : (cs : List ℕ) (q : ℕ) (to : List ℕ) → full_of cs to ≡ false → full_of (set cs q (get_or cs q 0 - 1)) to ≡ false
full_after_take cs q [] h = refl
full_after_take cs q (r ∷ to) h =
    let n = neither (leb ROOM (get_or cs r 0)) (full_of cs to) h in
    neither_of _ _ (lt-leb ROOM _ (room_after_take cs q r (leb-false ROOM (get_or cs r 0) n.0))) (full_after_take cs q to n.1)

-- d knows q, so that q is not among the others
full_after_push : (cs : List ℕ) (q n : ℕ) (d : ℕ → Bool) (to : List ℕ) → d q ≡ true → fresh d to ≡ true → full_of cs to ≡ false →
    full_of (set cs q n) to ≡ false
full_after_push cs q n d [] k f h = refl
full_after_push cs q n d (r ∷ to) k f h =
    let g = both (not (d r)) (fresh (λ (x : ℕ). eqb x r || d x) to) f in
    let m = neither (leb ROOM (get_or cs r 0)) (full_of cs to) h in
    let apart : r ≡ q → ⊥ = λ e. never (sym (not-true (d r) g.0) ∙ ap d e ∙ k) in
    neither_of _ _ (lt-leb ROOM _ (room_after_push cs q n r apart (leb-false ROOM (get_or cs r 0) m.0)))
    (full_after_push cs q n (λ (x : ℕ). eqb x r || d x) to (or_right (eqb q r) (d q) k) g.1 m.1)

room_of : (cs : List ℕ) (d : ℕ → Bool) (to : List ℕ) → below_all to ≡ true → fresh d to ≡ true → full_of cs to ≡ false → Room cs to
room_of cs d [] b f h = tt
room_of cs d (q ∷ to) b f h =
    let l = both (ltb q QUEUES) (below_all to) b in
    let g = both (not (d q)) (fresh (λ (x : ℕ). eqb x q || d x) to) f in
    let m = neither (leb ROOM (get_or cs q 0)) (full_of cs to) h in
    let known : (eqb q q || d q) ≡ true = rw (eq-eqb q q refl) in
    let left = full_after_push cs q (get_or cs q 0 + 1) (λ (x : ℕ). eqb x q || d x) to known g.1 m.1 in (
      ltb-true q QUEUES l.0,
      leb-false ROOM (get_or cs q 0) m.0,
      room_of (set cs q (get_or cs q 0 + 1)) (λ (x : ℕ). eqb x q || d x) to l.1 g.1 left,
    )

pub room_to_put : (cs : List ℕ) (q : ℕ) (to : List ℕ) → below_all to ≡ true → fresh (λ (k : ℕ). false) to ≡ true → full_of cs to ≡ false →
    Room (set cs q (get_or cs q 0 - 1)) to
room_to_put cs q to b f h = room_of (set cs q (get_or cs q 0 - 1)) (λ (k : ℕ). false) to b f (full_after_take cs q to h)

-- ---- what `put_all` leaves are the counts and the store of the queues with the item on each

pub puts_hold : (cs : List ℕ) (s : List ℤ) (qs : List (List Item)) (to : List ℕ) (x : Item) → Holds cs s qs → length qs ≡ QUEUES → Room cs to →
    Holds (puts_raw (raw cs s) to x).counts (puts_raw (raw cs s) to x).store (put_all qs to x)
puts_hold cs s qs [] x h n r = h
puts_hold cs s qs (q ∷ to) x h n r =
    puts_hold (set cs q (get_or cs q 0 + 1)) (push_at s q (get_or cs q 0) x) (set qs q (get_or qs q [] ++ (x ∷ []))) to x
    (push_holds cs s qs h q x n r.0 r.1) (length-set qs q _ ∙ n) r.2
