-- From numbers to queues: what each leaf leaves of the counts and the store are the counts and the store of the queues after it.
-- Assumes nothing.
use mathlib.Core.Path.{◌≡◌, refl, ap, ◌∙◌}
use mathlib.Core.Bool.{true}
use mathlib.Core.List.{List, [], ◌∷◌, ◌++◌, map}
use Prim.Native.Nat.{ℕ, zero, suc, ◌+◌, ◌-◌, ◌≤◌, ◌<◌}
use native.Mathlib.Nat.{le_refl}
use native.Mathlib.Omega.{arith}
use lib.Dec.{leb}
use lib.ListN.{length, get_or, set, drop, length-append}
use lib.Seq.{get_or-set_other}
use lib.IntN.{ℤ}
use Rattle.base_lists.specs.Lists.{any}
use Rattle.sheet_operator.specs.Op.{Abstract}
use Rattle.run_store.specs.declared.Item.{Item}
use Rattle.run_store.specs.Store.{STORE, part, first_of, push_at, take_at}
use Rattle.base_bounds.specs.Bounds.{QUEUES, ROOM, FIELDS}
use Rattle.run_store.specs.Queues.{store_of, items_of, queues_of, Fit}
use Rattle.run_store.specs.Quiet.{quiet_from}
use Rattle.run_store.proofs.StoreLaws.{push_store, take_store, counts_back}
use Rattle.run_store.proofs.QuietLaws.{store_back}
use Rattle.run_machine.specs.declared.State.{State}
use Rattle.run_machine.specs.Machine.{full}
use Rattle.run_machine.specs.Numbers.{decode, good}
use Rattle.run_machine.proofs.Good.{tested_of_good, count_at, decoded_at}

-- these are the counts and the store of the queues
pub record Holds (cs : List ℕ) (s : List ℤ) (qs : List (List Item)) : Type 0 where
  pub counts : cs ≡ map length qs
  pub store : s ≡ store_of qs

pub holds_of_quiet : (cs : List ℕ) (s : List ℤ) → length cs ≡ QUEUES → length s ≡ STORE → quiet_from s 0 cs ≡ true → Holds cs s (queues_of s 0 cs)
holds_of_quiet cs s n l h = record { counts = counts_back s 0 cs; store = store_back s cs (omega arith) h }

pub holds_of_good : (a : Abstract) (st : State) (s : List ℤ) → good a st s ≡ true → length st.counts ≡ QUEUES → Holds st.counts s (decode st s).queues
holds_of_good a st s h n = let t = tested_of_good a st s h in holds_of_quiet st.counts s n t.size t.quiet

counts_set : (qs : List (List Item)) (q : ℕ) (ys : List Item) → set (map length qs) q (length ys) ≡ map length (set qs q ys)
counts_set [] q ys = refl
counts_set (xs ∷ qs) zero ys = refl
counts_set (xs ∷ qs) (suc q) ys = ap (λ (l : List ℕ). length xs ∷ l) (counts_set qs q ys)

-- the count of a queue with other items
set_counts : (cs : List ℕ) (qs : List (List Item)) (q n : ℕ) (ys : List Item) → cs ≡ map length qs → n ≡ length ys → set cs q n ≡ map length (set qs q ys)
set_counts cs qs q n ys e f = rw (e, f) (counts_set qs q ys)

-- ---- what is read

module _ (cs : List ℕ) (s : List ℤ) (qs : List (List Item)) (h : Holds cs s qs) where
  pub count_holds : (q : ℕ) → get_or cs q 0 ≡ length (get_or qs q [])
  count_holds q = ap (λ (l : List ℕ). get_or l q 0) h.counts ∙ count_at qs q

  pub full_holds : (to : List ℕ) → any (λ (q : ℕ). leb ROOM (get_or cs q 0)) to ≡ full qs to
  full_holds [] = refl
  full_holds (q ∷ to) = rw (count_holds q, full_holds to)

  module _ (q : ℕ) (x : Item) (xs : List Item) (e : get_or qs q [] ≡ x ∷ xs) where
    pub count_of_cons : get_or cs q 0 ≡ suc (length xs)
    count_of_cons = count_holds q ∙ ap length e

    -- ---- a take: one item fewer, and the others move down

    pub take_holds : length qs ≡ QUEUES → Fit qs → q < QUEUES → Holds (set cs q (get_or cs q 0 - 1)) (take_at s q) (set qs q xs)
    take_holds n f l =
        let m : length (get_or qs q []) ≡ suc (length xs) = ap length e in
        record {
          counts = set_counts cs qs q (get_or cs q 0 - 1) xs h.counts (omega (arith, count_of_cons));
          store = ap (λ (u : List ℤ). take_at u q) h.store ∙ take_store qs q x xs (omega arith) e (omega (arith, f q (omega arith)));
        }

  -- ---- a push: one item more, behind the others

  pub push_holds : (q : ℕ) (x : Item) → length qs ≡ QUEUES → q < QUEUES → get_or cs q 0 < ROOM →
      Holds (set cs q (get_or cs q 0 + 1)) (push_at s q (get_or cs q 0) x) (set qs q (get_or qs q [] ++ (x ∷ [])))
  push_holds q x n l r =
      let c = count_holds q in
      record {
        counts = set_counts cs qs q (get_or cs q 0 + 1) (get_or qs q [] ++ (x ∷ [])) h.counts (omega (arith, length-append (get_or qs q []) (x ∷ [])));
        store = rw (h.store, c) (push_store qs q x (omega arith) (omega arith));
      }

-- ---- the oldest item and the rest, where the count is not 0, in the numbers' own words

pub head_of_count : (st : State) (s : List ℤ) (q : ℕ) → 0 < get_or st.counts q 0 →
    get_or (decode st s).queues q [] ≡ first_of (part s q) ∷ items_of (get_or st.counts q 0 - 1) (drop FIELDS (part s q))
unfolding items_of
head_of_count st s q p =
    let k : get_or st.counts q 0 ≡ suc (get_or st.counts q 0 - 1) = omega arith in
    decoded_at st s q ∙ ap (λ (n : ℕ). items_of n (part s q)) k

pub empty_of_count : (st : State) (s : List ℤ) (q : ℕ) → get_or st.counts q 0 ≡ 0 → get_or (decode st s).queues q [] ≡ []
unfolding items_of
empty_of_count st s q e = decoded_at st s q ∙ ap (λ (n : ℕ). items_of n (part s q)) e

-- ---- room is left after a take, and in the other queues after a push

set_less : (cs : List ℕ) (q v r : ℕ) → v ≤ get_or cs q 0 → get_or (set cs q v) r 0 ≤ get_or cs r 0
set_less [] q v r h = omega arith
set_less (c ∷ cs) zero v zero h = h
set_less (c ∷ cs) zero v (suc r) h = le_refl (get_or cs r 0)
set_less (c ∷ cs) (suc q) v zero h = le_refl c
set_less (c ∷ cs) (suc q) v (suc r) h = set_less cs q v r h

pub room_after_take : (cs : List ℕ) (q r : ℕ) → get_or cs r 0 < ROOM → get_or (set cs q (get_or cs q 0 - 1)) r 0 < ROOM
room_after_take cs q r h = omega (arith, set_less cs q (get_or cs q 0 - 1) r (omega arith))

pub room_after_push : (cs : List ℕ) (q n r : ℕ) → (r ≡ q → ⊥) → get_or cs r 0 < ROOM → get_or (set cs q n) r 0 < ROOM
room_after_push cs q n r d h = rw (get_or-set_other cs q r n 0 d) h
