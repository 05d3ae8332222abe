-- A machine and its numbers: a good machine is read back from its numbers, numbers that pass 8 are those of a good machine, and what 8 lets pass.
-- Assumes nothing.
use mathlib.Core.Path.{◌≡◌, refl, sym, ap, ◌∙◌, subst}
use mathlib.Core.Bool.{true}
use mathlib.Core.List.{List, [], ◌∷◌, map}
use Prim.Native.Nat.{ℕ, zero, suc, ◌≤◌, ◌<◌}
use native.Mathlib.Nat.{zero-add}
use native.Mathlib.Omega.{arith}
use lib.Dec.{eqb}
use lib.ListN.{length, get_or, drop, length-map, get_or-eq_default}
use lib.IntN.{ℤ, pos}
use mathlib.Core.Logic.{⊎_elim}
use borrow.Author.Tests.{eqb-true, eq-eqb}
use Rattle.base_lists.specs.Lists.{all}
use Rattle.base_lists.proofs.Build.{order}
use Rattle.base_lists.proofs.Tests.{both, both_of, all_from, all_from_of}
use Rattle.sheet_operator.specs.Op.{Op, Abstract}
use Rattle.base_bounds.specs.Bounds.{VARIABLES, ROOM, QUEUES}
use Rattle.run_store.specs.declared.Item.{Item}
use Rattle.run_store.specs.Store.{STORE, part}
use Rattle.run_store.specs.Queues.{items_of, queues_of, Fit}
use Rattle.run_store.specs.Quiet.{quiet_from}
use Rattle.base_number.specs.Number.{is_zero}
use Rattle.run_store.proofs.QueueLaws.{length_items}
use Rattle.run_store.proofs.StoreLaws.{length_store, counts_back, queue_at_lem, queues_back}
use Rattle.run_store.proofs.QuietLaws.{store_back, quiet_fit, quiet_wide, store_passes}
use Rattle.base_number.proofs.Zero.{zero_of_test}
use Rattle.run_effect.specs.Effect.{cursor_good}
use Rattle.run_machine.specs.declared.State.{State}
use Rattle.run_machine.specs.Machine.{Machine}
use Rattle.run_machine.specs.Numbers.{decode, state_of, store_in, good, GoodM}

-- ---- counts

pub count_at : (qs : List (List Item)) (q : ℕ) → get_or (map length qs) q 0 ≡ length (get_or qs q [])
count_at [] q = refl
count_at (xs ∷ qs) zero = refl
count_at (xs ∷ qs) (suc q) = count_at qs q

pub decoded_at : (st : State) (s : List ℤ) (q : ℕ) → get_or (decode st s).queues q [] ≡ items_of (get_or st.counts q 0) (part s q)
decoded_at st s q = queue_at_lem s 0 st.counts q ∙ ap (λ (k : ℕ). items_of (get_or st.counts q 0) (part s k)) (zero-add q)

pub decoded_count : (st : State) (s : List ℤ) (q : ℕ) → length (get_or (decode st s).queues q []) ≡ get_or st.counts q 0
decoded_count st s q = ap length (decoded_at st s q) ∙ length_items (get_or st.counts q 0) (part s q)

pub decoded_many : (st : State) (s : List ℤ) → length (decode st s).queues ≡ length st.counts
decoded_many st s = sym (length-map (queues_of s 0 st.counts) length) ∙ ap length (sym (counts_back s 0 st.counts))

-- ---- the parts of the test

pub record Tested (a : Abstract) (st : State) (s : List ℤ) : Type 0 where
  pub size : length s ≡ STORE
  pub quiet : quiet_from s 0 st.counts ≡ true
  pub far : (q : ℕ) → a.queues ≤ q → get_or st.counts q 0 ≡ 0
  pub none : (v : ℕ) → a.variables ≤ v → get_or st.vars v (pos 0) ≡ pos 0
  pub cursors : all (λ (o : Op). cursor_good o st.vars) a.ops ≡ true

pub tested_of_good : (a : Abstract) (st : State) (s : List ℤ) → good a st s ≡ true → Tested a st s
unfolding good
tested_of_good a st s h =
    let t1 = both (eqb (length s) STORE) _ h in
    let t2 = both (quiet_from s 0 st.counts) _ t1.1 in
    let t3 = both (all (λ (n : ℕ). eqb n 0) (drop a.queues st.counts)) _ t2.1 in
    let t4 = both (all is_zero (drop a.variables st.vars)) _ t3.1 in
    record {
      size = eqb-true (length s) STORE t1.0;
      quiet = t2.0;
      far = λ q l. eqb-true (get_or st.counts q 0) 0 (all_from (λ (n : ℕ). eqb n 0) 0 st.counts a.queues refl t3.0 q l);
      none = λ v l. zero_of_test (get_or st.vars v (pos 0)) (all_from is_zero (pos 0) st.vars a.variables refl t4.0 v l);
      cursors = t4.1;
    }

pub good_of_tested : (a : Abstract) (st : State) (s : List ℤ) → Tested a st s → good a st s ≡ true
unfolding good
good_of_tested a st s t =
    both_of _ _ (eq-eqb (length s) STORE t.size) (both_of _ _ t.quiet
    (both_of _ _ (all_from_of (λ (n : ℕ). eqb n 0) 0 st.counts a.queues (λ q l. eq-eqb (get_or st.counts q 0) 0 (t.far q l)))
    (both_of _ _ (all_from_of is_zero (pos 0) st.vars a.variables (λ v l. ap is_zero (t.none v l))) t.cursors)))

-- ---- a good machine, in numbers and back

module _ (a : Abstract) (m : Machine) (g : GoodM a m) where
  pub decode_of_encode : decode (state_of m) (store_in m) ≡ m
  decode_of_encode = ap (λ (qs : List (List Item)). record { queues = qs; vars = m.vars }) (queues_back m.queues g.fit g.wide)

  pub good_of_machine : good a (state_of m) (store_in m) ≡ true
  good_of_machine =
      good_of_tested a (state_of m) (store_in m)
      (record {
        size = omega (arith, length_store m.queues, g.many);
        quiet = store_passes m.queues g.fit;
        far = λ q l. count_at m.queues q ∙ ap length (g.far q l);
        none = g.none;
        cursors = g.cursors;
      })

-- ---- numbers that pass 8, as a machine and back

module _ (a : Abstract) (st : State) (s : List ℤ) (h : good a st s ≡ true) (n : length st.counts ≡ QUEUES) where
  tested : Tested a st s
  tested = tested_of_good a st s h

  pub encode_of_decode : (state_of (decode st s) ≡ st) × (store_in (decode st s) ≡ s)
  encode_of_decode = (
    ap (λ (cs : List ℕ). record { counts = cs; vars = st.vars }) (sym (counts_back s 0 st.counts)),
    sym (store_back s st.counts (omega (arith, tested.size)) tested.quiet),
  )

  pub machine_of_good : length st.vars ≡ VARIABLES → GoodM a (decode st s)
  unfolding items_of
  machine_of_good v =
      record {
        many = decoded_many st s ∙ n;
        fit = quiet_fit s 0 st.counts tested.quiet;
        wide = quiet_wide s 0 st.counts (omega (arith, tested.size)) tested.quiet;
        far = λ q l. decoded_at st s q ∙ ap (λ (k : ℕ). items_of k (part s q)) (tested.far q l);
        size = v;
        none = tested.none;
        cursors = tested.cursors;
      }

-- ---- exactly what 8 lets pass: the store of the queues that it stands for, and nothing past the sheet's queues and variables

pub record Passes (a : Abstract) (st : State) (s : List ℤ) : Type 0 where
  pub size : length s ≡ STORE
  pub few : (q : ℕ) → get_or st.counts q 0 ≤ ROOM
  pub back : store_in (decode st s) ≡ s
  pub far : (q : ℕ) → a.queues ≤ q → get_or st.counts q 0 ≡ 0
  pub none : (v : ℕ) → a.variables ≤ v → get_or st.vars v (pos 0) ≡ pos 0
  pub cursors : all (λ (o : Op). cursor_good o st.vars) a.ops ≡ true

module _ (a : Abstract) (st : State) (s : List ℤ) where
  few_of_fit : Fit (decode st s).queues → (q : ℕ) → get_or st.counts q 0 ≤ ROOM
  few_of_fit f q =
      ⊎_elim (λ (l : q < length (decode st s).queues). omega (arith, f q l, decoded_count st s q))
      (λ (l : length (decode st s).queues ≤ q).
      omega (arith, get_or-eq_default st.counts 0 {n = q} (omega (arith, decoded_many st s))))
      (order q (length (decode st s).queues))

  quiet_of_back : Fit (decode st s).queues → store_in (decode st s) ≡ s → quiet_from s 0 st.counts ≡ true
  quiet_of_back f e =
      subst (λ (cs : List ℕ). quiet_from s 0 cs ≡ true) (sym (counts_back s 0 st.counts))
      (subst (λ (u : List ℤ). quiet_from u 0 (map length (queues_of s 0 st.counts)) ≡ true) e (store_passes (decode st s).queues f))

  passes_of_good : length st.counts ≡ QUEUES → good a st s ≡ true → Passes a st s
  passes_of_good n h =
      let t = tested_of_good a st s h in
      record {
        size = t.size;
        few = few_of_fit (quiet_fit s 0 st.counts t.quiet);
        back = (encode_of_decode a st s h n).1;
        far = t.far;
        none = t.none;
        cursors = t.cursors;
      }

  good_of_passes : Passes a st s → good a st s ≡ true
  good_of_passes p =
      good_of_tested a st s
      (record {
        size = p.size;
        quiet = quiet_of_back (λ q l. omega (arith, p.few q, decoded_count st s q)) p.back;
        far = p.far;
        none = p.none;
        cursors = p.cursors;
      })

  pub good_exactly : length st.counts ≡ QUEUES → (good a st s ≡ true → Passes a st s) × (Passes a st s → good a st s ≡ true)
  good_exactly n = (passes_of_good n, good_of_passes)
