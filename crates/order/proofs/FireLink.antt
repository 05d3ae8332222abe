-- A firing of the product's machine is the theory's firing.
-- Assumes nothing.
use mathlib.Core.Path.{◌≡◌, refl, sym, ap, ◌∙◌, fun_ext}
use mathlib.Core.Option.{Option, some, none}
use mathlib.Core.Bool.{Bool, true, false, cond, not}
use mathlib.Core.List.{List, [], ◌∷◌, map, head?}
use mathlib.Core.Logic.{◌⊎◌, inl, inr, ⊎_elim}
use Prim.Native.Nat.{ℕ, suc, ◌≤◌, ◌<◌}
use native.Mathlib.Omega.{arith}
use lib.Dec.{eqb, ltb}
use lib.ListN.{length, get_or, set, length-set, length-map, get_or-map, get_or-eq_default}
use lib.IntN.{ℤ}
use Rattle.base_lists.specs.Lists.{all, member, times}
use Rattle.base_lists.proofs.Build.{order}
use Rattle.base_lists.proofs.Tests.{all_get_d}
use Rattle.base_lists.proofs.Members.{all_below}
use Rattle.base_lists.proofs.Places.{get_d_any}
use Rattle.sheet_operator.specs.Op.{Op, double, Abstract, reads, names}
use Rattle.run_store.specs.declared.Item.{Item}
use Rattle.base_bounds.specs.Bounds.{QUEUES, ROOM}
use Rattle.run_effect.specs.Effect.{effect, waits, cursor_good}
use Rattle.run_effect.proofs.EffectLaws.{effect_puts_below, effect_puts_once}
use Rattle.run_machine.specs.Machine.{Machine, Outcome, refuse, done, full, put_all, commit, fire_from, fire_op, fire_first, fire_m}
use Rattle.run_machine.specs.Numbers.{GoodM}
use Rattle.run_machine.proofs.Sound.{op_in, Sound}
use Rattle.order_theory.proofs.Model.{State, push, pop, room, after, pass, gate, step}
use Rattle.order_theory.proofs.Trace.{mark}
use Rattle.order_theory.proofs.Equations.{Kind}
use Rattle.order_theory.proofs.Denote.{denote, takes_from}
use Rattle.order_theory.proofs.Sheets.{blank, find, op_at, op_at_lem}
use Rattle.order_theory.proofs.Orders.{fires}
use Rattle.order.proofs.Model.{TItem, kind_as, kinds_as, items_as, state_as}
use Rattle.order.proofs.LineLink.{vars_as, Known}
use Rattle.order.proofs.KindLaws.{takes_member}
use Rattle.order.proofs.EffectLink.{waits_as, puts_as, next_as}
use Rattle.order.proofs.QueueLink.{take_as, puts_at, room_as}

abbrev pub outcome_as : Outcome → Option (State TItem ℤ)
outcome_as (refuse k) = none
outcome_as (done m) = some (state_as m)

-- ---- one operator

-- what an operator of a sound sheet has on a good machine
record Ready (o : Op) (m : Machine) : Type 0 where
  pub many : length m.queues ≡ QUEUES
  pub known : Known m.vars (names o)
  pub cursor : cursor_good o m.vars ≡ true
  pub below : (x : Item) → all (λ (q : ℕ). ltb q QUEUES) (effect o x m.vars).puts ≡ true
  pub once : (x : Item) (k : ℕ) → times k (effect o x m.vars).puts ≤ 1

module _ (o : Op) (m : Machine) (r : Ready o m) (q : ℕ) where
  -- the machine after the item, with the rest left in q
  abbrev fired : Item → List Item → Machine
  fired x xs =
      let e = effect o x m.vars in
      record { queues = put_all (set m.queues q xs) e.puts e.item; vars = e.vars }

  room_op : (x : Item) →
      room ROOM QUEUES ((denote (kind_as o)).puts x.f (vars_as m.vars)) (state_as m).queue
      ≡ not (full m.queues (effect o x m.vars).puts)
  room_op x =
      let e = effect o x m.vars in
      ap (λ (p : ℕ → Option TItem). room ROOM QUEUES p (state_as m).queue) (fun_ext (λ k. puts_as o x m.vars k r.known r.cursor))
      ∙ room_as QUEUES m.queues e.puts e.item.f (r.below x)

  after_op : (x : Item) (xs : List Item) → get_or m.queues q [] ≡ x ∷ xs → q < length m.queues →
      after (denote (kind_as o)) q x.f (state_as m) ≡ state_as (fired x xs)
  after_op x xs g l = λ i. record { queue = fun_ext queues i; var = next_as o x m.vars r.known r.cursor i }
    where
      queues : (k : ℕ) → (after (denote (kind_as o)) q x.f (state_as m)).queue k ≡ items_as (get_or (fired x xs).queues k [])
      queues k =
          let e = effect o x m.vars in
          ap (λ (p : Option TItem). push p (pop (eqb k q) (items_as (get_or m.queues k []))))
          (puts_as o x m.vars k r.known r.cursor)
          ∙ ap (push (mark (member k e.puts) e.item.f)) (take_as m.queues q x xs k l g)
          ∙ sym (puts_at (set m.queues q xs) e.puts e.item k (r.once x) (rw (length-set m.queues q xs, r.many) (r.below x)))

  fire_op_lem : member q (reads o) ≡ true →
      Rattle.order_theory.proofs.Model.fire_op ROOM QUEUES (denote (kind_as o)) q (state_as m) ≡ outcome_as (fire_op o m q)
  unfolding Rattle.order_theory.proofs.Model.fire_op fire_from commit
  fire_op_lem h =
      ap (λ (b : Bool). gate ROOM QUEUES b (head? (items_as (get_or m.queues q []))) (denote (kind_as o)) q (state_as m))
      (waits_as o q m.vars h r.cursor)
      ∙ from (waits o q m.vars) refl (get_or m.queues q []) refl
    where
      below : (x : Item) (xs : List Item) → get_or m.queues q [] ≡ x ∷ xs → q < length m.queues
      below x xs e =
          ⊎_elim (λ (l : q < length m.queues). l)
          (λ (l : length m.queues ≤ q). absurd (omega (arith, ap length (sym e ∙ get_or-eq_default m.queues [] l))))
          (order q (length m.queues))

      passed : (b : Bool) (s : State TItem ℤ) (n : Machine) → s ≡ state_as n → pass (not b) s ≡ outcome_as (cond b (refuse 12) (done n))
      passed true s n e = refl
      passed false s n e = ap {B = Option (State TItem ℤ)} some e

      from : (w : Bool) → waits o q m.vars ≡ w → (ys : List Item) → get_or m.queues q [] ≡ ys →
          gate ROOM QUEUES (not w) (head? (items_as ys)) (denote (kind_as o)) q (state_as m) ≡ outcome_as (fire_from o m q ys)
      from true v [] e = refl
      from false v [] e = refl
      from true v (x ∷ xs) e = rw v
      from false v (x ∷ xs) e =
          let s = after (denote (kind_as o)) q x.f (state_as m) in
          rw v
          (ap (λ (b : Bool). pass b s) (room_op x)
          ∙ passed (full m.queues (effect o x m.vars).puts) s (fired x xs) (after_op x xs e (below x xs e)))

-- ---- the operator that reads the queue

-- the first operator that reads q, as both find it
record First (os : List Op) (m : Machine) (q : ℕ) : Type 0 where
  pub place : ℕ
  pub within : place < length os
  pub reader : member q (reads (get_or os place (double 0 0 0))) ≡ true
  pub place_as : find (λ (κ : Kind). takes_from κ q) (map kind_as os) ≡ some place
  pub fires_it : fire_first os m q ≡ fire_op (get_or os place (double 0 0 0)) m q

-- or none does
record Nobody (os : List Op) (m : Machine) (q : ℕ) : Type 0 where
  pub none_as : find (λ (κ : Kind). takes_from κ q) (map kind_as os) ≡ none
  pub refused : fire_first os m q ≡ refuse 9

first_as : (os : List Op) (m : Machine) (q : ℕ) → First os m q ⊎ Nobody os m q
unfolding find fire_first
first_as [] m q = inr (record { none_as = refl; refused = refl })
first_as (o ∷ os) m q = pick (member q (reads o)) refl (first_as os m q)
  where
    pick : (b : Bool) → member q (reads o) ≡ b → First os m q ⊎ Nobody os m q → First (o ∷ os) m q ⊎ Nobody (o ∷ os) m q
    pick true e f = inl (record { place = 0; within = omega arith; reader = e; place_as = rw (takes_member o q ∙ e); fires_it = rw e })
    pick false e (inl f) =
        inl
        (record {
          place = suc f.place;
          within = omega (arith, f.within);
          reader = f.reader;
          place_as = rw (takes_member o q ∙ e, f.place_as);
          fires_it = rw e f.fires_it;
        })
    pick false e (inr n) = inr (record { none_as = rw (takes_member o q ∙ e, n.none_as); refused = rw e n.refused })

op_as : (os : List Op) (i : ℕ) → i < length os → op_at (map kind_as os) i ≡ denote (kind_as (get_or os i (double 0 0 0)))
op_as os i l =
    let b : i < length (map kind_as os) = rw (length-map os kind_as) l in
    op_at_lem (map kind_as os) i b
    ∙ ap denote (get_d_any (map kind_as os) i blank (kind_as (double 0 0 0)) b ∙ get_or-map kind_as os i (double 0 0 0))

module _ (a : Abstract) (sound : Sound a) (m : Machine) (g : GoodM a m) where
  ready : (i : ℕ) → i < length a.ops → Ready (op_in a i) m
  ready i l =
      let s = sound.each i l in
      let c = all_get_d (λ (o : Op). cursor_good o m.vars) a.ops (double 0 0 0) g.cursors i l in
      record {
        many = g.many;
        known = all_below a.variables (length m.vars) (names (op_in a i)) (omega (arith, sound.variables, g.size)) s.named;
        cursor = c;
        below = λ x.
            all_below a.queues QUEUES (effect (op_in a i) x m.vars).puts sound.queues
            (effect_puts_below (op_in a i) x m.vars a.queues c s.outs);
        once = λ x. effect_puts_once (op_in a i) x m.vars s.apart;
      }

  pub fire_as : (q : ℕ) → fires (kinds_as a) q (state_as m) ≡ outcome_as (fire_m a m q)
  unfolding step
  fire_as q = go (first_as a.ops m q)
    where
      go : First a.ops m q ⊎ Nobody a.ops m q → fires (kinds_as a) q (state_as m) ≡ outcome_as (fire_m a m q)
      go (inl f) =
          rw (f.place_as, op_as a.ops f.place f.within, f.fires_it)
          (fire_op_lem (op_in a f.place) m (ready f.place f.within) q f.reader)
      go (inr n) = rw (n.none_as, n.refused)
