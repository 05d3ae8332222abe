-- A run, a state at rest and a whole state of the product are the theory's.
-- Assumes nothing.
use mathlib.Core.Path.{◌≡◌, refl, sym, ap, ◌∙◌, subst}
use mathlib.Core.Option.{Option, none}
use mathlib.Core.Bool.{true, false}
use mathlib.Core.List.{List, [], ◌∷◌}
use Prim.Native.Nat.{ℕ, ◌+◌, ◌<◌}
use native.Mathlib.Nat.{zero-add}
use native.Mathlib.Omega.{arith}
use lib.ListN.{length, get_or}
use lib.IntN.{ℤ, pos}
use lib.Dec.{ltb}
use lib.Seq.{ext_get_or}
use borrow.Author.Tests.{ltb-true}
use Rattle.base_lists.specs.Lists.{member}
use Rattle.base_lists.proofs.Build.{never'}
use Rattle.base_lists.proofs.Tests.{all_member}
use Rattle.sheet_operator.specs.Op.{double, Abstract, reads}
use Rattle.run_machine.specs.Machine.{Machine, Outcome, refuse, done, fire_m, Ran, ran_on, run_from, run_m}
use Rattle.run_machine.specs.Ready.{SET, accepts, ready_set}
use Rattle.run_machine.specs.Numbers.{GoodM}
use Rattle.run_machine.proofs.Sound.{op_in, Sound}
use Rattle.run_machine.proofs.Keeps.{fire_keeps}
use Rattle.run_machine.proofs.ReadyLaws.{ready_rest}
use Rattle.order_theory.proofs.Runs.{Rest, exec, fired, or_else, tick}
use Rattle.order_theory.proofs.Model.{State}
use Rattle.order_theory.proofs.Orders.{fires}
use Rattle.order.proofs.Model.{TItem, kinds_as, state_as, same_items}
use Rattle.order.proofs.FireLink.{outcome_as, fire_as}

-- ---- a run

module _ (a : Abstract) (sound : Sound a) where
  abbrev F : ℕ → State TItem ℤ → Option (State TItem ℤ)
  F = fires (kinds_as a)

  -- what a run from r leaves and how often it fires, in the theory's words
  abbrev Runs : Ran → List ℕ → State TItem ℤ → ℕ → Type 0
  Runs r qs s n = (state_as (run_from a qs r).machine ≡ s) × ((run_from a qs r).fired ≡ n)

  -- the same of what is left to run after an outcome
  abbrev Goes : Ran → List ℕ → Outcome → Option (State TItem ℤ) → Type 0
  Goes r qs o x =
      let s = or_else F x (state_as r.machine) in
      Runs (ran_on o r) qs (exec F qs s) (r.fired + (tick F x + fired F qs s))

  run_from_lem : (qs : List ℕ) (r : Ran) → GoodM a r.machine →
      Runs r qs (exec F qs (state_as r.machine)) (r.fired + fired F qs (state_as r.machine))
  unfolding run_from exec fired
  run_from_lem [] r g = (refl, omega arith)
  run_from_lem (q ∷ qs) r g =
      subst (Goes r qs (fire_m a r.machine q)) (sym (fire_as a sound r.machine g q)) (go (fire_m a r.machine q) refl (run_from_lem qs))
    where
      go : (o : Outcome) → fire_m a r.machine q ≡ o →
          ((r : Ran) → GoodM a r.machine → Runs r qs (exec F qs (state_as r.machine)) (r.fired + fired F qs (state_as r.machine))) →
          Goes r qs o (outcome_as o)
      go (refuse k) e ih = let h = ih (ran_on (refuse k) r) g in (h.0, omega (arith, h.1))
      go (done m) e ih = let h = ih (ran_on (done m) r) (fire_keeps a sound r.machine g q m e) in (h.0, omega (arith, h.1))

  pub run_link : (qs : List ℕ) (m : Machine) → GoodM a m → state_as (run_m a qs m).machine ≡ exec (fires (kinds_as a)) qs (state_as m)
  run_link qs m g = (run_from_lem qs (record { fired = 0; skipped = 0; machine = m }) g).0

  pub run_fired : (qs : List ℕ) (m : Machine) → GoodM a m → (run_m a qs m).fired ≡ fired (fires (kinds_as a)) qs (state_as m)
  run_fired qs m g = (run_from_lem qs (record { fired = 0; skipped = 0; machine = m }) g).1 ∙ zero-add _

  -- ---- rest

  reads_below : (i p : ℕ) → i < length a.ops → member p (reads (op_in a i)) ≡ true → p < SET
  reads_below i p l m =
      let b = all_member (λ (q : ℕ). ltb q a.queues) (reads (op_in a i)) (sound.each i l).ins p m in
      omega (arith, ltb-true p a.queues b, sound.queues)

  refused_as : (o : Outcome) → accepts o ≡ false → outcome_as o ≡ none
  refused_as (refuse k) h = refl
  refused_as (done m) h = never' h

  pub rest_link : (m : Machine) → GoodM a m → ready_set a m ≡ 0 → Rest (fires (kinds_as a)) (state_as m)
  rest_link m g h q = fire_as a sound m g q ∙ refused_as (fire_m a m q) (ready_rest a m (double 0 0 0) h reads_below q)

-- ---- from the theory's state back to the machine

machine_eq : (m m' : Machine) → m.queues ≡ m'.queues → m.vars ≡ m'.vars → m ≡ m'
machine_eq m m' p q = λ i. record { queues = p i; vars = q i }

pub state_back : (a : Abstract) (m m' : Machine) → GoodM a m → GoodM a m' → state_as m ≡ state_as m' → m ≡ m'
state_back a m m' g g' e =
    machine_eq m m'
    (ext_get_or [] m.queues m'.queues (g.many ∙ sym g'.many)
    (λ q l. same_items (get_or m.queues q []) (get_or m'.queues q []) (ap (λ (s : State TItem ℤ). s.queue q) e)))
    (ext_get_or (pos 0) m.vars m'.vars (g.size ∙ sym g'.size) (λ k l. ap (λ (s : State TItem ℤ). s.var k) e))
