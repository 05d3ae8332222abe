-- From any good state of an accepted sheet some list of firings ends at rest.
-- Assumes nothing.
use mathlib.Core.Path.{◌≡◌, refl, ap, ◌∙◌}
use mathlib.Core.Logic.{◌⊎◌, inl, inr, ⊎_elim}
use mathlib.Core.Bool.{true}
use mathlib.Core.List.{List, [], ◌∷◌}
use Prim.Native.Nat.{ℕ, zero, suc, ◌≤◌, ◌<◌}
use native.Mathlib.Nat.{zero-add}
use native.Mathlib.Omega.{arith}
use lib.Count.{count_trailing_zeros}
use Rattle.base_lists.proofs.Build.{order, never}
use Rattle.sheet_operator.specs.Op.{Abstract}
use Rattle.sheet.specs.Sheet.{view_sheet}
use Rattle.run_machine.specs.Machine.{Machine, Outcome, refuse, done, fire_m, Ran, ran_on, run_from}
use Rattle.run_machine.specs.Ready.{SET, accepts, ready_at, ready_set}
use Rattle.run_machine.specs.Numbers.{decode, GoodM}
use Rattle.run_machine.specs.Calls.{ReadyCall}
use Rattle.run_machine.proofs.Sound.{Sound}
use Rattle.run_machine.proofs.Keeps.{fire_keeps}
use Rattle.run_machine.proofs.ReadyLaws.{bits_zero_of, ready_lowest}
use Rattle.order.specs.Firings.{ReachesRest}
use Rattle.order.proofs.Starts.{start_sheet, start_good, start_sound, ready_of_start}
use Rattle.order.proofs.Readers.{Onward, onward_of_accepted}
use Rattle.order.proofs.Mass.{mass_of, fire_lowers}

-- ---- the machine

-- nothing can fire, or some queue can
accepted_is_done : (o : Outcome) → accepts o ≡ true → (m : Machine) × (o ≡ done m)
accepted_is_done (refuse k) h = never h
accepted_is_done (done m) h = (m, refl)

pub rests_or_fires : (a : Abstract) (m : Machine) → (ready_set a m ≡ 0) ⊎ ((q : ℕ) × ((m' : Machine) × (fire_m a m q ≡ done m')))
unfolding ready_set
rests_or_fires a m =
    let t = count_trailing_zeros SET (ready_set a m) in
    let l = ready_lowest a m in
    ⊎_elim (λ (b : t < SET). inr (t, accepted_is_done (fire_m a m t) (l.ready b)))
    (λ (b : SET ≤ t). inl (bits_zero_of (ready_at a m) 0 SET (λ k c. ap (ready_at a m) (zero-add k) ∙ l.below k (omega arith))))
    (order t SET)

-- by induction on the mass
pub run_reaches : (a : Abstract) → Sound a → Onward a → (n : ℕ) (r : Ran) → GoodM a r.machine → mass_of a r.machine < n →
    (l : List ℕ) × (ready_set a (run_from a l r).machine ≡ 0)
unfolding run_from
run_reaches a s p zero r g h = absurd (omega arith)
run_reaches a s p (suc n) r g h =
    ⊎_elim (λ (z : ready_set a r.machine ≡ 0). ([], z))
    (λ (f : (q : ℕ) × ((m' : Machine) × (fire_m a r.machine q ≡ done m'))).
    let q = f.0 in
    let m' = f.1.0 in
    let e = f.1.1 in
    let next : (ran_on (fire_m a r.machine q) r).machine ≡ m' = ap (λ (o : Outcome). (ran_on o r).machine) e in
    let k = run_reaches a s p n (ran_on (fire_m a r.machine q) r) (rw next (fire_keeps a s r.machine g q m' e))
    (rw next (omega (arith, fire_lowers a p r.machine g q m' e))) in
    (q ∷ k.0, k.1))
    (rests_or_fires a r.machine)

-- ---- the calls

pub reaches_rest : ReachesRest
reaches_rest t st s start =
    let a = view_sheet t in
    let p = start_sound t st s start in
    let n = onward_of_accepted t (start_sheet t st s start) in
    let r = run_reaches a p n (suc (mass_of a (decode st s))) (record { fired = 0; skipped = 0; machine = decode st s })
    (start_good t st s start) (omega arith) in
    let e = ready_of_start t st s start r.0 in
    (r.0, ap (λ (c : ReadyCall). c.set) e ∙ r.1, ap (λ (c : ReadyCall). c.answer) e)
