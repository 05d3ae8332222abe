-- Any two orders of firings of a calm sheet that come to rest from one state fire equally often and leave the same state and store.
-- Assumes nothing.
use mathlib.Core.Path.{◌≡◌, sym, ap, ◌∙◌, subst}
use mathlib.Core.Bool.{true}
use mathlib.Core.List.{List}
use Prim.Native.Nat.{ℕ}
use lib.IntN.{ℤ}
use Rattle.base_lists.proofs.Tests.{both}
use Rattle.sheet_operator.specs.Op.{Abstract}
use Rattle.sheet.specs.declared.Sheet.{Sheet}
use Rattle.sheet.specs.Answer.{accepted, is_accepted}
use Rattle.sheet.specs.Sheet.{view_sheet}
use Rattle.sheet.specs.Check.{check_of}
use Rattle.counts.specs.Calm.{is_calm}
use Rattle.run_machine.specs.declared.State.{State}
use Rattle.run_machine.specs.Machine.{Machine, run_m}
use Rattle.run_machine.specs.Ready.{ready_set}
use Rattle.run_machine.specs.Numbers.{decode, GoodM}
use Rattle.run_machine.specs.Calls.{RunCall, ReadyCall}
use Rattle.run_machine.proofs.Keeps.{run_keeps}
use Rattle.run_machine.proofs.Sound.{Sound}
use Rattle.order_theory.proofs.Runs.{Rest, exec}
use Rattle.order_theory.proofs.Orders.{Calm, fires, one_rest}
use Rattle.order.specs.Firings.{GoodStart, ready_after, OneEnd, OneRest}
use Rattle.order.proofs.Model.{kinds_as, state_as}
use Rattle.order.proofs.RunLink.{run_link, run_fired, rest_link, state_back}
use Rattle.order.proofs.CalmLink.{calm_link}
use Rattle.order.proofs.Held.{held}
use Rattle.order.proofs.Starts.{start_sheet, start_good, start_sound, run_of_start, ready_of_start}

-- ---- of machines

module _ (a : Abstract) (sound : Sound a) (m : Machine) (g : GoodM a m) where
  run_good : (qs : List ℕ) → GoodM a (run_m a qs m).machine
  run_good qs = run_keeps a sound qs (record { fired = 0; skipped = 0; machine = m }) g

  rest_at : (qs : List ℕ) → ready_set a (run_m a qs m).machine ≡ 0 → Rest (fires (kinds_as a)) (exec (fires (kinds_as a)) qs (state_as m))
  rest_at qs h =
      subst (λ s. Rest (fires (kinds_as a)) s) (run_link a sound qs m g) (rest_link a sound (run_m a qs m).machine (run_good qs) h)

  pub one_machine : Calm (kinds_as a) → (l l' : List ℕ) → ready_set a (run_m a l m).machine ≡ 0 → ready_set a (run_m a l' m).machine ≡ 0 →
      ((run_m a l m).fired ≡ (run_m a l' m).fired) × ((run_m a l m).machine ≡ (run_m a l' m).machine)
  one_machine c l l' h h' =
      let e = one_rest (kinds_as a) c l l' (state_as m) (rest_at l h) (rest_at l' h') in (
        run_fired a sound l m g ∙ e.0 ∙ sym (run_fired a sound l' m g),
        state_back a (run_m a l m).machine (run_m a l' m).machine (run_good l) (run_good l')
            (run_link a sound l m g ∙ e.1 ∙ sym (run_link a sound l' m g)),
      )

-- ---- of calls

calm_kinds : (t : Sheet) → check_of t ≡ accepted → is_calm (view_sheet t) ≡ true → Calm (kinds_as (view_sheet t))
calm_kinds t h c =
    let k = calm_link t h c in
    let f = Rattle.order_theory.proofs.Accept.accepted t.inputs t.queues (kinds_as (view_sheet t)) k.acc in
    record { def_once = f.def_once; apart = f.apart }

module _ (t : Sheet) (st : State) (s : List ℤ) (start : GoodStart t st s) where
  rest_is : (qs : List ℕ) → (ready_after t st s qs).set ≡ 0 → ready_set (view_sheet t) (run_m (view_sheet t) qs (decode st s)).machine ≡ 0
  rest_is qs z = sym (ap (λ (r : ReadyCall). r.set) (ready_of_start t st s start qs)) ∙ z

  ends : is_calm (view_sheet t) ≡ true → (l l' : List ℕ) → (ready_after t st s l).set ≡ 0 → (ready_after t st s l').set ≡ 0 → OneEnd t st s l l'
  ends c l l' z z' =
      let e = one_machine (view_sheet t) (start_sound t st s start) (decode st s) (start_good t st s start)
      (calm_kinds t (start_sheet t st s start) c) l l' (rest_is l z) (rest_is l' z') in
      let i = run_of_start t st s start in
      record {
        at_rest = ap (λ (r : ReadyCall). r.answer) (ready_of_start t st s start l);
        fired = ap (λ (r : RunCall). r.fired) (i l) ∙ e.0 ∙ sym (ap (λ (r : RunCall). r.fired) (i l'));
        call = ap (λ (r : RunCall). r.call) (i l) ∙ ap held e.1 ∙ sym (ap (λ (r : RunCall). r.call) (i l'));
      }

pub one_rest_of_calm : OneRest
one_rest_of_calm t st s l l' c start z z' =
    ends t st s start (both (is_accepted (check_of t)) (is_calm (view_sheet t)) c).1 l l' z z'
