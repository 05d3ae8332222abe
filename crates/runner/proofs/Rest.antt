-- At rest: where sheet and numbers stand, the ready set is 0 exactly if `fire` refuses every queue number.
-- Assumes nothing.
use mathlib.Core.Path.{◌≡◌, refl, sym, ◌∙◌}
use mathlib.Core.Bool.{false}
use mathlib.Core.List.{List}
use Prim.Native.Nat.{ℕ}
use native.Mathlib.Omega.{arith}
use lib.IntN.{ℤ}
use Rattle.sheet_operator.specs.Op.{double}
use Rattle.sheet.specs.declared.Sheet.{Sheet}
use Rattle.sheet.specs.Answer.{is_accepted}
use Rattle.sheet.specs.Sheet.{view_sheet}
use Rattle.run_machine.specs.declared.State.{State}
use Rattle.run_machine.specs.Machine.{Outcome, refuse, done, fire_m}
use Rattle.run_machine.specs.Ready.{accepts, ready_set}
use Rattle.run_machine.specs.Numbers.{decode}
use Rattle.run_machine.specs.Calls.{saved, fire_of, ready_of}
use Rattle.run_machine.specs.Working.{Stands}
use Rattle.run_machine.proofs.Found.{reads_in_table}
use Rattle.run_machine.proofs.ReadyLaws.{ready_rest, rest_ready}

saved_accepted : (st : State) (s : List ℤ) (o : Outcome) → is_accepted (saved st s o).answer ≡ accepts o
saved_accepted st s (refuse k) = refl
saved_accepted st s (done m) = refl

module _ (t : Sheet) (st : State) (s : List ℤ) (h : Stands t st s) where
  fire_accepted : (q : ℕ) → is_accepted (fire_of t st s q).answer ≡ accepts (fire_m (view_sheet t) (decode st s) q)
  unfolding fire_of
  fire_accepted q = rw (h.sheet, h.numbers) (saved_accepted st s (fire_m (view_sheet t) (decode st s) q))

  set_is : (ready_of t st s).set ≡ ready_set (view_sheet t) (decode st s)
  unfolding ready_of
  set_is = rw (h.sheet, h.numbers)

  pub rest_refuses_all : (ready_of t st s).set ≡ 0 → (q : ℕ) → is_accepted (fire_of t st s q).answer ≡ false
  rest_refuses_all z q =
      fire_accepted q
      ∙ ready_rest (view_sheet t) (decode st s) (double 0 0 0) (sym set_is ∙ z) (λ i p l m. omega (arith, reads_in_table t h.sheet (double 0 0 0) i p l m)) q

  pub all_refused_rests : ((q : ℕ) → is_accepted (fire_of t st s q).answer ≡ false) → (ready_of t st s).set ≡ 0
  all_refused_rests r = set_is ∙ rest_ready (view_sheet t) (decode st s) (λ q. sym (fire_accepted q) ∙ r q)
