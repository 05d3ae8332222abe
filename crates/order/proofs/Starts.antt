-- A state that refusal 8 lets pass is a good machine's numbers; what a run of it answers and leaves is what the machine does.
-- Assumes nothing.
use mathlib.Core.Path.{◌≡◌, ap, ◌∙◌}
use mathlib.Core.List.{List}
use Prim.Native.Nat.{ℕ}
use lib.IntN.{ℤ}
use Rattle.sheet.specs.declared.Sheet.{Sheet}
use Rattle.sheet.specs.Answer.{accepted}
use Rattle.sheet.specs.Sheet.{view_sheet}
use Rattle.sheet.specs.Check.{check_of}
use Rattle.sheet.proofs.AnswerLaws.{both_stand}
use Rattle.run_machine.specs.declared.State.{State}
use Rattle.run_machine.specs.Machine.{run_m}
use Rattle.run_machine.specs.Ready.{ready_set}
use Rattle.run_machine.specs.Numbers.{decode, good, GoodM}
use Rattle.run_machine.specs.Calls.{RunCall, saved_run, ready_call, run_of, ready_of}
use Rattle.run_machine.proofs.Good.{machine_of_good}
use Rattle.run_machine.proofs.Sound.{Sound, sound_of_accepted}
use Rattle.run_machine.proofs.Keeps.{run_keeps}
use Rattle.order.specs.Firings.{GoodStart, ready_after}
use Rattle.order.proofs.Held.{ready_held}

module _ (t : Sheet) (st : State) (s : List ℤ) (start : GoodStart t st s) where
  pub start_sheet : check_of t ≡ accepted
  start_sheet = (both_stand (check_of t) (good (view_sheet t) st s) start.stands).0

  pub start_good : GoodM (view_sheet t) (decode st s)
  start_good =
      machine_of_good (view_sheet t) st s (both_stand (check_of t) (good (view_sheet t) st s) start.stands).1 start.size.counts start.size.vars

  pub start_sound : Sound (view_sheet t)
  start_sound = sound_of_accepted t start_sheet

  pub run_of_start : (qs : List ℕ) → run_of t st s qs ≡ saved_run (run_m (view_sheet t) qs (decode st s))
  unfolding run_of
  run_of_start qs = rw start.stands

  pub ready_of_start : (qs : List ℕ) →
      ready_after t st s qs ≡ ready_call accepted (ready_set (view_sheet t) (run_m (view_sheet t) qs (decode st s)).machine)
  ready_of_start qs =
      ap (λ (r : RunCall). ready_of t r.call.state r.call.store) (run_of_start qs)
      ∙ ready_held t start_sheet (run_m (view_sheet t) qs (decode st s)).machine
      (run_keeps (view_sheet t) start_sound qs (record { fired = 0; skipped = 0; machine = decode st s }) start_good)
