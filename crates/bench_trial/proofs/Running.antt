-- What the run of the firings comes to, as a trial ends.
-- Assumes nothing.
use mathlib.Core.Path.{◌≡◌, refl, sym, ap, ◌∙◌}
use mathlib.Core.Bool.{Bool}
use mathlib.Core.List.{List}
use Prim.Native.Nat.{ℕ}
use lib.Dec.{eqb}
use lib.ListN.{length}
use lib.IntN.{ℤ}
use Rattle.base_bounds.specs.Bounds.{VARIABLES, QUEUES}
use Rattle.std.specs.Prelude.{Ok}
use Rattle.sheet.specs.declared.Sheet.{Sheet}
use Rattle.sheet.specs.Sheet.{view_sheet, memory_sheet}
use Rattle.run_machine.specs.declared.RunEnd.{RunEnd}
use Rattle.run_machine.specs.declared.State.{State}
use Rattle.run_machine.specs.Machine.{Ran, run_m}
use Rattle.run_machine.specs.Ready.{ready_set}
use Rattle.run_machine.specs.Numbers.{decode, GoodM}
use Rattle.run_machine.specs.Calls.{saved_run}
use Rattle.run_machine.specs.Working.{Stands}
use Rattle.run_machine.specs.Answers.{RunAnswers}
use Rattle.run_machine.proofs.Good.{decode_of_encode, good_of_machine, machine_of_good}
use Rattle.run_machine.proofs.Keeps.{run_keeps}
use Rattle.run_machine.proofs.Sound.{sound_of_accepted}
use Rattle.bench_trial.specs.declared.Tried.{Tried}
use Rattle.bench_trial.specs.Trial.{ended}
use Rattle.bench_trial.specs.Tries.{Tries}

tried_eq : {f f' g g' : ℕ} {b b' : Bool} {t t' : Sheet} {st st' : State} → f ≡ f' → g ≡ g' → b ≡ b' → t ≡ t' → st ≡ st' →
    ◌≡◌ {A = Tried} (record { fired = f; skipped = g; rest = b; sheet = t; state = st })
    (record { fired = f'; skipped = g'; rest = b'; sheet = t'; state = st' })
tried_eq p q r u v = rw (p, q, r, u, v)

module _ (t : Sheet) (st : State) (s : List ℤ) (qs : List ℕ) (h : Stands t st s) (c : length st.counts ≡ QUEUES)
    (v : length st.vars ≡ VARIABLES)
    {x : RunEnd} {s' : List ℤ} (a : RunAnswers (saved_run (run_m (view_sheet t) qs (decode st s))) st (Ok x) s') where
  abbrev ran : Ran
  ran = run_m (view_sheet t) qs (decode st s)

  good_then : GoodM (view_sheet t) ran.machine
  good_then =
      run_keeps (view_sheet t) (sound_of_accepted t h.sheet) qs (record { fired = 0; skipped = 0; machine = decode st s })
      (machine_of_good (view_sheet t) st s h.numbers c v)

  back : decode x.state s' ≡ ran.machine
  back = rw (a.stated, a.stored) (decode_of_encode (view_sheet t) ran.machine good_then)

  pub stands_then : Stands t x.state s'
  stands_then =
      record { sheet = h.sheet; numbers = rw (a.stated, a.stored) (good_of_machine (view_sheet t) ran.machine good_then) }

  pub run_ended : memory_sheet (view_sheet t) ≡ t → (n : ℕ) → n ≡ ready_set (view_sheet t) (decode x.state s') →
      Tries (ended (view_sheet t) (run_m (view_sheet t) qs (decode st s))) s
      (Ok (record { fired = x.fired; skipped = x.skipped; rest = eqb n 0; sheet = t; state = x.state })) s'
  run_ended same n b =
      let e : n ≡ ready_set (view_sheet t) ran.machine = b ∙ ap (ready_set (view_sheet t)) back in
      record { answered = refl; tried = tried_eq a.firings a.skips (ap (λ (k : ℕ). eqb k 0) e) (sym same) a.stated; stored = a.stored }
