-- How a trial ends, function by function: a refusal, the run of the firings, and the fresh start that the feeds begin with.
-- Assumes nothing.
use mathlib.Core.Path.{◌≡◌, sym, ap, ◌∙◌, subst}
use mathlib.Core.List.{List}
use Prim.Native.Nat.{ℕ}
use lib.ListN.{length, replicate}
use lib.IntN.{ℤ, pos}
use borrow.Author.Tests.{eq-eqb}
use Rattle.std.specs.Prelude.{Result, Ok, Err}
use Rattle.base_refusal.specs.declared.Refusal.{Refusal}
use Rattle.sheet.specs.declared.Sheet.{Sheet}
use Rattle.sheet.specs.Answer.{accepted, refused_at, refused_for}
use Rattle.sheet.specs.Sheet.{view_sheet}
use Rattle.sheet.specs.Check.{check_of}
use Rattle.sheet.proofs.AnswerLaws.{refusal_apart}
use Rattle.sheet_operator.specs.Op.{Abstract}
use Rattle.run_store.specs.Store.{STORE}
use Rattle.run_machine.specs.declared.State.{State}
use Rattle.run_machine.specs.Machine.{Machine, Ran}
use Rattle.run_machine.specs.Numbers.{decode, store_in, GoodM}
use Rattle.run_machine.specs.Calls.{Call, fresh_state, fresh_of}
use Rattle.run_machine.specs.Working.{Stands}
use Rattle.run_machine.specs.Answers.{Answers}
use Rattle.run_machine.proofs.FreshLaws.{fresh_machine, fresh_numbers, fresh_good}
use Rattle.run_machine.proofs.Good.{decode_of_encode, good_of_machine}
use Rattle.run_machine.proofs.Sound.{sound_of_accepted}
use Rattle.bench_records.specs.Records.{machine_in, start}
use Rattle.bench_records.specs.Looks.{feeds_after}
use Rattle.bench_trial.specs.declared.Tried.{Tried}
use Rattle.bench_trial.specs.Trial.{Trial, refusal, ended}
use Rattle.bench_trial.specs.Tries.{answer_of, tried_of, store_after, Tries}

-- ---- what was tried, by what it comes to

-- a refusal that names its record
pub refused_tries : {f : Trial} {number spot : ℕ} {e : Refusal} → f ≡ refusal number spot →
    refused_for e.reason e.spot ≡ refused_at number spot → (s : List ℤ) → Tries f s (Err e) s
refused_tries z d s = record { answered = d ∙ ap answer_of (sym z); tried = ap tried_of (sym z); stored = ap (store_after s) (sym z) }

pub same_trial : {f g : Trial} {before : List ℤ} {r : Result Tried Refusal} {after : List ℤ} → f ≡ g → Tries f before r after → Tries g before r after
same_trial {before = before} {r = r} {after = after} e h = subst (λ (k : Trial). Tries k before r after) e h

-- a run's end does not depend on what the store held before
pub same_end : (a : Abstract) (x y : Ran) → x ≡ y → (before before' : List ℤ) {r : Result Tried Refusal} {after : List ℤ} →
    Tries (ended a x) before r after → Tries (ended a y) before' r after
same_end a x y e before before' h =
    record {
      answered = h.answered;
      tried = h.tried ∙ ap (λ (k : Ran). tried_of (ended a k)) e;
      stored = h.stored ∙ ap (λ (k : Ran). store_in k.machine) e;
    }

-- ---- a fresh start

fresh_call : (st : State) (s : List ℤ) → length s ≡ STORE →
    fresh_of st s ≡ record { answer = accepted; state = fresh_state; store = replicate STORE (pos 0) }
unfolding fresh_of
fresh_call st s e = rw (eq-eqb (length s) STORE e)

-- it is not refused
pub fresh_taken : (st : State) (s : List ℤ) {s' : List ℤ} {e : Refusal} → length s ≡ STORE → Answers (fresh_of st s) st (Err e) s' → ⊥
fresh_taken st s {e = e} l a = refusal_apart e.reason e.spot (sym (a.answered ∙ ap (λ (c : Call). c.answer) (fresh_call st s l)))

module _ (t : Sheet) (h : check_of t ≡ accepted) (st : State) (s : List ℤ) (e : length s ≡ STORE) {st' : State} {s' : List ℤ}
    (a : Answers (fresh_of st s) st (Ok st') s') where
  stated : st' ≡ fresh_state
  stated = a.stated ∙ ap (λ (c : Call). c.state) (fresh_call st s e)

  stored : s' ≡ replicate STORE (pos 0)
  stored = a.stored ∙ ap (λ (c : Call). c.store) (fresh_call st s e)

  good : GoodM (view_sheet t) fresh_machine
  good = fresh_good (view_sheet t) (sound_of_accepted t h)

  pub fresh_stands : Stands t st' s'
  fresh_stands = record { sheet = h; numbers = rw (stated, stored, sym fresh_numbers.1) (good_of_machine (view_sheet t) fresh_machine good) }

  pub fresh_start : decode st' s' ≡ start
  fresh_start = rw (stated, stored, sym fresh_numbers.1) (decode_of_encode (view_sheet t) fresh_machine good)

-- feeds from a machine that is a fresh one
pub fed_from_start : (t : Sheet) (rest : List ℕ) {m m₀ : Machine} → m ≡ machine_in (feeds_after t m₀ rest) → m₀ ≡ start →
    m ≡ machine_in (feeds_after t start rest)
fed_from_start t rest e z = e ∙ ap (λ (k : Machine). machine_in (feeds_after t k rest)) z
