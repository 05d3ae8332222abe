-- What trying an input answers and leaves tells what the input comes to, and stands where it is not refused.
-- Assumes nothing.
use mathlib.Core.Path.{◌≡◌, sym, ap, ◌∙◌, subst}
use mathlib.Core.Logic.{◌⊎◌, ⊎_elim}
use mathlib.Core.Bool.{true}
use mathlib.Core.List.{List}
use Prim.Native.Nat.{ℕ}
use lib.IntN.{ℤ}
use Rattle.std.specs.Prelude.{Result, Ok, Err, Option, Some, None, IfOk}
use Rattle.std.specs.Option.{unwrap_or}
use Rattle.base_refusal.specs.declared.Reason.{Reason}
use Rattle.base_refusal.specs.declared.Refusal.{Refusal}
use Rattle.base_refusal.specs.Refusal.{number_of}
use Rattle.sheet_operator.specs.Op.{Abstract}
use Rattle.sheet.specs.Answer.{refused_at, refused_for, paper}
use Rattle.sheet.proofs.AnswerLaws.{same_refusal, accepted_apart, record_apart, value_of}
use Rattle.sheet.specs.Sheet.{view_sheet, memory_sheet}
use Rattle.run_machine.specs.Machine.{Machine}
use Rattle.run_machine.specs.Numbers.{decode, state_of, store_in, good}
use Rattle.run_machine.proofs.Good.{decode_of_encode, good_of_machine}
use Rattle.bench_trial.specs.declared.Tried.{Tried}
use Rattle.bench_trial.specs.Trial.{Trial, refusal, ended, at_rest}
use Rattle.bench_trial.specs.Tries.{answer_of, none_tried, tried_of, store_after, Tries}
use Rattle.bench_trial.proofs.Within.{Ended, Refused}
use Rattle.bench_report.specs.Print.{told, Shown}

-- ---- a refusal that names a record

told_at : (reason : Reason) (at : Option ℕ) (number spot : ℕ) → refused_for reason at ≡ refused_at number spot →
    refusal (number_of reason) (unwrap_or at 0) ≡ refusal number spot
told_at reason (Some k) number spot e = let p = same_refusal (number_of reason) number k spot e in cc
told_at reason None number spot e = absurd (record_apart number (number_of reason) spot (sym e))

told_refusal : (r : Result Tried Refusal) (s : List ℤ) (number spot : ℕ) → paper r ≡ refused_at number spot → told r s ≡ refusal number spot
told_refusal (Ok x) s number spot e = absurd (accepted_apart number spot e)
told_refusal (Err d) s number spot e = told_at d.reason d.spot number spot e

not_shown : (r : Result Tried Refusal) (s : List ℤ) (number spot : ℕ) → paper r ≡ refused_at number spot → IfOk r (λ (x : Tried). Shown x s)
not_shown (Ok x) s number spot e = absurd (accepted_apart number spot e)
not_shown (Err d) s number spot e = tt

module _ (f : Trial) (before : List ℤ) (r : Result Tried Refusal) (after : List ℤ) (h : Tries f before r after) where
  -- ---- a refused input, whatever its number and record

  module _ (number spot : ℕ) (same : f ≡ refusal number spot) where
    answered : paper r ≡ refused_at number spot
    answered = h.answered ∙ ap answer_of same

    pub tells_refusal : told r after ≡ f
    tells_refusal = told_refusal r after number spot answered ∙ sym same

    pub shows_refusal : IfOk r (λ (x : Tried). Shown x after)
    shows_refusal = not_shown r after number spot answered

  -- ---- an input that is run

  module _ (q : Ended f) where
    abbrev a : Abstract
    a = q.sheet

    abbrev m : Machine
    m = q.ran.machine

    ran : r ≡ Ok (tried_of (ended a q.ran))
    ran = value_of r none_tried (h.answered ∙ ap answer_of q.same) ∙ ap Ok (h.tried ∙ ap tried_of q.same)

    stored : after ≡ store_in m
    stored = h.stored ∙ ap (store_after before) q.same

    back : decode (state_of m) (store_in m) ≡ m
    back = decode_of_encode a m q.good

    tells_end : told r after ≡ f
    tells_end =
        ap (λ (x : Result Tried Refusal). told x after) ran ∙ ap (told (Ok (tried_of (ended a q.ran)))) stored
        ∙ ap (λ (b : Abstract). ended b (record {
          fired = q.ran.fired;
          skipped = q.ran.skipped;
          machine = decode (state_of m) (store_in m);
        })) q.view
        ∙ ap (λ (k : Machine). ended a (record { fired = q.ran.fired; skipped = q.ran.skipped; machine = k })) back
        ∙ sym q.same

    shown_as : Shown (tried_of (ended a q.ran)) (store_in m)
    shown_as =
        record {
          stands = record {
            sheet = q.accepted;
            numbers = subst (λ (b : Abstract). good b (state_of m) (store_in m) ≡ true) (sym q.view) (good_of_machine a m q.good);
          };
          rest = ap (λ (b : Abstract). at_rest b m) (sym q.view) ∙ ap (at_rest (view_sheet (memory_sheet a))) (sym back);
        }

    shown_end : IfOk r (λ (x : Tried). Shown x after)
    shown_end = rw (ran, stored) shown_as

  pub tells : Ended f ⊎ Refused f → told r after ≡ f
  tells w = ⊎_elim tells_end (λ (q : Refused f). tells_refusal q.number q.spot q.same) w

  pub shows : Ended f ⊎ Refused f → IfOk r (λ (x : Tried). Shown x after)
  shows w = ⊎_elim shown_end (λ (q : Refused f). shows_refusal q.number q.spot q.same) w
