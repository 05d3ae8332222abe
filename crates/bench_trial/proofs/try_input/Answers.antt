-- `bench_trial::try_input` meets its contract: over-long input, the front's refusal, a queue that is never defined, or the sheet's feeds and firings.
-- Assumes nothing.
use mathlib.Core.Path.{◌≡◌, refl}
use native.Mathlib.Omega.{arith}
use borrow.Author.Tests.{not-true, not-false}
use borrow.Author.Rules.{rules}
use Rattle.std.specs.Prelude.{Result, Err}
use Rattle.base_refusal.specs.declared.Refusal.{Refusal}
use Rattle.bench_trial.specs.declared.Tried.{Tried}
use Rattle.bench_trial.proofs.Ending.{refused_tries, same_trial}
use Rattle.bench_trial.proofs.Front.{input_long, front_refused, front_gap, front_whole_lem}
use Rattle.bench_trial.proofs.try_input.Goals as goal

pub returns-then-s-gt-INPUT : goal.returns-then-s-gt-INPUT
returns-then-s-gt-INPUT c = rw c.at.ensures (refused_tries (input_long c.args.s.now c.if-s-gt-INPUT.true) refl _)

pub returns-in_err-f : goal.returns-in_err-f
returns-in_err-f c =
    let e : ◌≡◌ {A = Result Tried Refusal} c.from_residual.result (Err c.in_err-f.field-0.0) = search rules in
    rw e (front_refused c.args.s.now (omega arith) c.in_err-f.ensures _)

pub returns-then-not-f : goal.returns-then-not-f
returns-then-not-f c =
    rw c.at-then-not-f.ensures
    (refused_tries (front_gap c.args.s.now (omega arith) c.in_ok-f.ensures (not-true _ c.if-not-f.true)) refl _)

pub try_sheet-requires : goal.try_sheet-requires
try_sheet-requires c =
    let w = front_whole_lem c.args.s.now (omega arith) c.in_ok-f.ensures (λ j. (c.type_inv.s j).fits) (not-false _ c.if-not-f.false) in
    (w.front, c.requires)

pub returns : goal.returns
returns c =
    let w = front_whole_lem c.args.s.now (omega arith) c.in_ok-f.ensures (λ j. (c.type_inv.s j).fits) (not-false _ c.if-not-f.false) in
    same_trial w.trial c.try_sheet.ensures
