-- `counts::worst` meets its contract: one law for each answer.
-- Assumes nothing.
use mathlib.Core.Path.{ap, ◌∙◌, sym}
use native.Mathlib.Omega.{arith}
use Rattle.sheet.specs.Answer.{is_accepted}
use Rattle.sheet.proofs.AnswerLaws.{refusal_refuses}
use Rattle.counts.proofs.WorstLaws.{worst_refused, worst_overfed, worst_counted, fed_most}
use Rattle.counts.proofs.worst.Goals as goal

pub returns-in_err-check : goal.returns-in_err-check
returns-in_err-check c =
    let e = c.in_err-check.field-0.0 in
    let h = c.in_err-check.ensures in
    let k = worst_refused c.args.t c.args.fed (ap is_accepted (sym h) ∙ refusal_refuses e.reason e.spot) in
    grind (arith, k)

pub returns-then-not-feed_good : goal.returns-then-not-feed_good
returns-then-not-feed_good c =
    let h = c.in_ok-check.ensures in
    let k = worst_overfed c.args.t c.args.fed (sym h) (sym c.feed_good.ensures ∙ c.if-not-feed_good.true) in
    record { answer = rw (k, c.into.ensures); counts = rw k }

pub sheet_counts-requires : goal.sheet_counts-requires
sheet_counts-requires c =
    (sym c.in_ok-check.ensures, fed_most c.args.t.inputs c.args.fed (sym c.feed_good.ensures ∙ c.if-not-feed_good.false) (omega arith))

pub returns : goal.returns
returns c =
    let k = worst_counted c.args.t c.args.fed (sym c.in_ok-check.ensures) (sym c.feed_good.ensures ∙ c.if-not-feed_good.false) in
    record { answer = rw k; counts = rw k c.sheet_counts.ensures }
