-- `rewrite_reorder::reorder_calm` meets its contract: one law for each refusal, and the sheet with the two stores.
-- Assumes nothing.
use mathlib.Core.Path.{◌≡◌, sym, ◌∙◌}
use Rattle.std.proofs.Common.{rules}
use Rattle.std.specs.Prelude.{Err, None}
use Rattle.base_refusal.specs.Refusal.{refusal}
use Rattle.base_refusal.specs.declared.Reason.TheVariants.{Forbidden}
use Rattle.sheet.proofs.InMemory.{held_sheet}
use Rattle.rewrite_rules.proofs.Answers.{rewrites_no, rewrites_done}
use Rattle.rewrite_rules.proofs.Pairs.{few_steps, two_lines}
use Rattle.rewrite_reorder.proofs.Reordering as law
use Rattle.rewrite_reorder.proofs.reorder_calm.Goals as goal

pub returns-in_err-j : goal.returns-in_err-j
returns-in_err-j c =
    let k = c.in_err-j.field-0.0 in
    let e : c.from_residual.result ≡ Err (refusal k None) = search rules in
    rw e (rewrites_no _ k (law.reorder_refused c.args.t c.args.a k c.in_err-j.ensures))

pub apart-requires : goal.apart-requires
apart-requires c =
    let p = c.in_ok-j.ensures.found in
    let few = few_steps c.args.t c.args.a c.in_ok-j.j p c.requires in
    (few.0, few.1, p.first, p.second)

pub returns-then-not-apart : goal.returns-then-not-apart
returns-then-not-apart c =
    rw c.into.ensures (rewrites_no _ Forbidden
    (law.reorder_forbidden c.args.t c.args.a c.in_ok-j.j c.in_ok-j.ensures.found (sym c.apart.ensures ∙ c.if-not-apart.true)))

pub with_steps-requires : goal.with_steps-requires
with_steps-requires c =
    two_lines c.args.t c.args.a c.in_ok-j.j c.in_ok-j.ensures.found c.requires (held_sheet c.args.t _ c.well_formed.0)

pub with_steps-requires-2 : goal.with_steps-requires-2
with_steps-requires-2 c =
    let w = two_lines c.args.t c.args.a c.in_ok-j.j c.in_ok-j.ensures.found c.requires (held_sheet c.args.t _ c.well_formed.0) in
    record { first = w.second; second = w.first; first_placed = w.second_placed; second_placed = w.first_placed }

pub returns : goal.returns
returns c =
    let p = c.in_ok-j.ensures.found in
    let j = c.in_ok-j.j in
    rewrites_done _ _ _
    (law.reorder_done c.args.t c.args.a j p (sym c.apart.ensures ∙ c.if-not-apart.false))
    (law.exchanged_places c.args.t c.requires (held_sheet c.args.t _ c.well_formed.0) c.args.a j p _ _ c.with_steps.ensures
    c.with_steps-2.ensures)
