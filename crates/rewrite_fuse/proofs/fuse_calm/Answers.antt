-- `rewrite_fuse::fuse_calm` meets its contract: one law for each refusal, and the sheet closed up.
-- Assumes nothing.
use mathlib.Core.Path.{◌≡◌}
use native.Mathlib.Omega.{arith}
use Rattle.std.proofs.Common.{rules}
use Rattle.std.specs.Prelude.{Err, None}
use Rattle.base_refusal.specs.Refusal.{refusal}
use Rattle.base_refusal.specs.declared.Reason.TheVariants.{TooLarge}
use Rattle.sheet.proofs.Accepted.{ranges_of_accepted}
use Rattle.sheet.proofs.InMemory.{held_sheet}
use Rattle.rewrite_rules.proofs.Answers.{rewrites_no, rewrites_done}
use Rattle.rewrite_rules.proofs.Pairs.{few_steps, two_lines}
use Rattle.rewrite_fuse.proofs.Fusing as law
use Rattle.rewrite_fuse.proofs.fuse_calm.Goals as goal

pub returns-in_err-j : goal.returns-in_err-j
returns-in_err-j c =
    let k = c.in_err-j.field-0.0 in
    let e : c.from_residual.result ≡ Err (refusal k None) = search rules in
    rw e (rewrites_no _ k (law.fuse_refused c.args.t c.args.a k c.in_err-j.ensures))

pub overflow_add-o : goal.overflow_add-o
overflow_add-o c = omega (arith, few_steps c.args.t c.args.a c.in_ok-j.j c.in_ok-j.ensures.found c.requires)

pub returns-then-o-p : goal.returns-then-o-p
returns-then-o-p c =
    rw c.into.ensures (rewrites_no _ TooLarge
    (law.fuse_long c.args.t c.args.a c.in_ok-j.j c.in_ok-j.ensures.found c.if-o-p.true))

pub joined-requires : goal.joined-requires
joined-requires c =
    (two_lines c.args.t c.args.a c.in_ok-j.j c.in_ok-j.ensures.found c.requires (held_sheet c.args.t _ c.well_formed.0), c.if-o-p.false)

pub overflow_sub-result : goal.overflow_sub-result
overflow_sub-result c = omega (arith, ranges_of_accepted c.args.t c.requires)

pub closed_up-requires : goal.closed_up-requires
closed_up-requires c = ((ranges_of_accepted c.args.t c.requires).count, c.in_ok-j.ensures.found.below)

pub returns : goal.returns
returns c =
    let p = c.in_ok-j.ensures.found in
    let j = c.in_ok-j.j in
    rewrites_done _ _ _
    (law.fuse_done c.args.t c.args.a j p c.if-o-p.false)
    (law.fused_places c.args.t c.requires (held_sheet c.args.t _ c.well_formed.0) c.args.a j p _ _ c.joined.ensures c.closed_up.ensures)
