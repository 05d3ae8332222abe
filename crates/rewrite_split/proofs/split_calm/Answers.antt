-- `rewrite_split::split_calm` meets its contract: the tests are those of `split`, in its order.
use mathlib.Core.Path.{sym, ◌∙◌}
use native.Mathlib.Omega.{arith}
use Rattle.base_refusal.specs.declared.Reason.TheVariants.{NoOperator, NoLine, TooLarge, Forbidden}
use Rattle.sheet.proofs.Accepted.{ranges_of_accepted}
use Rattle.rewrite_rules.proofs.Answers.{rewrites_no, rewrites_done}
use Rattle.rewrite_split.proofs.Splitting.{in_range, refuses_14, refuses_15, refuses_16, refuses_17, steps_few, splits_done, splits_of}
use Rattle.rewrite_split.proofs.split_calm.Goals as goal

pub returns-then-not-in_range : goal.returns-then-not-in_range
returns-then-not-in_range c =
    let a = c.args in
    rw c.into.ensures (rewrites_no _ NoOperator
    (refuses_14 a.t a.a a.k (sym c.in_range.ensures ∙ c.if-not-in_range.true)))

pub bounds-t-i : goal.bounds-t-i
bounds-t-i c =
    let r = in_range c.args.t c.args.a c.args.k (sym c.in_range.ensures ∙ c.if-not-in_range.false) in
    omega (arith, ranges_of_accepted c.args.t c.requires)

pub returns-then-not-is_line : goal.returns-then-not-is_line
returns-then-not-is_line c =
    let a = c.args in
    rw c.into-then-not-is_line.ensures (rewrites_no _ NoLine
    (refuses_15 a.t a.a a.k (sym c.in_range.ensures ∙ c.if-not-in_range.false) (sym c.is_line.ensures ∙ c.if-not-is_line.true)))

pub returns-then-not-has_room : goal.returns-then-not-has_room
returns-then-not-has_room c =
    let a = c.args in
    rw c.into-then-not-has_room.ensures (rewrites_no _ TooLarge
    (refuses_16 a.t a.a a.k (sym c.in_range.ensures ∙ c.if-not-in_range.false) c.requires
    (sym c.is_line.ensures ∙ c.if-not-is_line.false) (sym c.has_room.ensures ∙ c.if-not-has_room.true)))

pub steps_free-requires : goal.steps_free-requires
steps_free-requires c =
    steps_few c.args.t c.args.a c.args.k (sym c.in_range.ensures ∙ c.if-not-in_range.false) c.requires
    (sym c.is_line.ensures ∙ c.if-not-is_line.false)

pub returns-then-not-steps_free : goal.returns-then-not-steps_free
returns-then-not-steps_free c =
    let a = c.args in
    rw c.into-then-not-steps_free.ensures (rewrites_no _ Forbidden
    (refuses_17 a.t a.a a.k (sym c.in_range.ensures ∙ c.if-not-in_range.false) c.requires
    (sym c.is_line.ensures ∙ c.if-not-is_line.false) (sym c.has_room.ensures ∙ c.if-not-has_room.false)
    (sym c.steps_free.ensures ∙ c.if-not-steps_free.true)))

pub parted_sheet-requires : goal.parted_sheet-requires
parted_sheet-requires c =
    let a = c.args in
    splits_of a.t a.a a.k (sym c.in_range.ensures ∙ c.if-not-in_range.false) c.requires
    (sym c.is_line.ensures ∙ c.if-not-is_line.false) (sym c.has_room.ensures ∙ c.if-not-has_room.false)

pub returns : goal.returns
returns c =
    let a = c.args in
    rewrites_done _ _ _
    (splits_done a.t a.a a.k (sym c.in_range.ensures ∙ c.if-not-in_range.false) c.requires
    (sym c.is_line.ensures ∙ c.if-not-is_line.false) (sym c.has_room.ensures ∙ c.if-not-has_room.false)
    (sym c.steps_free.ensures ∙ c.if-not-steps_free.false))
    c.parted_sheet.ensures
