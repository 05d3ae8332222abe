-- `rewrite_rules::line_after` meets its contract: the runner names the operator after the line, and one law stands for each return.
-- Assumes nothing.
use mathlib.Core.Path.{◌≡◌, sym, ◌∙◌}
use mathlib.Core.Bool.{true}
use Prim.Native.Nat.{◌<◌}
use native.Mathlib.Omega.{arith}
use Rattle.sheet_operator.specs.Memory.{view}
use Rattle.base_bounds.specs.Bounds.{OPERATORS}
use Rattle.sheet.specs.Sheet.{op_at}
use Rattle.rewrite_rules.specs.Rewrite.{is_line}
use Rattle.rewrite_rules.proofs.Pairs.{place_below, follows_past, follows_no_line, follows_unread, found_below, follows_other, follows_found}
use Rattle.rewrite_rules.proofs.line_after.Goals as goal
use Rattle.rewrite_rules.proofs.line_after.Goals.{Else-not-is_line, In-Ok}

-- operator a is a line
first : (c : Else-not-is_line) → is_line (view (op_at c.args.t c.args.a)) ≡ true
first c = sym c.is_line.ensures ∙ c.if-not-is_line.false

-- and the place that the runner answers is one of the sheet's
within : (c : In-Ok) → c.in-Ok.j < OPERATORS
within c = found_below c.args.t c.requires c.args.a c.if-t-a.false (sym c.is_line.ensures ∙ c.if-not-is_line.false) c.in-Ok.j c.in-Ok.ensures

pub returns-then-t-a : goal.returns-then-t-a
returns-then-t-a c = follows_past c.args.t c.args.a c.if-t-a.true

pub bounds-t-a : goal.bounds-t-a
bounds-t-a c = place_below c.args.t c.requires c.args.a c.if-t-a.false

pub returns-then-not-is_line : goal.returns-then-not-is_line
returns-then-not-is_line c =
    follows_no_line c.args.t c.requires c.args.a c.if-t-a.false (sym c.is_line.ensures ∙ c.if-not-is_line.true)

pub returns-in_default : goal.returns-in_default
returns-in_default c =
    follows_unread c.args.t c.requires c.args.a c.if-t-a.false (first (goal.at.returns-in_default c).Else-not-is_line) c.in_default.ensures.placed

pub offset_bounds-t-j : goal.offset_bounds-t-j
offset_bounds-t-j c = omega (arith, within c)

pub bounds-t-j : goal.bounds-t-j
bounds-t-j c = within c

pub returns-then-not-is_line-2 : goal.returns-then-not-is_line-2
returns-then-not-is_line-2 c =
    follows_other c.args.t c.requires c.args.a c.if-t-a.false (first (goal.at.returns-then-not-is_line-2 c).Else-not-is_line)
    c.in-Ok.j c.in-Ok.ensures (sym c.is_line-2.ensures ∙ c.if-not-is_line-2.true)

pub returns : goal.returns
returns c =
    follows_found c.args.t c.requires c.args.a c.if-t-a.false (first (goal.at.returns c).Else-not-is_line)
    c.in-Ok.j c.in-Ok.ensures (sym c.is_line-2.ensures ∙ c.if-not-is_line-2.false)
