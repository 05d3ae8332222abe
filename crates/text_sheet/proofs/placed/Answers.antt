use mathlib.Core.Path.{sym, ap}
use mathlib.Core.Bool.{Bool, cond}
use borrow.Author.Tests.{lt-ltb, le-ltb}
use Rattle.base_bounds.specs.Bounds.{OPERATORS}
use Rattle.text_sheet.proofs.placed.Goals as goal

pub returns-then-n-gt-OPERATORS : goal.returns-then-n-gt-OPERATORS
returns-then-n-gt-OPERATORS c = sym (ap (λ (b : Bool). cond b OPERATORS c.args.n) (lt-ltb _ _ c.if-n-gt-OPERATORS.true))

pub returns-else-n-gt-OPERATORS : goal.returns-else-n-gt-OPERATORS
returns-else-n-gt-OPERATORS c = sym (ap (λ (b : Bool). cond b OPERATORS c.args.n) (le-ltb _ _ c.if-n-gt-OPERATORS.false))
