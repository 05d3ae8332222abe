use mathlib.Core.Path.{sym, ap}
use mathlib.Core.Bool.{Bool, cond}
use borrow.Author.Tests.{lt-ltb, le-ltb}
use Rattle.text_sheet.proofs.larger.Goals as goal

pub returns-then-m-q : goal.returns-then-m-q
returns-then-m-q c = sym (ap (λ (b : Bool). cond b c.args.q c.args.m) (lt-ltb _ _ c.if-m-q.true))

pub returns-else-m-q : goal.returns-else-m-q
returns-else-m-q c = sym (ap (λ (b : Bool). cond b c.args.q c.args.m) (le-ltb _ _ c.if-m-q.false))
