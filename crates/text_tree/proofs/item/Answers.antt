-- `text_tree::item` meets its contract: an operator in memory, and then its semicolon.
-- Assumes nothing.
use borrow.Author.Rules.{rules}
use Rattle.text_tree.proofs.ToEnd.{item_then}
use Rattle.text_tree.proofs.item.Goals as goal

pub returns-in_err-mark : goal.returns-in_err-mark
returns-in_err-mark c = item_then c.in_ok-op.ensures (search rules)

pub returns : goal.returns
returns c = item_then c.in_ok-op.ensures (search rules)
