-- `text_own::with_unread` meets its contract.
-- Assumes nothing.
use Rattle.text_own.proofs.with_unread.Goals as goal

pub returns : goal.returns
returns c = rw c.if-read.false c.with_name.ensures
