-- `counts::deal_worst` meets its contract: k is the suc of the k - 1 that is added.
use Rattle.counts.proofs.Turns.{deal_worst_at}
use Rattle.counts.proofs.deal_worst.Goals as goal

pub returns : goal.returns
returns c = deal_worst_at c.args.n c.args.k c.args.j c.if-k-eq0.false
