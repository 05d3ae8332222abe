-- `text_put_ways::put_gather` meets its contract: one piece after another.
-- Assumes nothing.
use Rattle.text_put_ways.proofs.Ways.{gather_puts}
use Rattle.text_put_ways.proofs.put_gather.Goals as goal

pub returns : goal.returns
returns c =
    gather_puts c.args.o c.requires.0 c.put_two-a.ensures c.put_listed-b.ensures c.put_last.ensures
