-- `text_put_ways::put_deal` meets its contract: one piece after another.
-- Assumes nothing.
use Rattle.text_put_ways.proofs.Ways.{deal_puts}
use Rattle.text_put_ways.proofs.put_deal.Goals as goal

pub returns : goal.returns
returns c =
    deal_puts c.args.o c.requires.0 c.put_listed-a.ensures c.put_three.ensures
