-- `text_put::put_line` meets its contract: one piece after another.
-- Assumes nothing.
use Rattle.text_put.proofs.Operators.{line_puts}
use Rattle.text_put.proofs.put_line.Goals as goal

pub returns : goal.returns
returns c =
    line_puts c.args.o c.requires.0 c.put_byte-a.ensures c.put_word-b.ensures c.put_steps-d.ensures
    c.put_last.ensures
