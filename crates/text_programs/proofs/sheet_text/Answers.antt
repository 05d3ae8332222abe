-- `text_programs::sheet_text` meets its contract: the text, and a newline after it.
-- Assumes nothing.
use Rattle.text_programs.proofs.Sending.{sends_text}
use Rattle.text_programs.proofs.sheet_text.Goals as goal

pub returns : goal.returns
returns c =
    sends_text c.args.t c.put_text-n.ensures c.requires.1
