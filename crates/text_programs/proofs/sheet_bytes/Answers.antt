-- `text_programs::sheet_bytes` meets its contract: the buffer has room, so the bytes are written.
-- Assumes nothing.
use Rattle.text_programs.proofs.Sending.{sends_bytes}
use Rattle.text_programs.proofs.sheet_bytes.Goals as goal

pub returns : goal.returns
returns c = sends_bytes c.args.t c.requires.0 c.write.ensures c.unwrap_or.ensures c.requires.1
