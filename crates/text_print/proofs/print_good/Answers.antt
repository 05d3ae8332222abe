-- `text_print::print_good` meets its contract: one law for a buffer that is too short, one for a buffer with room.
-- Assumes nothing.
use native.Mathlib.Omega.{arith}
use Rattle.text_print.proofs.Answers.{prints_short, prints_done}
use Rattle.text_print.proofs.print_good.Goals as goal

pub returns-then-buffer-n : goal.returns-then-buffer-n
returns-then-buffer-n c =
    let k = c.put_text-n in
    rw c.at.ensures (prints_short _ _ _ _ k.result c.requires k.ensures.puts (omega arith))

pub returns : goal.returns
returns c =
    let k = c.put_text-n in
    prints_done _ _ _ _ k.result c.requires k.ensures.puts _ _ (omega (arith, k.ensures.most)) (omega arith)
    c.put_word.ensures
