-- `codec_write::write_good` meets its contract: one law for a buffer that is too short, one for a buffer with room.
-- Assumes nothing.
use native.Mathlib.Omega.{arith}
use Rattle.codec_write.proofs.Writing.{writes_short, writes_done}
use Rattle.codec_write.proofs.write_good.Goals as goal

pub returns-then-buffer-n : goal.returns-then-buffer-n
returns-then-buffer-n c = rw c.at.ensures (writes_short _ _ _ c.requires c.bytes_length-n.ensures c.if-buffer-n.true)

pub returns : goal.returns
returns c =
    let k = c.bytes_length-n in
    writes_done _ _ k.result c.requires k.ensures _ (omega arith) c.put_sheet.ensures
