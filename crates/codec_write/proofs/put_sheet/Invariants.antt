-- `codec_write::put_sheet` meets its contract: the buffer has the bytes of the head and of the operators passed at its front.
-- Assumes nothing.
use mathlib.Core.Path.{◌≡◌}
use Prim.Native.Nat.{◌+◌, ◌*◌, ◌≤◌}
use lib.ListN.{length}
use lib.Seq.{sets}
use Rattle.base_lists.specs.Lists.{chain}
use Rattle.sheet_format.specs.Record.{RECORD_MOST, op_bytes}
use Rattle.sheet_format.specs.Head.{HEAD_BYTES}
use Rattle.sheet.specs.Sheet.{view_to}
use Rattle.codec_write.proofs.Writing.{bytes_to}
use Rattle.codec_write.proofs.put_sheet.Given as goal

abbrev pub invariant-loop-i : goal.invariant-loop-i
invariant-loop-i l =
    (l.i ≤ l.t.count) × (l.end ≡ length (bytes_to l.t l.i)) × (l.end ≤ HEAD_BYTES + RECORD_MOST * l.i) × (length l.buffer ≡ length l.initial.buffer)
    × (l.buffer ≡ sets l.initial.buffer HEAD_BYTES (chain op_bytes (view_to l.t l.i).ops))
