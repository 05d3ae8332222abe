-- `codec_write::bytes_length` meets its contract: the sum is the length of the bytes of the head and of the operators passed.
-- Assumes nothing.
use mathlib.Core.Path.{◌≡◌}
use Prim.Native.Nat.{◌+◌, ◌*◌, ◌≤◌}
use lib.ListN.{length}
use Rattle.sheet_format.specs.Record.{RECORD_MOST}
use Rattle.sheet_format.specs.Head.{HEAD_BYTES}
use Rattle.codec_write.proofs.Writing.{bytes_to}
use Rattle.codec_write.proofs.bytes_length.Given as goal

abbrev pub invariant-loop-i : goal.invariant-loop-i
invariant-loop-i l = (l.i ≤ l.t.count) × (l.sum ≡ length (bytes_to l.t l.i)) × (l.sum ≤ HEAD_BYTES + RECORD_MOST * l.i)
