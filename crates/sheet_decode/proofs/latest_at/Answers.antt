-- `sheet_decode::latest_at` meets its contract: each place is read where `op_of` reads it.
use native.Mathlib.Nat.{add-zero}
use lib.Seq.{get_or-drop}
use Rattle.sheet_decode.proofs.latest_at.Goals as goal

pub returns : goal.returns
returns c = simp (get_or-drop, add-zero)
