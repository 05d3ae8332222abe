use Rattle.std.proofs.Common.{add-zero, arith, get_or-drop}
use Rattle.base_number.specs.Number.{bits_of}
use Rattle.base_number.proofs.bits_at.Goals as goal

pub returns : goal.returns
unfolding bits_of
returns c = simp (get_or-drop, add-zero) (omega arith)
