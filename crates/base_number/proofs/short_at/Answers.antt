use Rattle.std.proofs.Common.{add-zero, arith, get_or-drop}
use Rattle.base_number.specs.Number.{short_of}
use Rattle.base_number.proofs.short_at.Goals as goal

pub returns : goal.returns
unfolding short_of
returns c = (simp (get_or-drop, add-zero) (omega arith), omega arith)
