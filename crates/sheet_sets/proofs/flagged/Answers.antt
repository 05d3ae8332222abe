-- `sheet_sets::flagged` meets its contract: past the flags a store changes nothing.
use mathlib.Core.Path.{sym}
use native.Mathlib.Omega.{arith}
use lib.Seq.{set_out}
use Rattle.sheet_sets.proofs.flagged.Goals as goal

pub returns : goal.returns
returns c = sym (set_out _ _ _ (omega arith))
