-- `text_names::byte` meets its contract: what begins with a digit stays below 256.
-- Assumes nothing.
use mathlib.Core.Path.{sym}
use native.Mathlib.Omega.{arith}
use Rattle.text_names.proofs.Small.{sign_small}
use Rattle.text_names.proofs.byte.Goals as goal

pub overflow_cast-result : goal.overflow_cast-result
overflow_cast-result c =
    omega (arith, sign_small _ _ _ _ 255 _ _ (omega arith) (sym c.in_ok-first.ensures.reads) (sym c.digits-n.ensures.1))
