-- `text_put::put_double` meets its contract: three names.
-- Assumes nothing.
use native.Mathlib.Omega.{arith}
use Rattle.text_parts.proofs.Pieces.{within, spelt}
use Rattle.text_put_ways.specs.Put.{OPERATOR_TEXT}
use Rattle.text_put.proofs.Operators.{double_text}
use Rattle.text_put.proofs.put_double.Goals as goal

pub returns : goal.returns
returns c =
    spelt (double_text c.args.o) (within OPERATOR_TEXT (omega arith) c.put_three.ensures)
