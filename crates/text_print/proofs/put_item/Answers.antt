-- `text_print::put_item` meets its contract: the operator, and the mark.
-- Assumes nothing.
use mathlib.Core.List.{[], ◌∷◌}
use native.Mathlib.Omega.{arith}
use Rattle.sheet_operator.specs.Memory.{view}
use Rattle.text_grammar.specs.Tokens.{at_once, op_tokens}
use Rattle.text_parts.proofs.Pieces.{piece, then, spelt}
use Rattle.text_parts.proofs.Listed.{printed_append}
use Rattle.text_print.proofs.put_item.Goals as goal

pub returns : goal.returns
returns c =
    spelt (printed_append (op_tokens (view c.args.o)) (at_once ";" ∷ []))
    (then c.put_operator-a.ensures (piece 1 (omega arith) c.put_word.ensures))
