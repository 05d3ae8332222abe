-- `text_print::put_items` meets its contract: the first i operators are put.
-- Assumes nothing.
use Prim.Native.Nat.{ℕ}
use Rattle.base_lists.specs.Lists.{chain}
use Rattle.sheet.specs.Sheet.{view_to}
use Rattle.text_grammar.specs.Tokens.{printed}
use Rattle.text_parts.proofs.Pieces.{Putting}
use Rattle.text_print.specs.Names.{ITEM_TEXT, item_tokens}
use Rattle.text_print.proofs.put_items.Given as goal

abbrev pub invariant-loop-i : goal.invariant-loop-i
invariant-loop-i l = Putting ITEM_TEXT (λ (k : ℕ). printed (chain item_tokens (view_to l.t k).ops)) l.initial.s l.at l.n l.s l.end l.i
