-- `text_print::put_names` meets its contract: the first i are put.
-- Assumes nothing.
use Prim.Native.Nat.{ℕ}
use Rattle.sheet_operator.specs.Memory.{ways}
use Rattle.text_parts.proofs.Pieces.{Putting}
use Rattle.text_print.specs.Names.{NAME_TEXT, names_text}
use Rattle.text_print.proofs.put_names.Given as goal

abbrev pub invariant-loop-i : goal.invariant-loop-i
invariant-loop-i l = Putting NAME_TEXT (λ (k : ℕ). names_text (ways k l.queues)) l.initial.s l.at l.count l.s l.end l.i
