-- `text_parts::put_ways` meets its contract: the first i are put.
-- Assumes nothing.
use Prim.Native.Nat.{ℕ, ◌-◌}
use Rattle.sheet_operator.specs.Memory.{ways}
use Rattle.text_grammar.specs.Tokens.{printed, ways_tokens}
use Rattle.text_parts.specs.Put.{WAY_TEXT}
use Rattle.text_parts.proofs.Pieces.{Putting}
use Rattle.text_parts.proofs.put_ways.Given as goal

abbrev pub invariant-loop-i : goal.invariant-loop-i
invariant-loop-i l = Putting WAY_TEXT (λ (j : ℕ). printed (ways_tokens (ways j l.queues))) l.initial.s l.at l.n l.s l.end l.i
