-- `text_parts::put_steps` meets its contract: the first i are put.
-- Assumes nothing.
use Prim.Native.Nat.{ℕ, ◌-◌}
use Rattle.sheet_operator.specs.Memory.{steps_in}
use Rattle.text_grammar.specs.Tokens.{printed, line_tokens}
use Rattle.text_parts.specs.Put.{BAR_TEXT}
use Rattle.text_parts.proofs.Pieces.{Putting}
use Rattle.text_parts.proofs.put_steps.Given as goal

abbrev pub invariant-loop-i : goal.invariant-loop-i
invariant-loop-i l = Putting BAR_TEXT (λ (j : ℕ). printed (line_tokens (steps_in j l.steps))) l.initial.s l.at l.n l.s l.end l.i
