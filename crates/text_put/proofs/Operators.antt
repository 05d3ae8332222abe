-- The printed forms of operators without ways, piece by piece, and an operator's form by its kind.
-- Assumes nothing.
use mathlib.Core.Path.{◌≡◌, ap, sym, subst}
use mathlib.Core.List.{List, [], ◌∷◌, ◌++◌}
use Prim.Native.Nat.{ℕ, ◌+◌, ◌*◌, ◌≤◌}
use native.Mathlib.Omega.{arith}
use lib.ListN.{get_or}
use Rattle.sheet_operator.specs.Memory.{PLACES, view, view_as, steps_in}
use Rattle.sheet_operator.specs.declared.Kind.{Kind}
use Rattle.sheet_operator.specs.declared.Kind.TheVariants.{Line, Latest, Double}
use Rattle.sheet_operator.specs.declared.Operator.{Operator}
use Rattle.base_words.specs.Text.{word, PutsText}
use Rattle.text_grammar.specs.Tokens.{tight, printed, at_once, queue_as, line_tokens, op_tokens}
use Rattle.text_parts.specs.Put.{PutsUpTo, BAR_TEXT}
use Rattle.text_parts.proofs.Listed.{printed_append}
use Rattle.text_parts.proofs.Pieces.{piece, then, within, spelt}
use Rattle.text_put_ways.specs.Put.{OPERATOR_TEXT}
use Rattle.text_put_ways.proofs.Ways.{numbered, room, two_as_one}

module _ (o : Operator) where
  abbrev p : ℕ
  p = get_or o.ins 0 0

  abbrev q : ℕ
  q = get_or o.outs 0 0

  abbrev steps : List ℕ
  steps = printed (line_tokens (steps_in o.count o.steps))

  line_text : printed (op_tokens (view_as Line o)) ≡ numbered " (q" q ++ (word ") <-" ++ (steps ++ (numbered "(q" p ++ word ")")))
  line_text =
      ap (λ (l : List ℕ). numbered " (q" q ++ (word ") <-" ++ l))
      (printed_append (line_tokens (steps_in o.count o.steps)) (at_once "(" ∷ queue_as tight p ∷ at_once ")" ∷ []))

  pub line_puts : {s t u v x : List ℕ} {at b d e end : ℕ} → o.count ≤ PLACES → PutsUpTo (room " (q") (numbered " (q" q) s at t b →
      PutsText (word ") <-") t b u d → PutsUpTo (BAR_TEXT * o.count) steps u d v e → PutsUpTo (room "(q" + 1) (numbered "(q" p ++ word ")") v e x end →
      PutsUpTo OPERATOR_TEXT (printed (op_tokens (view_as Line o))) s at x end
  line_puts few f g h k = spelt line_text (within OPERATOR_TEXT (omega (arith, few)) (then f (then (piece 4 (omega arith) g) (then h k))))

  pub latest_text : printed (op_tokens (view_as Latest o))
      ≡ (numbered " ($v" o.variable ++ numbered ") <- Latest[" o.field) ++ (numbered "](q" p ++ word ")")
  latest_text = two_as_one " ($v" ") <- Latest[" o.variable o.field (numbered "](q" p ++ word ")")

  pub double_text : printed (op_tokens (view_as Double o))
      ≡ (numbered " (q" q ++ numbered ", q" (get_or o.outs 1 0)) ++ (numbered ") <- Double(q" p ++ word ")")
  double_text = two_as_one " (q" ", q" q (get_or o.outs 1 0) (numbered ") <- Double(q" p ++ word ")")

-- an operator, by its kind
pub operator_by : {k : ℕ} {s t : List ℕ} {at end : ℕ} (o : Operator) (x : Kind) → o.kind ≡ x → PutsUpTo k (printed (op_tokens (view_as x o))) s at t end →
    PutsUpTo k (printed (op_tokens (view o))) s at t end
operator_by {k} {s} {t} {at} {end} o x e p = subst (λ (y : Kind). PutsUpTo k (printed (op_tokens (view_as y o))) s at t end) (sym e) p
