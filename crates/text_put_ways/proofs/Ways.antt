-- The printed forms of a deal and a gather, piece by piece, and how long they are at the most.
-- Assumes nothing.
use Prim.Native.String as text
use mathlib.Core.Path.{◌≡◌, ap, ◌∙◌, sym}
use mathlib.Core.List.{List, [], ◌∷◌, ◌++◌, append_assoc}
use Prim.Native.Nat.{ℕ, ◌+◌, ◌*◌, ◌≤◌}
use native.Mathlib.Omega.{arith}
use lib.ListN.{get_or, length}
use Rattle.sheet_operator.specs.Memory.{PLACES, view_as, ways}
use Rattle.sheet_operator.specs.declared.Kind.TheVariants.{Deal, Gather}
use Rattle.sheet_operator.specs.declared.Operator.{Operator}
use Rattle.base_words.specs.Text.{word, natural}
use Rattle.text_grammar.specs.Tokens.{tight, loose, printed, at_once, spaced, queue_as, variable_as, ways_tokens, op_tokens}
use Rattle.text_parts.specs.Put.{PutsUpTo, BYTE_TEXT, WAY_TEXT}
use Rattle.text_parts.proofs.Listed.{printed_append}
use Rattle.text_parts.proofs.Pieces.{then, within, spelt}
use Rattle.text_put_ways.specs.Put.{OPERATOR_TEXT}

-- a word and a number
abbrev pub numbered : text.String → ℕ → List ℕ
numbered w n = word w ++ natural n

-- and how long it is at the most, with a byte
abbrev pub room : text.String → ℕ
room w = length (word w) + BYTE_TEXT

-- two of them as one piece
pub two_as_one : (w v : text.String) (m n : ℕ) (r : List ℕ) → numbered w m ++ (numbered v n ++ r) ≡ (numbered w m ++ numbered v n) ++ r
two_as_one w v m n r = sym (append_assoc (numbered w m) (numbered v n) r)

module _ (o : Operator) where
  abbrev p : ℕ
  p = get_or o.ins 0 0

  abbrev q : ℕ
  q = get_or o.outs 0 0

  -- the ways that the operator has in these queues
  abbrev listed : List ℕ → List ℕ
  listed queues = printed (ways_tokens (ways o.count queues))

  deal_text : printed (op_tokens (view_as Deal o))
      ≡ (word " (" ++ listed o.outs) ++ ((numbered " $v" o.variable ++ numbered ") <- Deal(q" p) ++ (numbered ", $v" o.variable ++ word ")"))
  deal_text =
      ap (λ (l : List ℕ). word " (" ++ l)
      (printed_append (ways_tokens (ways o.count o.outs)) (variable_as loose o.variable ∷ at_once ")" ∷ spaced "<-" ∷ spaced "Deal" ∷ at_once "("
      ∷ queue_as tight p ∷ at_once "," ∷ variable_as loose o.variable ∷ at_once ")" ∷ [])
      ∙ ap (λ (l : List ℕ). listed o.outs ++ l) (two_as_one " $v" ") <- Deal(q" o.variable p (numbered ", $v" o.variable ++ word ")")))

  gather_text : printed (op_tokens (view_as Gather o))
      ≡ (numbered " (q" q ++ numbered ", $v" o.variable) ++ ((word ") <- Gather(" ++ listed o.ins) ++ (numbered " $v" o.variable ++ word ")"))
  gather_text =
      ap (λ (l : List ℕ). numbered " (q" q ++ (numbered ", $v" o.variable ++ (word ") <- Gather(" ++ l)))
      (printed_append (ways_tokens (ways o.count o.ins)) (variable_as loose o.variable ∷ at_once ")" ∷ []))
      ∙ two_as_one " (q" ", $v" q o.variable (word ") <- Gather(" ++ (listed o.ins ++ (numbered " $v" o.variable ++ word ")")))

  module _ (few : o.count ≤ PLACES) {s t : List ℕ} {at mid : ℕ} where
    pub deal_puts : {u : List ℕ} {end : ℕ} → PutsUpTo (length (word " (") + WAY_TEXT * o.count) (word " (" ++ listed o.outs) s at t mid →
        PutsUpTo (room " $v" + room ") <- Deal(q" + (room ", $v" + 1))
        ((numbered " $v" o.variable ++ numbered ") <- Deal(q" p) ++ (numbered ", $v" o.variable ++ word ")")) t mid u end →
        PutsUpTo OPERATOR_TEXT (printed (op_tokens (view_as Deal o))) s at u end
    deal_puts x y = spelt deal_text (within OPERATOR_TEXT (omega (arith, few)) (then x y))

    pub gather_puts : {u v : List ℕ} {far end : ℕ} → PutsUpTo (room " (q" + room ", $v") (numbered " (q" q ++ numbered ", $v" o.variable) s at t mid →
        PutsUpTo (length (word ") <- Gather(") + WAY_TEXT * o.count) (word ") <- Gather(" ++ listed o.ins) t mid u far →
        PutsUpTo (room " $v" + 1) (numbered " $v" o.variable ++ word ")") u far v end →
        PutsUpTo OPERATOR_TEXT (printed (op_tokens (view_as Gather o))) s at v end
    gather_puts x y z = spelt gather_text (within OPERATOR_TEXT (omega (arith, few)) (then x (then y z)))
