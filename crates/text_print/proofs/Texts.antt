-- A sheet's text, piece by piece: a name, the head, the operators, and all of it.
-- Assumes nothing.
use mathlib.Core.Path.{◌≡◌, ap, ◌∙◌, sym}
use mathlib.Core.List.{List, [], ◌∷◌, ◌++◌, append_assoc, append-nil}
use mathlib.Core.Bool.{Bool, true, false, cond}
use Prim.Native.Nat.{ℕ, ◌+◌}
use Rattle.base_lists.specs.Lists.{build, chain}
use Rattle.base_lists.proofs.Chains.{chain_snoc}
use Rattle.base_words.specs.Text.{word, natural}
use Rattle.sheet_operator.specs.Op.{Op, Abstract}
use Rattle.text_grammar.specs.Tokens.{Token, must, printed, at_once, spaced, byte_as, names_tokens, text_tokens}
use Rattle.text_parts.proofs.Listed.{printed_append}
use Rattle.text_form.specs.Form.{outputs_of, inputs_of, tree_of, sheet_text}
use Rattle.text_print.specs.Names.{name_tokens, names_text, head_tokens, item_tokens}
use Rattle.text_print.proofs.Naming.{names_whole}

pub name_text : (first : Bool) (q : ℕ) → printed (name_tokens first q) ≡ cond first (word " q") (word ", q") ++ natural q
name_text true q = ap (λ (l : List ℕ). word " q" ++ l) (append-nil (natural q))
name_text false q = ap (λ (l : List ℕ). word ", q" ++ l) (append-nil (natural q))

-- a list of names, and what stands behind it
names_then : (qs : List ℕ) (ts : List Token) → printed (names_tokens qs ++ ts) ≡ names_text qs ++ (word ";" ++ printed ts)
names_then qs ts =
    printed_append (names_tokens qs) ts ∙ ap (λ (l : List ℕ). l ++ printed ts) (names_whole qs) ∙ append_assoc (names_text qs) (word ";") (printed ts)

module _ (a : Abstract) where
  abbrev vars_tokens : List Token
  vars_tokens = spaced "vars" ∷ byte_as must a.variables ∷ at_once ";" ∷ []

  pub head_text : printed (head_tokens a)
      ≡ word "output" ++ (names_text (outputs_of a) ++ (word "; input" ++ (names_text (inputs_of a) ++ ((word "; vars " ++ natural a.variables) ++ word ";"))))
  head_text =
      ap (λ (l : List ℕ). word "output" ++ l) (names_then (outputs_of a) (spaced "input" ∷ (names_tokens (inputs_of a) ++ vars_tokens)))
      ∙ ap (λ (l : List ℕ). word "output" ++ (names_text (outputs_of a) ++ (word "; input" ++ l))) (names_then (inputs_of a) vars_tokens)

  sheet_tokens : head_tokens a ++ chain item_tokens a.ops ≡ text_tokens (tree_of a)
  sheet_tokens =
      ap (λ (l : List Token). at_once "output" ∷ l)
      (append_assoc (names_tokens (outputs_of a)) (spaced "input" ∷ (names_tokens (inputs_of a) ++ vars_tokens)) (chain item_tokens a.ops))
      ∙ ap (λ (l : List Token). at_once "output" ∷ (names_tokens (outputs_of a) ++ (spaced "input" ∷ l)))
      (append_assoc (names_tokens (inputs_of a)) vars_tokens (chain item_tokens a.ops))

  pub sheet_text_lem : sheet_text a ≡ printed (head_tokens a) ++ printed (chain item_tokens a.ops)
  unfolding sheet_text
  sheet_text_lem = ap printed (sym sheet_tokens) ∙ printed_append (head_tokens a) (chain item_tokens a.ops)

-- one operator more
pub items_more : (i : ℕ) (g : ℕ → Op) →
    printed (chain item_tokens (build (i + 1) g)) ≡ printed (chain item_tokens (build i g)) ++ printed (item_tokens (g i))
items_more i g = ap printed (chain_snoc item_tokens i g) ∙ printed_append (chain item_tokens (build i g)) (item_tokens (g i))
