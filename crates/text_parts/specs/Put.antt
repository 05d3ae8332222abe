-- What a function that puts a piece of a sheet's text leaves, and how long the pieces are at the most.
use Rattle.std.specs.Prelude.{ℕ, ◌+◌, ◌≤◌, Bool, true, false, cond, List, [], ◌∷◌, ◌++◌}
use Rattle.base_lists.specs.Lists.{chain}
use Rattle.sheet_step.specs.declared.Step.{Step}
use Rattle.base_words.specs.Text.{PutsText}
use Rattle.text_grammar.specs.Tokens.{Token, tight, loose, at_once, spaced, queue_as, step_tokens}

-- the bytes of xs were put at a place, and they are k at the most
pub record PutsUpTo (k : ℕ) (xs before : List ℕ) (at : ℕ) (after : List ℕ) (end : ℕ) : Type 0 where
  pub puts : PutsText xs before at after end
  pub most : end ≤ at + k

-- a byte's digits, a number's with its sign
abbrev pub BYTE_TEXT : ℕ
BYTE_TEXT = 3

abbrev pub NUMBER_TEXT : ℕ
NUMBER_TEXT = 11

-- two bytes in a bracket, with their comma and the bracket's end
abbrev pub PAIR_TEXT : ℕ
PAIR_TEXT = 8

-- a step, a step with the mark before it, a way with its comma
abbrev pub STEP_TEXT : ℕ
STEP_TEXT = 34

abbrev pub BAR_TEXT : ℕ
BAR_TEXT = 36

abbrev pub WAY_TEXT : ℕ
WAY_TEXT = 6

-- a list, each element spelt by whether it is the first
abbrev pub listed : {A B : Type 0} → (Bool → A → List B) → List A → List B
listed f [] = []
listed f (x ∷ xs) = f true x ++ chain (f false) xs

-- the tokens of a step in a line and of a way, by whether it is the first
abbrev pub bar_tokens : Bool → Step → List Token
bar_tokens first t = cond first (step_tokens t.func t) (spaced "|" ∷ step_tokens t.func t)

abbrev pub way_tokens_at : Bool → ℕ → List Token
way_tokens_at first q = queue_as (cond first tight loose) q ∷ at_once "," ∷ []
