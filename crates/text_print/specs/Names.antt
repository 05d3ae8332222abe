-- The tokens of a sheet's text, piece by piece, and how long they are printed at the most.
use Rattle.std.specs.Prelude.{ℕ, ◌+◌, Bool, cond, List, [], ◌∷◌, ◌++◌}
use Rattle.sheet_operator.specs.Op.{Op, Abstract}
use Rattle.text_grammar.specs.Tokens.{Token, loose, must, printed, at_once, spaced, queue_as, byte_as, names_tokens, op_tokens}
use Rattle.text_form.specs.Form.{outputs_of, inputs_of}
use Rattle.text_parts.specs.Put.{listed}
use Rattle.text_put_ways.specs.Put.{OPERATOR_TEXT}

-- a name, by whether it is the list's first
abbrev pub name_tokens : Bool → ℕ → List Token
name_tokens first q = cond first (queue_as must q ∷ []) (at_once "," ∷ queue_as loose q ∷ [])

-- the names of a list, without the mark after them
abbrev pub names_text : List ℕ → List ℕ
names_text qs = printed (listed name_tokens qs)

-- the tokens before the operators, and those of the operators
abbrev pub head_tokens : Abstract → List Token
head_tokens a =
    at_once "output" ∷ (names_tokens (outputs_of a) ++ (spaced "input" ∷ (names_tokens (inputs_of a) ++ (spaced "vars" ∷ byte_as must a.variables
    ∷ at_once ";" ∷ []))))

abbrev pub item_tokens : Op → List Token
item_tokens o = op_tokens o ++ (at_once ";" ∷ [])

-- how long a name is at the most
abbrev pub NAME_TEXT : ℕ
NAME_TEXT = 6

-- the head, an operator with its mark, and a sheet
abbrev pub HEAD_TEXT : ℕ
HEAD_TEXT = 512

abbrev pub ITEM_TEXT : ℕ
ITEM_TEXT = OPERATOR_TEXT + 1

abbrev pub SHEET_TEXT : ℕ
SHEET_TEXT = 4096
