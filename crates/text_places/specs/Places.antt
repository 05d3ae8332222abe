-- The place of a byte, and the line of a refusal at it.
use Rattle.std.specs.Prelude.{ℕ, suc, cond, List, [], ◌∷◌, ◌++◌, eqb, take}
use Rattle.base_words.specs.Text.{word, natural}

-- a place is a line and a column, both from 1: a line feed ends a line, every other byte is one column
abbrev pub past_byte : ℕ × ℕ → ℕ → ℕ × ℕ
past_byte p x = cond (eqb x 10) (suc p.0, 1) (p.0, suc p.1)

unfoldable pub place_after : ℕ × ℕ → List ℕ → ℕ × ℕ
place_after p [] = p
place_after p (x ∷ xs) = place_after (past_byte p x) xs

-- of byte b of an input
abbrev pub place_of : List ℕ → ℕ → ℕ × ℕ
place_of s b = place_after (1, 1) (take b s)

unfoldable pub outside_line : ℕ → ℕ → ℕ × ℕ → List ℕ
outside_line number byte place =
    word "refused " ++ (natural number ++ (word " at byte " ++ (natural byte ++ (word ", line " ++ (natural place.0
    ++ (word " column " ++ (natural place.1 ++ word "\n")))))))
