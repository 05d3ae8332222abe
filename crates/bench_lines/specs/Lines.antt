-- The lines that `bench` prints: of a refusal, of the counts, of an item and of a variable; each ends with one newline.
use Rattle.std.specs.Prelude.{ℕ, suc, Bool, true, false, List, [], ◌∷◌, ◌++◌, ℤ}
use Rattle.base_lists.specs.Lists.{chain}
use Rattle.base_words.specs.Text.{word, natural, integer}
use Rattle.run_store.specs.declared.Item.{Item}

abbrev pub spaced : ℤ → List ℕ
spaced z = word " " ++ integer z

-- an item: its queue and its fields
unfoldable pub item_line : ℕ → List ℤ → List ℕ
item_line q zs = word "q " ++ (natural q ++ (chain spaced zs ++ word "\n"))

abbrev pub queue_lines : ℕ → List Item → List ℕ
queue_lines q xs = chain (λ (x : Item). item_line q x.f) xs

unfoldable pub variable_line : ℕ → ℤ → List ℕ
variable_line v z = word "v " ++ (natural v ++ (spaced z ++ word "\n"))

-- the variables from number v on
abbrev pub variable_lines : ℕ → List ℤ → List ℕ
variable_lines v [] = []
variable_lines v (z ∷ zs) = variable_line v z ++ variable_lines (suc v) zs

unfoldable pub refusal_line : ℕ → ℕ → List ℕ
refusal_line number spot = word "refused " ++ (natural number ++ (word " at record " ++ (natural spot ++ word "\n")))

abbrev pub answer : Bool → List ℕ
answer true = word "yes"
answer false = word "no"

unfoldable pub counts_line : ℕ → ℕ → Bool → List ℕ
counts_line fired skipped rest =
    word "fired " ++ (natural fired ++ (word " skipped " ++ (natural skipped ++ (word " rest " ++ (answer rest ++ word "\n")))))

-- no number with its space is longer, and no line
abbrev pub SPACED : ℕ
SPACED = 12

abbrev pub LINE : ℕ
LINE = 68
