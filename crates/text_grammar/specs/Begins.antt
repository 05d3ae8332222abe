-- What is left of a text from its lists on: behind their words, and blanks.
use Rattle.std.specs.Prelude.{ℕ, List}
use Rattle.base_words.specs.Text.{word}
use Rattle.text_scan.specs.Reader.{Res, got, lost, Reader, ◌>>◌, sign, spell}
use Rattle.text_scan.specs.Reads.{after_blanks}
use Rattle.text_grammar.specs.Readers.{names}

abbrev pub left_by : {A : Type 0} → Res A → List ℕ
left_by (got a left) = left
left_by (lost left) = left

abbrev pub output_word : Reader ℕ
output_word = sign (word "o") >> spell (word "utput")

abbrev pub input_word : Reader ℕ
input_word = sign (word "i") >> spell (word "nput")

abbrev pub from_outputs : List ℕ → List ℕ
from_outputs s = after_blanks (left_by (output_word s))

abbrev pub from_inputs : List ℕ → List ℕ
from_inputs s = after_blanks (left_by ((output_word >> names >> input_word) s))
