-- How long an operator's text is at the most.
use Rattle.std.specs.Prelude.{ℕ}

abbrev pub OPERATOR_TEXT : ℕ
OPERATOR_TEXT = 192
