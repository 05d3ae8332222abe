-- A place in memory, and how long the line and its numbers are at the most.
use Rattle.std.specs.Prelude.{ℕ}
use Rattle.text_places.specs.declared.Place.{Place}

abbrev pub NATURAL_TEXT : ℕ
NATURAL_TEXT = 20

abbrev pub OUTSIDE_TEXT : ℕ
OUTSIDE_TEXT = 95

abbrev pub placed : Place → ℕ × ℕ
placed p = (p.line, p.column)
