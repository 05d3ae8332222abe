-- How many numbers a set has a flag for.
use Rattle.std.specs.Prelude.{ℕ}

abbrev pub FLAGS : ℕ
FLAGS = 32
