-- How many of a list's elements the program knows of: at most one more than it has places for.
use Rattle.std.specs.Prelude.{ℕ, suc, cond, leb}

abbrev pub counted : ℕ → ℕ → ℕ
counted places n = cond (leb n places) n (suc places)
