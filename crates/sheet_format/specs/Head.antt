-- The head: inputs I (1..4), queues Q (I..24), variables (0..16), operators N (0..16).
use Rattle.std.specs.Prelude.{ℕ, Bool, cond, ◌&&◌, List, [], ◌∷◌, eqb, leb, get_or, drop}
use Rattle.base_number.specs.Number.{short_of}
use Rattle.sheet_format.specs.Record.{cut, record_bytes}
use Rattle.base_bounds.specs.Bounds.{INPUTS, QUEUES, VARIABLES, OPERATORS}

unfoldable pub head_good : ℕ → ℕ → ℕ → ℕ → Bool
head_good i q v n = leb 1 i && (leb i INPUTS && (leb i q && (leb q QUEUES && (leb v VARIABLES && leb n OPERATORS))))

-- its body, and its whole record
abbrev pub HEAD_BODY : ℕ
HEAD_BODY = 4

abbrev pub HEAD_BYTES : ℕ
HEAD_BYTES = 8

-- cut short 1, kind 2, body length 1, ranges 3
unfoldable pub head_number : List ℕ → ℕ
head_number s =
    cond (cut s) 1
    (cond (eqb (short_of (drop 2 s)) 1)
    (cond (eqb (short_of s) HEAD_BODY) (cond (head_good (get_or s 4 0) (get_or s 5 0) (get_or s 6 0) (get_or s 7 0)) 0 3) 1)
    2)

abbrev pub head_bytes : ℕ → ℕ → ℕ → ℕ → List ℕ
head_bytes i q v n = record_bytes 1 (i ∷ q ∷ v ∷ n ∷ [])
