-- The record format: body length, kind, body; everything little-endian. An operator's record both ways.
use Rattle.std.specs.Prelude.{ℕ, ◌+◌, ◌*◌, ◌-◌, ◌/◌, ◌%◌, Bool, false, cond, ◌&&◌, ◌||◌, List, [], ◌∷◌, ◌++◌, eqb, ltb, leb, length, get_or, drop}
use Rattle.base_number.specs.Number.{short_of, short_bytes}
use Rattle.base_lists.specs.Lists.{build, chain}
use Rattle.sheet_step.specs.Step.{STEP_BYTES, step_of, step_bytes}
use Rattle.sheet_operator.specs.Op.{Op, line, latest, double, deal, gather}
use Rattle.sheet_operator.specs.Memory.{PLACES, is_empty}
use Rattle.sheet_operator.specs.declared.Kind.{Kind}
use Rattle.sheet_operator.specs.declared.Kind.TheVariants.{Empty, Line, Latest, Double, Deal, Gather}

-- the paper's numbers for the kinds of operators; Empty stands for every other number
unfoldable pub kind_of : ℕ → Kind
kind_of n = cond (eqb n 2) Line (cond (eqb n 3) Latest (cond (eqb n 4) Double (cond (eqb n 5) Deal (cond (eqb n 6) Gather Empty))))

abbrev pub kind_code : Kind → ℕ
kind_code Empty = 0
kind_code Line = 2
kind_code Latest = 3
kind_code Double = 4
kind_code Deal = 5
kind_code Gather = 6

-- body length and kind, and then the body
abbrev pub HEADER : ℕ
HEADER = 4

unfoldable pub record_bytes : ℕ → List ℕ → List ℕ
record_bytes kind body = short_bytes (length body) ++ (short_bytes kind ++ body)

-- the record at the front of the list is cut short, or missing
unfoldable pub cut : List ℕ → Bool
cut s = ltb (length s) HEADER || ltb (length s - HEADER) (short_of s)

-- the longest body is a line's: in, out and its steps
abbrev pub BODY_MOST : ℕ
BODY_MOST = 2 + STEP_BYTES * PLACES

abbrev pub RECORD_MOST : ℕ
RECORD_MOST = HEADER + BODY_MOST

-- a body's length is its kind's: in, out and 1 to 4 steps; three places; a cursor, a queue and 2 to 4 ways
unfoldable pub body_good : Kind → ℕ → Bool
body_good Empty n = false
body_good Line n = leb (2 + STEP_BYTES) n && (leb n BODY_MOST && eqb ((n - 2) % STEP_BYTES) 0)
body_good Latest n = eqb n 3
body_good Double n = eqb n 3
body_good Deal n = leb 4 n && leb n (2 + PLACES)
body_good Gather n = leb 4 n && leb n (2 + PLACES)

-- the operator of a kind whose body is the first n bytes of b
abbrev pub ways_of : ℕ → List ℕ → List ℕ
ways_of n b = build (n - 2) (λ (k : ℕ). get_or b (2 + k) 0)

abbrev pub op_of : Kind → ℕ → List ℕ → Op
op_of Empty n b = double 0 0 0
op_of Line n b = line (get_or b 0 0) (get_or b 1 0) (build ((n - 2) / STEP_BYTES) (λ (k : ℕ). step_of (drop (2 + STEP_BYTES * k) b)))
op_of Latest n b = latest (get_or b 0 0) (get_or b 1 0) (get_or b 2 0)
op_of Double n b = double (get_or b 0 0) (get_or b 1 0) (get_or b 2 0)
op_of Deal n b = deal (get_or b 0 0) (get_or b 1 0) (ways_of n b)
op_of Gather n b = gather (get_or b 0 0) (get_or b 1 0) (ways_of n b)

-- what the front of the list holds: an operator and what comes after it, or the refusal of its record: cut short 1, kind 2, body length 1
pub data Taken : Type 0 where
  bad : ℕ → Taken
  took : Op → List ℕ → Taken

abbrev pub taken_as : Kind → ℕ → List ℕ → Taken
taken_as k n b = cond (is_empty k) (bad 2) (cond (body_good k n) (took (op_of k n b) (drop n b)) (bad 1))

unfoldable pub taken : List ℕ → Taken
taken s = cond (cut s) (bad 1) (taken_as (kind_of (short_of (drop 2 s))) (short_of s) (drop HEADER s))

abbrev pub refusal_in : Taken → ℕ
refusal_in (bad n) = n
refusal_in (took o rest) = 0

abbrev pub op_in : Taken → Op
op_in (bad n) = double 0 0 0
op_in (took o rest) = o

abbrev pub rest_in : Taken → List ℕ
rest_in (bad n) = []
rest_in (took o rest) = rest

-- the record of an operator
abbrev pub kind_in : Op → Kind
kind_in (line p q ss) = Line
kind_in (latest p v f) = Latest
kind_in (double p q r) = Double
kind_in (deal c p qs) = Deal
kind_in (gather c q ps) = Gather

abbrev pub body_bytes : Op → List ℕ
body_bytes (line p q ss) = p ∷ q ∷ chain step_bytes ss
body_bytes (latest p v f) = p ∷ v ∷ f ∷ []
body_bytes (double p q r) = p ∷ q ∷ r ∷ []
body_bytes (deal c p qs) = c ∷ p ∷ qs
body_bytes (gather c q ps) = c ∷ q ∷ ps

unfoldable pub op_bytes : Op → List ℕ
op_bytes o = record_bytes (kind_code (kind_in o)) (body_bytes o)
