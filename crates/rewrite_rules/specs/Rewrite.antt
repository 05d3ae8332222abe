-- The three rewritings of a calm sheet: fuse, split and reorder; refusals 14 to 17 in rising number.
use Rattle.std.specs.Prelude.{ℕ, ◌+◌, ◌*◌, ◌-◌, ◌/◌, ◌%◌, Bool, true, false, cond, not, ◌&&◌, ◌||◌, List, [], ◌∷◌, ◌++◌}
use Rattle.std.specs.Prelude.{map, eqb, ltb, leb, length, get_or, set, take, drop}
use Rattle.base_lists.specs.Lists.{build, all, chain, member}
use Rattle.sheet_step.specs.Step.{row_of}
use Rattle.sheet_step.specs.declared.Step.{Step}
use Rattle.sheet_operator.specs.Op.{Op, line, latest, double, deal, gather, Abstract}
use Rattle.sheet_operator.specs.Memory.{PLACES}
use Rattle.base_bounds.specs.Bounds.{OPERATORS, VARIABLES, QUEUES}
use Rattle.run_machine.specs.Readers.{reader_from}

-- the rewritten sheet, or the refusal
pub data Remade : Type 0 where
  refuse : ℕ → Remade
  rewritten : Abstract → Remade

-- a line's parts
abbrev pub is_line : Op → Bool
is_line (line p q ss) = true
is_line (latest p v f) = false
is_line (double p q r) = false
is_line (deal c p qs) = false
is_line (gather c q ps) = false

abbrev pub in_of : Op → ℕ
in_of (line p q ss) = p
in_of (latest p v f) = p
in_of (double p q r) = p
in_of (deal c p qs) = p
in_of (gather c q ps) = 0

abbrev pub out_of : Op → ℕ
out_of (line p q ss) = q
out_of (latest p v f) = 0
out_of (double p q r) = q
out_of (deal c p qs) = 0
out_of (gather c q ps) = q

abbrev pub steps_of : Op → List Step
steps_of (line p q ss) = ss
steps_of (latest p v f) = []
steps_of (double p q r) = []
steps_of (deal c p qs) = []
steps_of (gather c q ps) = []

abbrev pub at : Abstract → ℕ → Op
at a i = get_or a.ops i (double 0 0 0)

-- the operator that reads the out queue of operator i, and whether it is a line
abbrev pub next_of : Abstract → ℕ → ℕ
next_of a i = reader_from a.ops 0 (out_of (at a i))

abbrev pub to_line : Abstract → ℕ → Bool
to_line a i = ltb (next_of a i) (length a.ops) && is_line (at a (next_of a i))

-- fuse and reorder of operator i: 14 where there is none, 15 where it is no line or its out queue is not read by one
abbrev pub if_two_lines : Abstract → ℕ → Remade → Remade
if_two_lines a i r = cond (ltb i (length a.ops)) (cond (is_line (at a i) && to_line a i) r (refuse 15)) (refuse 14)

-- queue m goes: higher queue numbers fall by one
abbrev pub fallen : ℕ → ℕ → ℕ
fallen m q = cond (ltb m q) (q - 1) q

abbrev pub lowered : ℕ → Op → Op
lowered m (line p q ss) = line (fallen m p) (fallen m q) ss
lowered m (latest p v f) = latest (fallen m p) v f
lowered m (double p q r) = double (fallen m p) (fallen m q) (fallen m r)
lowered m (deal c p qs) = deal c (fallen m p) (map (fallen m) qs)
lowered m (gather c q ps) = gather c (fallen m q) (map (fallen m) ps)

-- fuse a: one line at a's place with a's in, b's out, a's steps and then b's; b and the queue between them go
abbrev pub fused : Abstract → ℕ → ℕ → Abstract
fused a i j =
    let o = line (in_of (at a i)) (out_of (at a j)) (steps_of (at a i) ++ steps_of (at a j)) in
    let os = set a.ops i o in
    record {
      inputs = a.inputs;
      queues = a.queues - 1;
      variables = a.variables;
      ops = map (lowered (out_of (at a i))) (take j os ++ drop (j + 1) os);
    }

unfoldable pub fuse : Abstract → ℕ → Remade
fuse a i =
    if_two_lines a i
    (cond (leb (length (steps_of (at a i)) + length (steps_of (at a (next_of a i)))) PLACES) (rewritten (fused a i (next_of a i))) (refuse 16))

-- what stands for line o that is split k ways, where q queues and v variables are there: a deal, k lines with its steps, a gather
abbrev pub pieces : ℕ → ℕ → ℕ → Op → List Op
pieces q v k o =
    deal v (in_of o) (build k (λ (j : ℕ). q + j))
    ∷ (build k (λ (j : ℕ). line (q + j) (q + k + j) (steps_of o)) ++ (gather (v + 1) (out_of o) (build k (λ (j : ℕ). q + k + j)) ∷ []))

-- split a, k ways: the pieces at a's place, two more variables and 2k more queues
abbrev pub parted : Abstract → ℕ → ℕ → Abstract
parted a i k =
    record {
      inputs = a.inputs;
      queues = a.queues + 2 * k;
      variables = a.variables + 2;
      ops = take i a.ops ++ (pieces a.queues a.variables k (at a i) ++ drop (i + 1) a.ops);
    }

abbrev pub room_to_split : Abstract → ℕ → Bool
room_to_split a k = leb (a.queues + 2 * k) QUEUES && (leb (a.variables + 2) VARIABLES && leb (length a.ops + k + 1) OPERATORS)

-- what the table says of a step: it touches no variable; it writes some field
abbrev pub touches_none : Step → Bool
touches_none t = not (row_of t.func).variable

abbrev pub writes_some : Step → Bool
writes_some t = not (eqb (row_of t.func).writes 0)

unfoldable pub split : Abstract → ℕ → ℕ → Remade
split a i k =
    cond (ltb i (length a.ops) && (leb 2 k && leb k PLACES))
    (cond (is_line (at a i))
    (cond (room_to_split a k)
    (cond (all (λ (t : Step). touches_none t && writes_some t) (steps_of (at a i))) (rewritten (parted a i k)) (refuse 17))
    (refuse 16))
    (refuse 15))
    (refuse 14)

-- the fields that a mask names: 1 is field p, 2 is field r
abbrev pub masked : ℕ → Step → List ℕ
masked m t = cond (eqb (m % 2) 1) (t.p ∷ []) [] ++ cond (eqb (m / 2) 1) (t.r ∷ []) []

abbrev pub fields_read : List Step → List ℕ
fields_read ss = chain (λ (t : Step). masked (row_of t.func).reads t) ss

abbrev pub fields_written : List Step → List ℕ
fields_written ss = chain (λ (t : Step). masked (row_of t.func).writes t) ss

-- no field that the one writes is read or written by the other
abbrev pub leaves : List Step → List Step → Bool
leaves ss ts = all (λ (f : ℕ). not (member f (fields_read ts) || member f (fields_written ts))) (fields_written ss)

-- reorder a: the two step lists change places
abbrev pub exchanged : Abstract → ℕ → ℕ → Abstract
exchanged a i j =
    record {
      inputs = a.inputs;
      queues = a.queues;
      variables = a.variables;
      ops =
          set (set a.ops i (line (in_of (at a i)) (out_of (at a i)) (steps_of (at a j)))) j
          (line (in_of (at a j)) (out_of (at a j)) (steps_of (at a i)));
    }

unfoldable pub reorder : Abstract → ℕ → Remade
reorder a i =
    let ss = steps_of (at a i) in
    let ts = steps_of (at a (next_of a i)) in
    if_two_lines a i (cond (all touches_none (ss ++ ts) && (leaves ss ts && leaves ts ss)) (rewritten (exchanged a i (next_of a i))) (refuse 17))
