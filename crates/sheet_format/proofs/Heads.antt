-- The head and its eight bytes: reading gives back what was written, writing what was read.
-- Assumes nothing.
use mathlib.Core.Path.{◌≡◌, refl}
use mathlib.Core.Bool.{Bool, true, false, cond, ◌&&◌}
use mathlib.Core.List.{List, [], ◌∷◌, ◌++◌}
use Prim.Native.Nat.{ℕ, ◌<◌, ◌≤◌}
use native.Mathlib.Omega.{arith}
use lib.Dec.{eqb, leb, lit<}
use lib.ListN.{length, get_or, take, drop, length-drop}
use lib.Seq.{get_or-drop, drop-drop}
use borrow.Author.Tests.{leb-true, eqb-true}
use Rattle.base_number.specs.Number.{short_of, short_bytes}
use Rattle.base_lists.proofs.Tests.{both}
use Rattle.sheet_format.specs.Record.{HEADER, cut, record_bytes}
use Rattle.sheet_format.specs.Head.{HEAD_BYTES, head_good, head_number, head_bytes}
use Rattle.base_bounds.specs.Bounds.{OPERATORS, VARIABLES, QUEUES, INPUTS}
use Rattle.sheet_format.proofs.Fronts.{room_of_cut, front_back, length_in_front, kind_in_front, record_not_cut}

-- what a good head says
pub record HeadRanges (i q v n : ℕ) : Type 0 where
  pub some : 1 ≤ i
  pub inputs : i ≤ INPUTS
  pub within : i ≤ q
  pub queues : q ≤ QUEUES
  pub variables : v ≤ VARIABLES
  pub count : n ≤ OPERATORS

pub ranges_of_good : (i q v n : ℕ) → head_good i q v n ≡ true → HeadRanges i q v n
unfolding head_good
ranges_of_good i q v n h =
    let a = both (leb 1 i) (leb i INPUTS && (leb i q && (leb q QUEUES && (leb v VARIABLES && leb n OPERATORS)))) h in
    let b = both (leb i INPUTS) (leb i q && (leb q QUEUES && (leb v VARIABLES && leb n OPERATORS))) a.1 in
    let c = both (leb i q) (leb q QUEUES && (leb v VARIABLES && leb n OPERATORS)) b.1 in
    let d = both (leb q QUEUES) (leb v VARIABLES && leb n OPERATORS) c.1 in
    let e = both (leb v VARIABLES) (leb n OPERATORS) d.1 in
    record {
      some = leb-true 1 i a.0;
      inputs = leb-true i INPUTS b.0;
      within = leb-true i q c.0;
      queues = leb-true q QUEUES d.0;
      variables = leb-true v VARIABLES e.0;
      count = leb-true n OPERATORS e.1;
    }

module _ (i q v n : ℕ) where
  pub length_head_bytes : length (head_bytes i q v n) ≡ HEAD_BYTES
  unfolding record_bytes short_bytes
  length_head_bytes = refl

module _ (i q v n : ℕ) (rest : List ℕ) where
  pub head_inputs : get_or (head_bytes i q v n ++ rest) 4 0 ≡ i
  unfolding record_bytes short_bytes
  head_inputs = refl

  pub head_queues : get_or (head_bytes i q v n ++ rest) 5 0 ≡ q
  unfolding record_bytes short_bytes
  head_queues = refl

  pub head_variables : get_or (head_bytes i q v n ++ rest) 6 0 ≡ v
  unfolding record_bytes short_bytes
  head_variables = refl

  pub head_count : get_or (head_bytes i q v n ++ rest) 7 0 ≡ n
  unfolding record_bytes short_bytes
  head_count = refl

  pub after_head : drop HEAD_BYTES (head_bytes i q v n ++ rest) ≡ rest
  unfolding record_bytes short_bytes
  after_head = refl

  pub head_of_bytes : head_good i q v n ≡ true → head_number (head_bytes i q v n ++ rest) ≡ 0
  unfolding head_number
  head_of_bytes h =
      let body = i ∷ q ∷ v ∷ n ∷ [] in
      rw (
        record_not_cut 1 body rest (lit< tt),
        kind_in_front 1 body rest (lit< tt),
        length_in_front 1 body rest (lit< tt),
        head_inputs,
        head_queues,
        head_variables,
        head_count,
        h,
      )

-- by the four tests
by_tests : (x y z g : Bool) → ◌≡◌ {A = ℕ} (cond x 1 (cond y (cond z (cond g 0 3) 1) 2)) 0 → (x ≡ false) × (y ≡ true) × (z ≡ true) × (g ≡ true)
by_tests true y z g h = absurd (omega arith)
by_tests false false z g h = absurd (omega arith)
by_tests false true false g h = absurd (omega arith)
by_tests false true true false h = absurd (omega arith)
by_tests false true true true h = (refl, refl, refl, refl)

-- what a head that is read says of the bytes
pub record HeadFrom (s : List ℕ) : Type 0 where
  pub whole : cut s ≡ false
  pub kind : short_of (drop 2 s) ≡ 1
  pub size : short_of s ≡ 4
  pub good : head_good (get_or s 4 0) (get_or s 5 0) (get_or s 6 0) (get_or s 7 0) ≡ true

pub head_from_number : (s : List ℕ) → head_number s ≡ 0 → HeadFrom s
unfolding head_number
head_from_number s h =
    let p = by_tests (cut s) (eqb (short_of (drop 2 s)) 1) (eqb (short_of s) 4) (head_good (get_or s 4 0) (get_or s 5 0) (get_or s 6 0) (get_or s 7 0)) h in
    record { whole = p.0; kind = eqb-true (short_of (drop 2 s)) 1 p.1; size = eqb-true (short_of s) 4 p.2; good = p.3 }

pub head_good_of_number : (s : List ℕ) → head_number s ≡ 0 → head_good (get_or s 4 0) (get_or s 5 0) (get_or s 6 0) (get_or s 7 0) ≡ true
head_good_of_number s h = (head_from_number s h).good

-- a head that is refused has a number up to 3
most_tests : (x y z g : Bool) → cond x 1 (cond y (cond z (cond g 0 3) 1) 2) ≤ 3
most_tests true y z g = omega arith
most_tests false false z g = omega arith
most_tests false true false g = omega arith
most_tests false true true false = omega arith
most_tests false true true true = omega arith

pub head_number_most : (s : List ℕ) → head_number s ≤ 3
unfolding head_number
head_number_most s = most_tests (cut s) (eqb (short_of (drop 2 s)) 1) (eqb (short_of s) 4) (head_good (get_or s 4 0) (get_or s 5 0) (get_or s 6 0) (get_or s 7 0))

first_four : (b : List ℕ) → 4 ≤ length b → get_or b 0 0 ∷ get_or b 1 0 ∷ get_or b 2 0 ∷ get_or b 3 0 ∷ [] ≡ take 4 b
first_four [] l = absurd (omega arith)
first_four (x ∷ []) l = absurd (omega arith)
first_four (x ∷ y ∷ []) l = absurd (omega arith)
first_four (x ∷ y ∷ z ∷ []) l = absurd (omega arith)
first_four (x ∷ y ∷ z ∷ w ∷ b) l = refl

-- the four bytes of the head's body
head_body : (s : List ℕ) → 4 ≤ length (drop HEADER s) → get_or s 4 0 ∷ get_or s 5 0 ∷ get_or s 6 0 ∷ get_or s 7 0 ∷ [] ≡ take 4 (drop HEADER s)
head_body s l = rw (get_or-drop HEADER s 0 0, get_or-drop HEADER s 1 0, get_or-drop HEADER s 2 0, get_or-drop HEADER s 3 0) at (first_four (drop HEADER s) l)

pub head_room : (s : List ℕ) → head_number s ≡ 0 → HEAD_BYTES ≤ length s
head_room s h =
    let f = head_from_number s h in
    let r = room_of_cut s f.whole in
    omega (arith, f.size, r.body, length-drop HEADER s)

pub bytes_of_head : (s : List ℕ) → head_number s ≡ 0 → ((k : ℕ) → get_or s k 0 < 256) →
    head_bytes (get_or s 4 0) (get_or s 5 0) (get_or s 6 0) (get_or s 7 0) ++ drop HEAD_BYTES s ≡ s
bytes_of_head s h below =
    let f = head_from_number s h in
    let r = room_of_cut s f.whole in
    let l : 4 ≤ length (drop HEADER s) = omega (arith, f.size, r.body) in
    let back = rw (f.kind, f.size, drop-drop 4 HEADER s) at (front_back s r below) in
    rw (head_body s l) back
