-- What was read is written again: an operator that the front of a list holds, and its record. What is left is bytes too.
-- Assumes nothing.
use mathlib.Core.Path.{◌≡◌, refl, ap, sym, ◌∙◌}
use mathlib.Core.Logic.{⊎_elim}
use mathlib.Core.Bool.{Bool, true, false, cond, ◌&&◌}
use mathlib.Core.List.{List, [], ◌∷◌, ◌++◌}
use Prim.Native.Nat.{ℕ, ◌+◌, ◌*◌, ◌-◌, ◌/◌, ◌%◌, ◌<◌, ◌≤◌}
use native.Mathlib.Omega.{arith}
use lib.Dec.{eqb, leb, lit<}
use lib.ListN.{length, get_or, take, drop, length-drop, get_or-eq_default}
use lib.Seq.{take-add}
use borrow.Author.Tests.{leb-true, eqb-true}
use Rattle.base_number.specs.Number.{short_of}
use Rattle.base_lists.specs.Lists.{build, chain}
use Rattle.base_lists.proofs.Build.{order, never, never', build_length, build_get_or, take_build}
use Rattle.base_lists.proofs.Tests.{both}
use Rattle.sheet_step.specs.Step.{STEP_BYTES, no_step, step_of, step_bytes}
use Rattle.sheet_step.specs.declared.Step.{Step}
use Rattle.sheet_operator.specs.Op.{Op}
use Rattle.sheet_operator.specs.Memory.{PLACES, is_empty, view_as, Held}
use Rattle.sheet_operator.specs.declared.Kind.{Kind}
use Rattle.sheet_operator.specs.declared.Kind.TheVariants.{Empty, Line, Latest, Double, Deal, Gather}
use Rattle.sheet_operator.specs.declared.Operator.{Operator}
use Rattle.sheet_operator.proofs.ViewLaws.{Small}
use Rattle.sheet_format.specs.Record.{HEADER, kind_of, kind_code, kind_in, body_bytes, op_bytes, cut, body_good, ways_of, op_of, bad, took, taken}
use Rattle.sheet_format.proofs.Sizes.{FitsStep, FitsSteps, FitsOp, known_steps, known_op}
use Rattle.sheet_format.proofs.Codes.{code_of_kind}
use Rattle.sheet_format.proofs.Steps.{bytes_of_steps}
use Rattle.sheet_format.proofs.Fronts.{room_of_cut, drop_below, front_back}
use Rattle.sheet_format.proofs.Written.{steps_after_two, ways_after_two}

-- what a record that was taken says of the bytes
pub record From (s : List ℕ) (o : Op) (rest : List ℕ) : Type 0 where
  pub whole : cut s ≡ false
  pub some : is_empty (kind_of (short_of (drop 2 s))) ≡ false
  pub good : body_good (kind_of (short_of (drop 2 s))) (short_of s) ≡ true
  pub op : o ≡ op_of (kind_of (short_of (drop 2 s))) (short_of s) (drop HEADER s)
  pub left : rest ≡ drop (short_of s) (drop HEADER s)

-- by the three tests
by_tests : (x y z : Bool) (a o : Op) (r rest : List ℕ) → cond x (bad 1) (cond y (bad 2) (cond z (took a r) (bad 1))) ≡ took o rest →
    (x ≡ false) × (y ≡ false) × (z ≡ true) × (o ≡ a) × (rest ≡ r)
by_tests true y z a o r rest h = let e : ◌≡◌ {A = ℕ} 0 1 = cc in absurd (omega arith)
by_tests false true z a o r rest h = let e : ◌≡◌ {A = ℕ} 0 1 = cc in absurd (omega arith)
by_tests false false false a o r rest h = let e : ◌≡◌ {A = ℕ} 0 1 = cc in absurd (omega arith)
by_tests false false true a o r rest h = (refl, refl, refl, (cc), (cc))

pub from_of_taken : (s : List ℕ) (o : Op) (rest : List ℕ) → taken s ≡ took o rest → From s o rest
unfolding taken
from_of_taken s o rest h =
    let k = kind_of (short_of (drop 2 s)) in
    let b = drop HEADER s in
    let p = by_tests (cut s) (is_empty k) (body_good k (short_of s)) (op_of k (short_of s) b) o (drop (short_of s) b) rest h in
    record { whole = p.0; some = p.1; good = p.2; op = p.3; left = p.4 }

-- a record that is not taken is refused with 1 or 2
bad_tests : (x y z : Bool) (a : Op) (r : List ℕ) (n : ℕ) → cond x (bad 1) (cond y (bad 2) (cond z (took a r) (bad 1))) ≡ bad n → (1 ≤ n) × (n ≤ 2)
bad_tests true y z a r n h = let e : 1 ≡ n = cc in omega arith
bad_tests false true z a r n h = let e : 2 ≡ n = cc in omega arith
bad_tests false false true a r n h = let e : ◌≡◌ {A = ℕ} 0 1 = cc in absurd (omega arith)
bad_tests false false false a r n h = let e : 1 ≡ n = cc in omega arith

pub number_of_bad : (s : List ℕ) (n : ℕ) → taken s ≡ bad n → (1 ≤ n) × (n ≤ 2)
unfolding taken
number_of_bad s n h =
    let k = kind_of (short_of (drop 2 s)) in
    let b = drop HEADER s in
    bad_tests (cut s) (is_empty k) (body_good k (short_of s)) (op_of k (short_of s) b) (drop (short_of s) b) n h

-- a line's length is two bytes and its steps; a deal's and a gather's are two bytes and their ways
record LineLength (n : ℕ) : Type 0 where
  least : 2 + STEP_BYTES ≤ n
  most : n ≤ 2 + STEP_BYTES * PLACES
  steps : n ≡ 2 + STEP_BYTES * ((n - 2) / STEP_BYTES)

line_length : (n : ℕ) → body_good Line n ≡ true → LineLength n
unfolding body_good
line_length n h =
    let p = both (leb (2 + STEP_BYTES) n) (leb n (2 + STEP_BYTES * PLACES) && eqb ((n - 2) % STEP_BYTES) 0) h in
    let q = both (leb n (2 + STEP_BYTES * PLACES)) (eqb ((n - 2) % STEP_BYTES) 0) p.1 in
    let l = leb-true (2 + STEP_BYTES) n p.0 in
    let m = leb-true n (2 + STEP_BYTES * PLACES) q.0 in
    let r = eqb-true ((n - 2) % STEP_BYTES) 0 q.1 in
    record { least = l; most = m; steps = omega arith }

ways_length : (n : ℕ) → (leb 4 n && leb n (2 + PLACES)) ≡ true → (4 ≤ n) × (n ≤ 2 + PLACES)
ways_length n h = let p = both (leb 4 n) (leb n (2 + PLACES)) h in (leb-true 4 n p.0, leb-true n (2 + PLACES) p.1)

-- by the kind: how much a body of good length holds
small_line : (n : ℕ) (g : ℕ → Step) → LineLength n → (1 ≤ length (build ((n - 2) / STEP_BYTES) g)) × (length (build ((n - 2) / STEP_BYTES) g) ≤ PLACES)
small_line n g h = let e = build_length ((n - 2) / STEP_BYTES) g in let s = h.steps in (omega arith, omega arith)

small_ways : (n : ℕ) (g : ℕ → ℕ) → (4 ≤ n) × (n ≤ 2 + PLACES) → (2 ≤ length (build (n - 2) g)) × (length (build (n - 2) g) ≤ PLACES)
small_ways n g h = let e = build_length (n - 2) g in (omega arith, omega arith)

small_body : (k : Kind) (n : ℕ) (b : List ℕ) → body_good k n ≡ true → Small (op_of k n b)
unfolding body_good
small_body Empty n b h = never h
small_body Line n b h = small_line n (λ (k : ℕ). step_of (drop (2 + STEP_BYTES * k) b)) (line_length n h)
small_body Latest n b h = tt
small_body Double n b h = tt
small_body Deal n b h = small_ways n (λ (k : ℕ). get_or b (2 + k) 0) (ways_length n h)
small_body Gather n b h = small_ways n (λ (k : ℕ). get_or b (2 + k) 0) (ways_length n h)

-- that its steps' numbers fit
no_step_fits : FitsStep no_step
no_step_fits = record { low = record { sfits = lit< tt }; high = record { sfits = lit< tt } }

steps_fit : (n : ℕ) (g : ℕ → Step) → ((k : ℕ) → FitsStep (g k)) → FitsSteps (build n g)
steps_fit n g h k =
    ⊎_elim (λ (l : k < n). rw (build_get_or n g no_step k l) (h k))
    (λ (l : n ≤ k). rw (get_or-eq_default (build n g) no_step {n = k} (rw (build_length n g) l)) no_step_fits)
    (order k n)

-- an operator that the program holds has numbers that fit
pub fits_as : (k : Kind) (o : Operator) → Held o → FitsOp (view_as k o)
fits_as Empty o h = tt
fits_as Line o h = steps_fit o.count (λ (k : ℕ). get_or o.steps k no_step) (λ k. record { low = h.step_lows k; high = h.step_highs k })
fits_as Latest o h = tt
fits_as Double o h = tt
fits_as Deal o h = tt
fits_as Gather o h = tt

-- and that its bytes are those of the operator
two_and : (b : List ℕ) (n m : ℕ) → n ≡ 2 + m → n ≤ length b → get_or b 0 0 ∷ get_or b 1 0 ∷ take m (drop 2 b) ≡ take n b
two_and [] n m e l = absurd (omega arith)
two_and (x ∷ []) n m e l = absurd (omega arith)
two_and (x ∷ y ∷ b) n m e l = rw e (sym (take-add 2 m (x ∷ y ∷ b)))

line_bytes : (n : ℕ) (b : List ℕ) → LineLength n → n ≤ length b → ((j : ℕ) → get_or b j 0 < 256) → known_op (op_of Line n b) ≡ true →
    body_bytes (op_of Line n b) ≡ take n b
line_bytes n b h l below known =
    let m = (n - 2) / STEP_BYTES in
    let steps = h.steps in
    let two = steps_after_two m b in
    let back = bytes_of_steps m (drop 2 b) (simp length-drop (omega arith)) (drop_below 2 b below) (ap known_steps (sym two) ∙ known) in
    ap (λ (r : List ℕ). get_or b 0 0 ∷ get_or b 1 0 ∷ r) (ap (chain step_bytes) two ∙ back) ∙ two_and b n (STEP_BYTES * m) steps l

ways_bytes : (n : ℕ) (b : List ℕ) → (4 ≤ n) × (n ≤ 2 + PLACES) → n ≤ length b → get_or b 0 0 ∷ get_or b 1 0 ∷ ways_of n b ≡ take n b
ways_bytes n b h l =
    ap (λ (r : List ℕ). get_or b 0 0 ∷ get_or b 1 0 ∷ r) (ways_after_two n b ∙ take_build (n - 2) (drop 2 b) 0 (simp length-drop (omega arith)))
    ∙ two_and b n (n - 2) (omega arith) l

three_bytes : (b : List ℕ) (n : ℕ) → n ≡ 3 → n ≤ length b → get_or b 0 0 ∷ get_or b 1 0 ∷ get_or b 2 0 ∷ [] ≡ take n b
three_bytes [] n e l = absurd (omega arith)
three_bytes (x ∷ []) n e l = absurd (omega arith)
three_bytes (x ∷ y ∷ []) n e l = absurd (omega arith)
three_bytes (x ∷ y ∷ z ∷ b) n e l = rw e

body_bytes_lem : (k : Kind) (n : ℕ) (b : List ℕ) → body_good k n ≡ true → n ≤ length b → ((j : ℕ) → get_or b j 0 < 256) → known_op (op_of k n b) ≡ true →
    body_bytes (op_of k n b) ≡ take n b
unfolding body_good
body_bytes_lem Empty n b h l below known = never h
body_bytes_lem Line n b h l below known = line_bytes n b (line_length n h) l below known
body_bytes_lem Latest n b h l below known = three_bytes b n (eqb-true n 3 h) l
body_bytes_lem Double n b h l below known = three_bytes b n (eqb-true n 3 h) l
body_bytes_lem Deal n b h l below known = ways_bytes n b (ways_length n h) l
body_bytes_lem Gather n b h l below known = ways_bytes n b (ways_length n h) l

kind_of_op : (k : Kind) (n : ℕ) (b : List ℕ) → is_empty k ≡ false → kind_in (op_of k n b) ≡ k
kind_of_op Empty n b h = never' h
kind_of_op Line n b h = refl
kind_of_op Latest n b h = refl
kind_of_op Double n b h = refl
kind_of_op Deal n b h = refl
kind_of_op Gather n b h = refl

module _ (s : List ℕ) (o : Op) (rest : List ℕ) where
  pub small_of_taken : taken s ≡ took o rest → Small o
  small_of_taken h =
      let f = from_of_taken s o rest h in
      rw f.op (small_body (kind_of (short_of (drop 2 s))) (short_of s) (drop HEADER s) f.good)

  pub rest_below : ((k : ℕ) → get_or s k 0 < 256) → taken s ≡ took o rest → (k : ℕ) → get_or rest k 0 < 256
  rest_below below h k =
      let f = from_of_taken s o rest h in
      rw f.left (drop_below (short_of s) (drop HEADER s) (drop_below HEADER s below) k)

  pub bytes_of_taken : ((k : ℕ) → get_or s k 0 < 256) → taken s ≡ took o rest → known_op o ≡ true → op_bytes o ++ rest ≡ s
  unfolding op_bytes
  bytes_of_taken below h known =
      let f = from_of_taken s o rest h in
      let room = room_of_cut s f.whole in
      let n = short_of (drop 2 s) in
      let b = drop HEADER s in
      let known = rw f.op at known in
      let body = body_bytes_lem (kind_of n) (short_of s) b f.good room.body (drop_below HEADER s below) known in
      let kind = ap kind_code (kind_of_op (kind_of n) (short_of s) b f.some) ∙ code_of_kind n f.some in
      rw (f.op, f.left, body, kind) (front_back s room below)
