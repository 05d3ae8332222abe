-- What was written is read: the front of a list that starts with an operator's record holds that operator.
-- Assumes nothing.
use mathlib.Core.Path.{◌≡◌, refl, ap, sym, ◌∙◌}
use mathlib.Core.Bool.{true, false, ◌&&◌}
use mathlib.Core.List.{List, ◌∷◌, ◌++◌}
use Prim.Native.Nat.{ℕ, ◌+◌, ◌*◌, ◌-◌, ◌/◌, ◌%◌, ◌<◌, ◌≤◌}
use native.Mathlib.Omega.{arith}
use lib.Dec.{leb}
use lib.ListN.{length, get_or, drop}
use lib.Seq.{drop-drop, get_or-drop, drop-append_seam}
use borrow.Author.Tests.{le-leb}
use Rattle.base_lists.specs.Lists.{build}
use Rattle.base_lists.proofs.Build.{build_ext, build_append_get_or}
use Rattle.sheet_step.specs.Step.{STEP_BYTES, step_of}
use Rattle.sheet_step.specs.declared.Step.{Step}
use Rattle.sheet_operator.specs.Op.{Op, line, latest, double, deal, gather}
use Rattle.sheet_operator.specs.Memory.{PLACES, is_empty}
use Rattle.sheet_operator.specs.declared.Kind.TheVariants.{Line}
use Rattle.sheet_operator.proofs.ViewLaws.{Small}
use Rattle.sheet_format.specs.Record.{kind_code, kind_in, body_bytes, op_bytes, body_good, ways_of, op_of, took, taken_as, taken}
use Rattle.sheet_format.proofs.Sizes.{FitsOp, length_steps_bytes, length_body_bytes}
use Rattle.sheet_format.proofs.Codes.{kind_of_code, code_below}
use Rattle.sheet_format.proofs.Steps.{steps_of, steps_of_bytes}
use Rattle.sheet_format.proofs.Fronts.{body_after_header, length_in_front, kind_in_front, record_not_cut}

-- the steps of a line's body, and the ways of a deal's and a gather's, stand after two bytes
pub steps_after_two : (n : ℕ) (b : List ℕ) → build n (λ (k : ℕ). step_of (drop (2 + STEP_BYTES * k) b)) ≡ steps_of n (drop 2 b)
steps_after_two n b =
    build_ext n (λ (k : ℕ). step_of (drop (2 + STEP_BYTES * k) b)) (λ (k : ℕ). step_of (drop (STEP_BYTES * k) (drop 2 b)))
    (λ k h. ap step_of (sym (drop-drop (STEP_BYTES * k) 2 b)))

pub ways_after_two : (n : ℕ) (b : List ℕ) → ways_of n b ≡ build (n - 2) (λ (k : ℕ). get_or (drop 2 b) k 0)
ways_after_two n b = build_ext (n - 2) (λ (k : ℕ). get_or b (2 + k) 0) (λ (k : ℕ). get_or (drop 2 b) k 0) (λ k h. sym (get_or-drop 2 b k 0))

-- a body of the right length
line_good : (n m : ℕ) → n ≡ 2 + STEP_BYTES * m → 1 ≤ m → m ≤ PLACES → body_good Line n ≡ true
unfolding body_good
line_good n m e l h =
    let r : (n - 2) % STEP_BYTES ≡ 0 = omega arith in
    rw (le-leb (2 + STEP_BYTES) n (omega arith), le-leb n (2 + STEP_BYTES * PLACES) (omega arith), r)

ways_good : (n m : ℕ) → n ≡ 2 + m → 2 ≤ m → m ≤ PLACES → (leb 4 n && leb n (2 + PLACES)) ≡ true
ways_good n m e l h = rw (le-leb 4 n (omega arith), le-leb n (2 + PLACES) (omega arith))

line_back : (p q n : ℕ) (ss : List Step) (rest : List ℕ) → n ≡ 2 + STEP_BYTES * length ss → FitsOp (line p q ss) →
    op_of Line n (body_bytes (line p q ss) ++ rest) ≡ line p q ss
line_back p q n ss rest e f =
    let m : (n - 2) / STEP_BYTES ≡ length ss = omega arith in
    ap (λ (l : List Step). line p q l)
    (steps_after_two ((n - 2) / STEP_BYTES) (body_bytes (line p q ss) ++ rest) ∙ rw m (steps_of_bytes ss rest f))

ways_back : (a b n : ℕ) (l rest : List ℕ) → n ≡ 2 + length l → ways_of n (a ∷ b ∷ (l ++ rest)) ≡ l
ways_back a b n l rest e =
    let m : n - 2 ≡ length l = omega arith in
    ways_after_two n (a ∷ b ∷ (l ++ rest)) ∙ rw m (build_append_get_or l rest 0)

-- by the kind: the body's length is good, and its bytes hold the operator
body_good_lem : (o : Op) → Small o → body_good (kind_in o) (length (body_bytes o)) ≡ true
unfolding body_good
body_good_lem (line p q ss) h = line_good (length (body_bytes (line p q ss))) (length ss) (omega (arith, length_steps_bytes ss)) h.0 h.1
body_good_lem (latest p v f) h = refl
body_good_lem (double p q r) h = refl
body_good_lem (deal c p qs) h = ways_good (length (body_bytes (deal c p qs))) (length qs) (omega arith) h.0 h.1
body_good_lem (gather c q ps) h = ways_good (length (body_bytes (gather c q ps))) (length ps) (omega arith) h.0 h.1

body_holds : (o : Op) (rest : List ℕ) → FitsOp o → op_of (kind_in o) (length (body_bytes o)) (body_bytes o ++ rest) ≡ o
body_holds (line p q ss) rest f = line_back p q (length (body_bytes (line p q ss))) ss rest (omega (arith, length_steps_bytes ss)) f
body_holds (latest p v f) rest h = refl
body_holds (double p q r) rest h = refl
body_holds (deal c p qs) rest h = ap (λ (l : List ℕ). deal c p l) (ways_back c p (length (body_bytes (deal c p qs))) qs rest (omega arith))
body_holds (gather c q ps) rest h = ap (λ (l : List ℕ). gather c q l) (ways_back c q (length (body_bytes (gather c q ps))) ps rest (omega arith))

pub kind_in_some : (o : Op) → is_empty (kind_in o) ≡ false
kind_in_some (line p q ss) = refl
kind_in_some (latest p v f) = refl
kind_in_some (double p q r) = refl
kind_in_some (deal c p qs) = refl
kind_in_some (gather c q ps) = refl

taken_as_body : (o : Op) (rest : List ℕ) → Small o → FitsOp o → taken_as (kind_in o) (length (body_bytes o)) (body_bytes o ++ rest) ≡ took o rest
taken_as_body o rest h f =
    rw (kind_in_some o, body_good_lem o h, body_holds o rest f, drop-append_seam (body_bytes o) rest)

pub taken_of_bytes : (o : Op) (rest : List ℕ) → Small o → FitsOp o → taken (op_bytes o ++ rest) ≡ took o rest
unfolding taken op_bytes
taken_of_bytes o rest h f =
    let k = kind_code (kind_in o) in
    let b = body_bytes o in
    let l : length b < 65536 = omega (arith, length_body_bytes o h) in
    rw (
      record_not_cut k b rest l,
      length_in_front k b rest l,
      kind_in_front k b rest (code_below (kind_in o)),
      body_after_header k b rest,
      kind_of_code (kind_in o) (kind_in_some o),
    ) (taken_as_body o rest h f)
