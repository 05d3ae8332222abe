-- What a body's length says, where it is its kind's; and its ways and steps, read in place.
-- Assumes nothing.
use mathlib.Core.Path.{◌≡◌, ap, sym, ◌∙◌}
use mathlib.Core.Bool.{true}
use mathlib.Core.List.{List}
use Prim.Native.Nat.{ℕ, ◌+◌, ◌*◌, ◌-◌, ◌%◌, ◌≤◌}
use native.Mathlib.Omega.{arith}
use lib.Dec.{eqb, leb}
use lib.ListN.{get_or, drop}
use lib.Seq.{get_or-drop, drop-drop}
use borrow.Author.Tests.{leb-true, eqb-true}
use Rattle.base_lists.specs.Lists.{build}
use Rattle.base_lists.proofs.Build.{build_ext}
use Rattle.base_lists.proofs.Tests.{both}
use Rattle.sheet_step.specs.Step.{step_of}
use Rattle.sheet_format.specs.Record.{body_good}
use Rattle.sheet_operator.specs.declared.Kind.TheVariants.{Line, Latest, Double, Deal, Gather}

pub line_body : (n : ℕ) → body_good Line n ≡ true → (14 ≤ n) × ((n ≤ 50) × ((n - 2) % 12 ≡ 0))
unfolding body_good
line_body n h =
    let p = both (leb 14 n) _ h in
    let q = both (leb n 50) (eqb ((n - 2) % 12) 0) p.1 in
    (leb-true _ _ p.0, (leb-true _ _ q.0, eqb-true _ _ q.1))

pub ways_body : (n : ℕ) → body_good Deal n ≡ true → (4 ≤ n) × (n ≤ 6)
unfolding body_good
ways_body n h =
    let p = both (leb 4 n) (leb n 6) h in
    (leb-true _ _ p.0, leb-true _ _ p.1)

-- a gather's is a deal's
pub gather_body : (n : ℕ) → body_good Gather n ≡ true → (4 ≤ n) × (n ≤ 6)
unfolding body_good
gather_body n h = ways_body n h

pub latest_body : (n : ℕ) → body_good Latest n ≡ true → n ≡ 3
unfolding body_good
latest_body n h = eqb-true n 3 h

pub double_body : (n : ℕ) → body_good Double n ≡ true → n ≡ 3
unfolding body_good
double_body n h = eqb-true n 3 h

-- the ways and the steps of a body that starts at `at`
pub ways_of_drop : (s : List ℕ) (at m : ℕ) → build m (λ (k : ℕ). get_or s (at + 2 + k) 0) ≡ build m (λ (k : ℕ). get_or (drop at s) (2 + k) 0)
ways_of_drop s at m =
    build_ext m _ _
    (λ k _.
    let e : at + 2 + k ≡ at + (2 + k) = omega arith in
    ap (λ (i : ℕ). get_or s i 0) e ∙ sym (get_or-drop at s (2 + k) 0))

pub steps_of_drop : (s : List ℕ) (at m : ℕ) →
    build m (λ (k : ℕ). step_of (drop (at + 2 + 12 * k) s)) ≡ build m (λ (k : ℕ). step_of (drop (2 + 12 * k) (drop at s)))
steps_of_drop s at m =
    build_ext m _ _
    (λ k _.
    let e : at + 2 + 12 * k ≡ at + (2 + 12 * k) = omega arith in
    ap (λ (i : ℕ). step_of (drop i s)) e ∙ ap step_of (sym (drop-drop (2 + 12 * k) at s)))
