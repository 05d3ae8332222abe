-- One more than the highest of some numbers; and that the tree of an accepted sheet stands for that sheet: every queue below Q is defined, none from Q on is named.
-- Assumes nothing.
use mathlib.Core.Path.{◌≡◌, ap, ◌∙◌}
use mathlib.Core.Logic.{⊎_elim}
use mathlib.Core.Bool.{Bool, true, false, cond, ◌||◌}
use mathlib.Core.List.{List, [], ◌∷◌, ◌++◌}
use Prim.Native.Nat.{ℕ, zero, suc, ◌<◌, ◌≤◌}
use native.Mathlib.Omega.{arith}
use lib.Dec.{eqb, ltb, leb}
use borrow.Author.Tests.{ltb-true, lt-ltb, le-leb, lt-leb, eqb-true}
use Rattle.base_lists.specs.Lists.{build, all, any, member, chain}
use Rattle.base_lists.proofs.Build.{order, never, build_length}
use Rattle.base_lists.proofs.Tests.{both, both_of, or_cases, or_left, or_right, all_append, all_chain, all_build, all_build_of, member_append, member_chain}
use Rattle.base_lists.proofs.Members.{member_below}
use Rattle.sheet_operator.specs.Op.{Op, reads, defines}
use Rattle.sheet_operator.specs.Memory.{view}
use Rattle.sheet_judge.specs.Judge.{known, whole}
use Rattle.sheet_judge.proofs.JudgedLaws.{judged_four, four_reads, four_defines}
use Rattle.sheet.specs.declared.Sheet.{Sheet}
use Rattle.sheet.specs.Answer.{accepted}
use Rattle.sheet.specs.Sheet.{op_at, view_to, view_sheet}
use Rattle.sheet.specs.Check.{check_of}
use Rattle.sheet.proofs.Accepted.{accepted_facts, ranges_of_accepted}
use Rattle.text_form.specs.Form.{above, tree_of, sheet_of}

-- ---- above

pub above_most : (l : List ℕ) (n : ℕ) → all (λ (q : ℕ). ltb q n) l ≡ true → above l ≤ n
above_most [] n h = omega arith
above_most (q ∷ l) n h =
    let p = both (ltb q n) (all (λ (k : ℕ). ltb k n) l) h in
    one (leb (above l) q) (ltb-true q n p.0) (above_most l n p.1)
  where
    one : (b : Bool) → q < n → above l ≤ n → cond b (suc q) (above l) ≤ n
    one true u v = omega arith
    one false u v = v

pub above_least : (l : List ℕ) (k : ℕ) → member k l ≡ true → k < above l
above_least [] k h = never h
above_least (q ∷ l) k h =
    ⊎_elim (λ e. here (above l) q k (eqb-true k q e)) (λ m. there (above l) q k (above_least l k m)) (or_cases (eqb k q) (member k l) h)
  where
    here : (n q k : ℕ) → k ≡ q → k < cond (leb n q) (suc q) n
    here n q k e =
        ⊎_elim (λ (l : q < n). rw (lt-leb n q l) (omega arith)) (λ (l : n ≤ q). rw (le-leb n q l) (omega arith)) (order q n)

    there : (n q k : ℕ) → k < n → k < cond (leb n q) (suc q) n
    there n q k b =
        ⊎_elim (λ (l : q < n). rw (lt-leb n q l) b) (λ (l : n ≤ q). rw (le-leb n q l) (omega arith)) (order q n)

pub above_is : (l : List ℕ) (n : ℕ) → all (λ (q : ℕ). ltb q (suc n)) l ≡ true → member n l ≡ true → above l ≡ suc n
above_is l n h m = omega (arith, above_most l (suc n) h, above_least l n m)

-- ---- the queues that a sheet names

abbrev named : Op → List ℕ
named o = reads o ++ defines o

-- what is defined is named
defined_named : (i : ℕ) (os : List Op) (q : ℕ) → (ltb q i || any (λ (o : Op). member q (defines o)) os) ≡ true →
    member q (build i (λ (k : ℕ). k) ++ chain named os) ≡ true
defined_named i os q h =
    member_append q (build i (λ (k : ℕ). k)) (chain named os)
    ∙ ⊎_elim (λ e. or_left (member q (build i (λ (k : ℕ). k))) (member q (chain named os)) (member_below i q ∙ e))
    (λ e. or_right (member q (build i (λ (k : ℕ). k))) (member q (chain named os)) (member_chain q named os ∙ some os e))
    (or_cases (ltb q i) (any (λ (o : Op). member q (defines o)) os) h)
  where
    some : (os : List Op) → any (λ (o : Op). member q (defines o)) os ≡ true → any (λ (o : Op). member q (named o)) os ≡ true
    some [] e = e
    some (o ∷ os) e =
        ⊎_elim
        (λ d. or_left (member q (named o)) (any (λ (o : Op). member q (named o)) os)
        (member_append q (reads o) (defines o) ∙ or_right (member q (reads o)) (member q (defines o)) d))
        (λ d. or_right (member q (named o)) (any (λ (o : Op). member q (named o)) os) (some os d))
        (or_cases (member q (defines o)) (any (λ (o : Op). member q (defines o)) os) e)

module _ (t : Sheet) (h : check_of t ≡ accepted) where
  op_below : (i : ℕ) → i < t.count → all (λ (q : ℕ). ltb q t.queues) (named (view (op_at t i))) ≡ true
  op_below i l =
      let k = known (view_to t i) in
      let o = view (op_at t i) in
      let f = judged_four t.queues t.variables k o ((accepted_facts t h).judged i l) in
      all_append (λ (q : ℕ). ltb q t.queues) (reads o) (defines o)
      ∙ both_of _ _ (four_reads t.queues k o f) (four_defines t.queues k o f)

  abbrev all_named : List ℕ
  all_named = build t.inputs (λ (k : ℕ). k) ++ chain named (view_sheet t).ops

  named_below : all (λ (q : ℕ). ltb q t.queues) all_named ≡ true
  named_below =
      all_append (λ (q : ℕ). ltb q t.queues) (build t.inputs (λ (k : ℕ). k)) (chain named (view_sheet t).ops)
      ∙ both_of _ _
      (all_build_of (λ (q : ℕ). ltb q t.queues) t.inputs (λ (k : ℕ). k)
      (λ k b. lt-ltb k t.queues (omega (arith, (ranges_of_accepted t h).within))))
      (all_chain (λ (q : ℕ). ltb q t.queues) named (view_sheet t).ops
      ∙ all_build_of (λ (o : Op). all (λ (q : ℕ). ltb q t.queues) (named o)) t.count (λ (k : ℕ). view (op_at t k)) op_below)

  below_named : (q : ℕ) → q < t.queues → member q all_named ≡ true
  unfolding whole
  below_named q l =
      defined_named t.inputs (view_sheet t).ops q
      (all_build (known (view_sheet t)).defined t.queues (λ (k : ℕ). k) (accepted_facts t h).defined q l)

  queues_are : above all_named ≡ t.queues
  queues_are = by t.queues (omega (arith, (ranges_of_accepted t h).some, (ranges_of_accepted t h).within)) named_below below_named
    where
      by : (n : ℕ) → 1 ≤ n → all (λ (q : ℕ). ltb q n) all_named ≡ true → ((q : ℕ) → q < n → member q all_named ≡ true) → above all_named ≡ n
      by zero l a b = absurd (omega arith)
      by (suc n) l a b = above_is all_named n a (b n (omega arith))

  -- I, Q, V and the operators come back from the tree
  pub sheet_of_tree : sheet_of (tree_of (view_sheet t)) ≡ view_sheet t
  sheet_of_tree =
      ap (λ (i : ℕ). record { inputs = i; queues = above all_named; variables = t.variables; ops = (view_sheet t).ops })
      (build_length t.inputs (λ (k : ℕ). k))
      ∙ ap (λ (q : ℕ). record { inputs = t.inputs; queues = q; variables = t.variables; ops = (view_sheet t).ops }) queues_are
