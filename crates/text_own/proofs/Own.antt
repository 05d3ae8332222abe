-- A list is one of the sheet's own exactly if what is kept of the two is the same: the sheet's own have a place for each name.
-- Assumes nothing.
use Prim.Native.Nat.{ℕ, suc, ◌<◌, ◌≤◌}
use mathlib.Core.Path.{◌≡◌, refl, ap, ap₂, ◌∙◌, sym}
use mathlib.Core.Logic.{⊎_elim}
use mathlib.Core.Bool.{Bool, true, false, cond}
use mathlib.Core.List.{List, [], ◌∷◌, ◌++◌}
use native.Mathlib.Omega.{arith}
use lib.Dec.{eqb}
use lib.ListN.{length, get_or}
use borrow.Author.Tests.{eqb-true, eq-eqb}
use Rattle.base_bounds.specs.Bounds.{QUEUES}
use Rattle.base_lists.specs.Lists.{build, chain, pad}
use Rattle.base_lists.proofs.Build.{order, never, build_length}
use Rattle.base_lists.proofs.Tests.{both, both_of, false_of}
use Rattle.base_lists.proofs.Pad.{pad_build}
use Rattle.sheet.specs.declared.Sheet.{Sheet}
use Rattle.sheet.specs.Answer.{accepted}
use Rattle.sheet.specs.Sheet.{view_sheet}
use Rattle.sheet.specs.Check.{check_of}
use Rattle.sheet.proofs.Accepted.{ranges_of_accepted}
use Rattle.run_machine.specs.Machine.{is_output}
use Rattle.text_scan.specs.Kept.{counted}
use Rattle.text_scan.proofs.Filled.{counted_small, counted_large}
use Rattle.text_lists.specs.declared.KeptNames.{KeptNames}
use Rattle.text_lists.specs.Names.{kept_of}
use Rattle.text_form.specs.Form.{outputs_of, inputs_of}
use Rattle.text_form.specs.Reading.{same_list}
use Rattle.text_form.proofs.Owned.{same_self, same_is}
use Rattle.text_own.specs.Own.{same_kept}

-- ---- what is kept of a list that has a place for each name tells it from every other

same_count : (n a b : ℕ) → b ≤ n → counted n a ≡ counted n b → a ≡ b
same_count n a b l e =
    let c = counted_small n b l in
    ⊎_elim (λ (h : n < a). absurd (omega (arith, counted_large n a h))) (λ (h : a ≤ n). sym (counted_small n a h) ∙ e ∙ c) (order n a)

same_places : (n : ℕ) (l m : List ℕ) → length l ≡ length m → length m ≤ n → pad n 0 l ≡ pad n 0 m → l ≡ m
same_places n l m e h p =
    sym (pad_build (length m) n 0 l e h) ∙ ap (λ (r : List ℕ). build (length m) (λ (k : ℕ). get_or r k 0)) p ∙ pad_build (length m) n 0 m refl h

same_of_kept : (l m : List ℕ) → length m ≤ QUEUES → same_kept (kept_of l) (kept_of m) ≡ true → l ≡ m
same_of_kept l m h e =
    let p = both (eqb (kept_of l).count (kept_of m).count) (same_list (kept_of l).queues (kept_of m).queues) e in
    same_places QUEUES l m (same_count QUEUES (length l) (length m) h (eqb-true (kept_of l).count (kept_of m).count p.0)) h
    (same_is (kept_of l).queues (kept_of m).queues p.1)

kept_self : (a : KeptNames) → same_kept a a ≡ true
kept_self a = both_of (eqb a.count a.count) (same_list a.queues a.queues) (eq-eqb a.count a.count refl) (same_self a.queues)

pub same_kept_lem : (l m : List ℕ) → length m ≤ QUEUES → same_kept (kept_of l) (kept_of m) ≡ same_list l m
same_kept_lem l m h = by (same_list l m) refl
  where
    by : (b : Bool) → same_list l m ≡ b → same_kept (kept_of l) (kept_of m) ≡ b
    by true e = ap (λ (r : List ℕ). same_kept (kept_of l) (kept_of r)) (sym (same_is l m e)) ∙ kept_self (kept_of l)
    by false e =
        false_of (same_kept (kept_of l) (kept_of m))
        (λ k. never (sym e ∙ ap (λ (r : List ℕ). same_list l r) (sym (same_of_kept l m h k)) ∙ same_self l))

-- ---- the sheet's own lists are short

one_or_none : (b : Bool) (q : ℕ) (l : List ℕ) → length (cond b (q ∷ []) [] ++ l) ≤ suc (length l)
one_or_none true q l = omega arith
one_or_none false q l = omega arith

filtered_short : (f : ℕ → Bool) (l : List ℕ) → length (chain (λ (q : ℕ). cond (f q) (q ∷ []) []) l) ≤ length l
filtered_short f [] = omega arith
filtered_short f (q ∷ l) =
    omega (arith, one_or_none (f q) q (chain (λ (q : ℕ). cond (f q) (q ∷ []) []) l), filtered_short f l)

pub outputs_short : (t : Sheet) → check_of t ≡ accepted → length (outputs_of (view_sheet t)) ≤ QUEUES
outputs_short t h =
    omega (
      arith,
      filtered_short (is_output (view_sheet t)) (build t.queues (λ (q : ℕ). q)),
      build_length t.queues (λ (q : ℕ). q),
      (ranges_of_accepted t h).queues,
    )

pub inputs_short : (t : Sheet) → check_of t ≡ accepted → length (inputs_of (view_sheet t)) ≤ QUEUES
inputs_short t h = omega (arith, build_length t.inputs (λ (q : ℕ). q), (ranges_of_accepted t h).inputs)

-- ---- so the test by what is kept is the test of the lists

tested : (l m : List ℕ) (a b : KeptNames) (r : Bool) → length m ≤ QUEUES → a ≡ kept_of l → b ≡ kept_of m → r ≡ same_kept a b → r ≡ same_list l m
tested l m a b r h e d k = k ∙ ap₂ same_kept e d ∙ same_kept_lem l m h

pub own_outputs : (t : Sheet) → check_of t ≡ accepted → (l : List ℕ) (a b : KeptNames) (r : Bool) →
    a ≡ kept_of l → b ≡ kept_of (outputs_of (view_sheet t)) → r ≡ same_kept a b → r ≡ same_list l (outputs_of (view_sheet t))
own_outputs t h l a b r = tested l (outputs_of (view_sheet t)) a b r (outputs_short t h)

pub own_inputs : (t : Sheet) → check_of t ≡ accepted → (l : List ℕ) (a b : KeptNames) (r : Bool) →
    a ≡ kept_of l → b ≡ kept_of (build t.inputs (λ (q : ℕ). q)) → r ≡ same_kept a b → r ≡ same_list l (inputs_of (view_sheet t))
own_inputs t h l a b r = tested l (inputs_of (view_sheet t)) a b r (inputs_short t h)
