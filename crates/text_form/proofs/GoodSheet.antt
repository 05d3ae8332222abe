-- An accepted sheet that the program holds has a text: its numbers are in the grammar's ranges, and unused places are as the grammar has them.
-- Assumes nothing.
use mathlib.Core.Path.{◌≡◌, refl, ◌∙◌}
use mathlib.Core.Bool.{Bool, true, false, cond}
use mathlib.Core.List.{List, [], ◌∷◌}
use Prim.Native.Nat.{ℕ, zero, suc, ◌<◌, ◌≤◌}
use native.Mathlib.Omega.{arith}
use lib.Dec.{eqb, ltb, leb}
use lib.IntN.{ℤ}
use lib.ListN.{length}
use borrow.Author.Tests.{ltb-true, eqb-true, le-leb}
use Rattle.base_number.proofs.Zero.{zero_of_test}
use Rattle.base_lists.specs.Lists.{build, all}
use Rattle.base_lists.proofs.Build.{never}
use Rattle.base_lists.proofs.Tests.{both, both_of, all_implies, all_chain, all_build_of}
use Rattle.base_bounds.specs.Bounds.{FIELDS}
use Rattle.sheet_step.specs.declared.Func.{Func}
use Rattle.sheet_step.specs.declared.Func.TheVariants.{None, Keep, Add, Copy, Count, Stamp}
use Rattle.sheet_step.specs.declared.Step.{Step}
use Rattle.sheet_step.specs.Step.{NO_VARIABLE, row_of, known_func, step_variable, unused_z, field_place, step_places}
use Rattle.sheet_operator.specs.Op.{Op, line, latest, double, deal, gather, Abstract, reads, defines}
use Rattle.sheet_operator.specs.Memory.{view}
use Rattle.sheet_operator.proofs.ViewLaws.{Small, small_view}
use Rattle.sheet_judge.specs.Judge.{Known, known, six, seven, variables_good}
use Rattle.sheet_judge.proofs.JudgedLaws.{judged_four, judged_six, judged_seven, four_reads, four_defines}
use Rattle.sheet_format.proofs.Sizes.{FitsStep, FitsSteps, FitsOp}
use Rattle.sheet_format.proofs.Read.{fits_as}
use Rattle.sheet.specs.declared.Sheet.{Sheet}
use Rattle.sheet.specs.Answer.{accepted}
use Rattle.sheet.specs.Sheet.{op_at, view_to, view_sheet, HeldSheet}
use Rattle.sheet.specs.Check.{check_of}
use Rattle.sheet.proofs.Placed.{nth}
use Rattle.sheet.proofs.Accepted.{accepted_facts, ranges_of_accepted}
use Rattle.run_machine.specs.Machine.{is_output}
use Rattle.text_grammar.specs.Tokens.{step_with, Wide, GoodStep, good_keep, good_add, good_copy, good_count, good_stamp, GoodSteps, no_steps, one_step, queues, GoodOp, good_line, good_latest, good_double, good_deal, good_gather, GoodOps, no_ops, one_op, GoodTree}
use Rattle.text_form.specs.Form.{outputs_of, inputs_of, tree_of}

-- ---- a step that passes 6 and 7

-- what 7 says of a step's places
record Places (f : Func) (p r : ℕ) (low high : ℤ) : Type 0 where
  known : known_func f ≡ true
  p_field : p < FIELDS
  r_field : field_place (row_of f).r r ≡ true
  low_used : unused_z (row_of f).low low ≡ true
  high_used : unused_z (row_of f).high high ≡ true

places_of : (t : Step) → step_places t ≡ true → Places t.func t.p t.r t.low t.high
unfolding step_places
places_of t h =
    let a = both (known_func t.func) _ h in
    let b = both (ltb t.p FIELDS) _ a.1 in
    let c = both (field_place (row_of t.func).r t.r) _ b.1 in
    let d = both (unused_z (row_of t.func).low t.low) _ c.1 in
    record { known = a.0; p_field = ltb-true t.p FIELDS b.0; r_field = c.0; low_used = d.0; high_used = d.1 }

field_byte : (p : ℕ) → p < FIELDS → p ≤ 255
field_byte p h = omega arith

variable_small : (v vs : ℕ) → ltb v vs ≡ true → vs ≤ 16 → v ≤ 15
variable_small v vs e l = omega (arith, ltb-true v vs e)

good_step_as : (f : Func) (v p r : ℕ) (low high : ℤ) (vs : ℕ) → vs ≤ 16 →
    cond (known_func f) (cond (row_of f).variable (ltb v vs) (eqb v NO_VARIABLE)) true ≡ true → Places f p r low high → Wide low → Wide high →
    GoodStep (step_with f v p r low high)
unfolding unused_z field_place
good_step_as None v p r low high vs l e h wl wh = never h.known
good_step_as Keep v p r low high vs l e h wl wh =
    rw (eqb-true v 255 e, eqb-true r 0 h.r_field) (good_keep (field_byte p h.p_field) wl wh)
good_step_as Add v p r low high vs l e h wl wh =
    rw (eqb-true v 255 e, eqb-true r 0 h.r_field, zero_of_test high h.high_used) (good_add (field_byte p h.p_field) wl)
good_step_as Copy v p r low high vs l e h wl wh =
    rw (eqb-true v 255 e, zero_of_test low h.low_used, zero_of_test high h.high_used)
    (good_copy (field_byte p h.p_field) (field_byte r (ltb-true r FIELDS h.r_field)))
good_step_as Count v p r low high vs l e h wl wh =
    rw (eqb-true r 0 h.r_field, zero_of_test low h.low_used, zero_of_test high h.high_used)
    (good_count (variable_small v vs e l) (field_byte p h.p_field))
good_step_as Stamp v p r low high vs l e h wl wh =
    rw (eqb-true r 0 h.r_field, zero_of_test low h.low_used, zero_of_test high h.high_used)
    (good_stamp (variable_small v vs e l) (field_byte p h.p_field))

good_step : (vs : ℕ) (t : Step) → vs ≤ 16 → step_variable vs t ≡ true → step_places t ≡ true → FitsStep t → GoodStep t
unfolding step_variable
good_step vs t l v p f =
    good_step_as t.func t.variable t.p t.r t.low t.high vs l v (places_of t p) f.low.sfits f.high.sfits

good_steps : (vs : ℕ) (ts : List Step) → vs ≤ 16 → all (step_variable vs) ts ≡ true → all step_places ts ≡ true → FitsSteps ts → GoodSteps ts
good_steps vs [] l v p f = no_steps
good_steps vs (t ∷ ts) l v p f =
    let a = both (step_variable vs t) (all (step_variable vs) ts) v in
    let b = both (step_places t) (all step_places ts) p in
    one_step (good_step vs t l a.0 b.0 (f 0)) (good_steps vs ts l a.1 b.1 (λ k. f (suc k)))

-- ---- an operator that the judge keeps

-- its queues are below Q, its variables as 6 has them, its fields as 7 has them
record Judged (Q vs : ℕ) (o : Op) : Type 0 where
  queues_most : Q ≤ 24
  variables_most : vs ≤ 16
  small : Small o
  reads_below : all (λ (q : ℕ). ltb q Q) (reads o) ≡ true
  defines_below : all (λ (q : ℕ). ltb q Q) (defines o) ≡ true
  variables : variables_good vs o ≡ true
  fields : seven o ≡ true
  fits : FitsOp o

first_below : (Q q : ℕ) (qs : List ℕ) → all (λ (k : ℕ). ltb k Q) (q ∷ qs) ≡ true → Q ≤ 24 → q ≤ 23
first_below Q q qs h l = omega (arith, ltb-true q Q (both (ltb q Q) _ h).0)

rest_below : (Q q : ℕ) (qs : List ℕ) → all (λ (k : ℕ). ltb k Q) (q ∷ qs) ≡ true → all (λ (k : ℕ). ltb k Q) qs ≡ true
rest_below Q q qs h = (both (ltb q Q) _ h).1

queues_below : (Q : ℕ) (qs : List ℕ) → all (λ (k : ℕ). ltb k Q) qs ≡ true → Q ≤ 24 → queues qs ≡ true
queues_below Q qs h l = all_implies (λ (k : ℕ). ltb k Q) (λ (k : ℕ). leb k 23) qs (λ k e. le-leb k 23 (omega (arith, ltb-true k Q e))) h

good_op : (Q vs : ℕ) (o : Op) → Judged Q vs o → GoodOp o
unfolding seven
good_op Q vs (line p q []) j = absurd (omega (arith, j.small.0))
good_op Q vs (line p q (t ∷ ts)) j =
    let a = both (step_variable vs t) (all (step_variable vs) ts) j.variables in
    let b = both (step_places t) (all step_places ts) j.fields in
    good_line (first_below Q p [] j.reads_below j.queues_most) (first_below Q q [] j.defines_below j.queues_most)
    (good_step vs t j.variables_most a.0 b.0 (j.fits 0)) (good_steps vs ts j.variables_most a.1 b.1 (λ k. j.fits (suc k)))
    (omega (arith, j.small.1))
good_op Q vs (latest p v f) j =
    good_latest (first_below Q p [] j.reads_below j.queues_most) (variable_small v vs j.variables j.variables_most)
    (field_byte f (ltb-true f FIELDS j.fields))
good_op Q vs (double p q r) j =
    good_double (first_below Q p [] j.reads_below j.queues_most) (first_below Q q (r ∷ []) j.defines_below j.queues_most)
    (first_below Q r [] (rest_below Q q (r ∷ []) j.defines_below) j.queues_most)
good_op Q vs (deal c p []) j = absurd (omega (arith, j.small.0))
good_op Q vs (deal c p (q ∷ [])) j = absurd (omega (arith, j.small.0))
good_op Q vs (deal c p (q ∷ r ∷ qs)) j =
    let d = rest_below Q q (r ∷ qs) j.defines_below in
    good_deal {qs = qs} (variable_small c vs j.variables j.variables_most) (first_below Q p [] j.reads_below j.queues_most)
    (first_below Q q (r ∷ qs) j.defines_below j.queues_most) (first_below Q r qs d j.queues_most)
    (queues_below Q qs (rest_below Q r qs d) j.queues_most) (omega (arith, j.small.1))
good_op Q vs (gather c q []) j = absurd (omega (arith, j.small.0))
good_op Q vs (gather c q (a ∷ [])) j = absurd (omega (arith, j.small.0))
good_op Q vs (gather c q (a ∷ b ∷ ps)) j =
    let d = rest_below Q a (b ∷ ps) j.reads_below in
    good_gather {ps = ps} (variable_small c vs j.variables j.variables_most) (first_below Q q [] j.defines_below j.queues_most)
    (first_below Q a (b ∷ ps) j.reads_below j.queues_most) (first_below Q b ps d j.queues_most)
    (queues_below Q ps (rest_below Q b ps d) j.queues_most) (omega (arith, j.small.1))

good_ops : (n : ℕ) (f : ℕ → Op) → ((k : ℕ) → k < n → GoodOp (f k)) → GoodOps (build n f)
good_ops zero f h = no_ops
good_ops (suc n) f h = one_op (h 0 (omega arith)) (good_ops n (λ (k : ℕ). f (suc k)) (λ k l. h (suc k) (omega arith)))

-- ---- the lists

outputs_good : (a : Abstract) → a.queues ≤ 24 → queues (outputs_of a) ≡ true
outputs_good a l =
    all_chain (λ (q : ℕ). leb q 23) (λ (q : ℕ). cond (is_output a q) (q ∷ []) []) (build a.queues (λ (q : ℕ). q))
    ∙ all_build_of (λ (q : ℕ). all (λ (k : ℕ). leb k 23) (cond (is_output a q) (q ∷ []) [])) a.queues (λ (q : ℕ). q)
    (λ q b. one (is_output a q) q (omega arith))
  where
    one : (b : Bool) (q : ℕ) → q ≤ 23 → all (λ (k : ℕ). leb k 23) (cond b (q ∷ []) []) ≡ true
    one true q l = both_of (leb q 23) true (le-leb q 23 l) refl
    one false q l = refl

inputs_good : (a : Abstract) → a.inputs ≤ 24 → queues (inputs_of a) ≡ true
inputs_good a l = all_build_of (λ (q : ℕ). leb q 23) a.inputs (λ (q : ℕ). q) (λ q b. le-leb q 23 (omega arith))

-- ---- the sheet

module _ (t : Sheet) (held : HeldSheet t) (h : check_of t ≡ accepted) where
  six_variables : (vs : ℕ) (k : Known) (o : Op) → six vs k o ≡ true → variables_good vs o ≡ true
  unfolding six
  six_variables vs k o e = (both (variables_good vs o) _ e).0

  judged_at : (i : ℕ) → i < t.count → Judged t.queues t.variables (view (op_at t i))
  judged_at i l =
      let f = accepted_facts t h in
      let r = ranges_of_accepted t h in
      let o = view (op_at t i) in
      let k = known (view_to t i) in
      let j = f.judged i l in
      record {
        queues_most = r.queues;
        variables_most = r.variables;
        small = small_view (op_at t i) (f.shaped i l);
        reads_below = four_reads t.queues k o (judged_four t.queues t.variables k o j);
        defines_below = four_defines t.queues k o (judged_four t.queues t.variables k o j);
        variables = six_variables t.variables k o (judged_six t.queues t.variables k o j);
        fields = judged_seven t.queues t.variables k o j;
        fits = fits_as (op_at t i).kind (op_at t i) (held.each i (omega (arith, r.count)));
      }

  pub good_tree_of_accepted : GoodTree (tree_of (view_sheet t))
  good_tree_of_accepted =
      let r = ranges_of_accepted t h in
      record {
        outputs = outputs_good (view_sheet t) r.queues;
        inputs = inputs_good (view_sheet t) (omega (arith, r.inputs));
        variables = omega (arith, r.variables);
        ops = good_ops t.count (λ (k : ℕ). view (op_at t k)) (λ i l. good_op t.queues t.variables (view (op_at t i)) (judged_at i l));
      }

-- ---- and the other way: an operator of the grammar is of a size that a sheet can hold

small_of_good : {o : Op} → GoodOp o → Small o
small_of_good (good_line hp hq g gs l) = (omega arith, omega arith)
small_of_good (good_latest a b c) = tt
small_of_good (good_double a b c) = tt
small_of_good (good_deal a b c d e l) = (omega arith, omega arith)
small_of_good (good_gather a b c d e l) = (omega arith, omega arith)

pub small_ops : {os : List Op} → GoodOps os → (k : ℕ) → k < length os → Small (nth os k)
small_ops no_ops k l = absurd (omega arith)
small_ops (one_op g gs) zero l = small_of_good g
small_ops (one_op g gs) (suc k) l = small_ops gs k (omega arith)
