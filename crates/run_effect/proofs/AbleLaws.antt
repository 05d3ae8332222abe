-- An operator that passes the rules of the sheet is one that can fire: `Able` from its number 0, its variables and its fields.
-- Assumes nothing.
use mathlib.Core.Path.{◌≡◌, refl, sym, ap, ◌∙◌}
use mathlib.Core.Bool.{Bool, true, false, cond}
use mathlib.Core.List.{List, [], ◌∷◌}
use Prim.Native.Nat.{ℕ, ◌<◌}
use native.Mathlib.Omega.{arith}
use lib.Dec.{eqb, ltb}
use lib.ListN.{get_or}
use borrow.Author.Tests.{ltb-true, eqb-true}
use Rattle.base_lists.specs.Lists.{all, chain}
use Rattle.base_lists.proofs.Build.{never, never'}
use Rattle.base_lists.proofs.Tests.{both, all_build, all_chain}
use Rattle.sheet_step.specs.Step.{no_step, code_of, known_func, row_of, step_names, field_place, step_places, blank}
use Rattle.base_bounds.specs.Bounds.{FIELDS, VARIABLES}
use Rattle.sheet_step.specs.declared.Func.{Func}
use Rattle.sheet_step.specs.declared.Step.{Step}
use Rattle.sheet_step.proofs.Blank.{code_zero}
use Rattle.sheet_operator.specs.declared.Kind.{Kind}
use Rattle.sheet_operator.specs.declared.Kind.TheVariants.{Empty, Line, Latest, Double, Deal, Gather}
use Rattle.sheet_operator.specs.declared.Operator.{Operator}
use Rattle.sheet_operator.specs.Op.{Op, line, latest, double, deal, gather, names}
use Rattle.sheet_operator.specs.Memory.{shape_of, is_empty, memory_number, steps_in, view_as, view}
use Rattle.sheet_operator.proofs.ViewLaws.{Tidy, tidy_of_number, tidy_parts, ready_of_number}
use Rattle.run_effect.specs.Able.{StepAble, Able}

-- the places of the steps and the field are good, as rule 7 of a sheet has it
abbrev pub sound : Op → Bool
sound (line p q ss) = all step_places ss
sound (latest p v f) = ltb f FIELDS
sound (double p q r) = true
sound (deal c p qs) = true
sound (gather c q ps) = true

-- its variables exist
abbrev pub below : List ℕ → Bool
below l = all (λ (v : ℕ). ltb v VARIABLES) l

place_below : (taken : Bool) (f : ℕ) → field_place taken f ≡ true → f < FIELDS
unfolding field_place
place_below true f h = ltb-true f FIELDS h
place_below false f h = omega (arith, eqb-true f 0 h)

variable_below : (b : Bool) (v : ℕ) → below (cond b (v ∷ []) []) ≡ true → b ≡ true → v < VARIABLES
variable_below true v h e = ltb-true v VARIABLES (both (ltb v VARIABLES) true h).0
variable_below false v h e = never e

pub step_able : (s : Step) → step_places s ≡ true → below (step_names s) ≡ true → StepAble s
unfolding step_places step_names
step_able s h n =
    let t1 = both (known_func s.func) _ h in
    let t2 = both (ltb s.p FIELDS) _ t1.1 in
    let t3 = both (field_place (row_of s.func).r s.r) _ t2.1 in
    record {
      p = ltb-true s.p FIELDS t2.0;
      r = place_below (row_of s.func).r s.r t3.0;
      variable = variable_below (row_of s.func).variable s.variable n;
    }

-- a step in a place that is not used does nothing
pub blank_able : (s : Step) → blank s ≡ true → StepAble s
unfolding blank
blank_able s h =
    let t1 = both (eqb (code_of s.func) 0) _ h in
    let t2 = both (eqb s.variable 0) _ t1.1 in
    let t3 = both (eqb s.p 0) _ t2.1 in
    let t4 = both (eqb s.r 0) _ t3.1 in
    record {
      p = omega (arith, eqb-true s.p 0 t3.0);
      r = omega (arith, eqb-true s.r 0 t4.0);
      variable = λ e. never (sym (ap (λ (f : Func). (row_of f).variable) (code_zero s.func t1.0)) ∙ e);
    }

record Ranges (o : Operator) : Type 0 where
  variable : o.variable < VARIABLES
  field : o.field < FIELDS
  steps : (k : ℕ) → k < o.count → StepAble (get_or o.steps k no_step)

-- the steps that a line counts
line_steps : (n : ℕ) (l : List Step) → all step_places (steps_in n l) ≡ true → below (chain step_names (steps_in n l)) ≡ true →
    (k : ℕ) → k < n → StepAble (get_or l k no_step)
line_steps n l h b k i =
    let f : ℕ → Step = λ (j : ℕ). get_or l j no_step in
    let c = sym (all_chain (λ (v : ℕ). ltb v VARIABLES) step_names (steps_in n l)) ∙ b in
    step_able (f k) (all_build step_places n f h k i) (all_build (λ (s : Step). below (step_names s)) n f c k i)

ranges_as : (k : Kind) (o : Operator) → is_empty k ≡ false → Tidy (shape_of k o.count) o → below (names (view_as k o)) ≡ true →
    sound (view_as k o) ≡ true → Ranges o
ranges_as Empty o e t b h = never' e
ranges_as Line o e t b h =
    record { variable = omega (arith, t.variable refl); field = omega (arith, t.field refl); steps = line_steps o.count o.steps h b }
ranges_as Latest o e t b h =
    record {
      variable = ltb-true o.variable VARIABLES (both _ _ b).0;
      field = ltb-true o.field FIELDS h;
      steps = λ k i. absurd (omega (arith, t.most));
    }
ranges_as Double o e t b h =
    record { variable = omega (arith, t.variable refl); field = omega (arith, t.field refl); steps = λ k i. absurd (omega (arith, t.most)) }
ranges_as Deal o e t b h =
    record {
      variable = ltb-true o.variable VARIABLES (both _ _ b).0;
      field = omega (arith, t.field refl);
      steps = λ k i. blank_able (get_or o.steps k no_step) (t.steps k (omega arith) (omega (arith, t.most)));
    }
ranges_as Gather o e t b h =
    record {
      variable = ltb-true o.variable VARIABLES (both _ _ b).0;
      field = omega (arith, t.field refl);
      steps = λ k i. blank_able (get_or o.steps k no_step) (t.steps k (omega arith) (omega (arith, t.most)));
    }

pub able_of : (o : Operator) → memory_number o ≡ 0 → below (names (view o)) ≡ true → sound (view o) ≡ true → Able o
able_of o h b s =
    let t = tidy_of_number o h in
    let r = ranges_as o.kind o t.1 (tidy_parts (shape_of o.kind o.count) o t.0) b s in
    record { ready = ready_of_number o h; variable = r.variable; field = r.field; steps = r.steps }
