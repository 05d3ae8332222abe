-- What an operator that the judge keeps has passed, and that its queues and variables then have flags.
-- Assumes nothing.
use mathlib.Core.Path.{◌≡◌, refl, ◌∙◌}
use mathlib.Core.Bool.{Bool, true, false, cond, ◌&&◌}
use mathlib.Core.List.{[], ◌∷◌}
use Prim.Native.Nat.{ℕ, ◌≤◌}
use native.Mathlib.Omega.{arith}
use lib.Dec.{eqb, ltb}
use Rattle.base_lists.specs.Lists.{all}
use Rattle.base_lists.proofs.Tests.{both, both_of, all_implies, all_chain}
use Rattle.base_lists.proofs.Members.{all_below}
use Rattle.sheet_step.specs.Step.{NO_VARIABLE, row_of, known_func, step_names, step_variable}
use Rattle.sheet_step.specs.declared.Func.{Func}
use Rattle.sheet_step.specs.declared.Func.TheVariants.{None, Keep, Add, Copy, Count, Stamp}
use Rattle.sheet_step.specs.declared.Step.{Step}
use Rattle.sheet_operator.specs.declared.Operator.{Operator}
use Rattle.sheet_operator.specs.Op.{Op, line, latest, double, deal, gather, reads, defines, names}
use Rattle.sheet_operator.specs.Memory.{view}
use Rattle.sheet_judge.specs.Judge.{Known, four, five, variables_good, six, seven, judge_by}
use Rattle.sheet_sets.specs.Sets.{FLAGS}
use Rattle.sheet_judge.specs.Seen.{Flagged}

-- 0 only past every test
all_passed : (a b c d : Bool) → ◌≡◌ {A = ℕ} (cond a (cond b (cond c (cond d 0 7) 6) 5) 4) 0 → (a ≡ true) × (b ≡ true) × (c ≡ true) × (d ≡ true)
all_passed true true true true e = (refl, refl, refl, refl)
all_passed true true true false e = absurd (omega arith)
all_passed true true false d e = absurd (omega arith)
all_passed true false c d e = absurd (omega arith)
all_passed false b c d e = absurd (omega arith)

module _ (Q vs : ℕ) (k : Known) (o : Op) (e : judge_by Q vs k o ≡ 0) where
  passed : (four Q k o ≡ true) × (five k o ≡ true) × (six vs k o ≡ true) × (seven o ≡ true)
  unfolding judge_by
  passed = all_passed (four Q k o) (five k o) (six vs k o) (seven o) e

  pub judged_four : four Q k o ≡ true
  judged_four = passed.0

  pub judged_five : five k o ≡ true
  judged_five = passed.1

  pub judged_six : six vs k o ≡ true
  judged_six = passed.2

  pub judged_seven : seven o ≡ true
  judged_seven = passed.3

-- a step that takes a variable has a known function, so its variable was looked at
named_by : (f : Func) (v vs : ℕ) → cond (known_func f) (cond (row_of f).variable (ltb v vs) (eqb v NO_VARIABLE)) true ≡ true →
    all (λ (x : ℕ). ltb x vs) (cond (row_of f).variable (v ∷ []) []) ≡ true
named_by None v vs h = refl
named_by Keep v vs h = refl
named_by Add v vs h = refl
named_by Copy v vs h = refl
named_by Count v vs h = both_of (ltb v vs) true h refl
named_by Stamp v vs h = both_of (ltb v vs) true h refl

step_named : (vs : ℕ) (t : Step) → step_variable vs t ≡ true → all (λ (x : ℕ). ltb x vs) (step_names t) ≡ true
unfolding step_variable step_names
step_named vs t h = named_by t.func t.variable vs h

variables_named : (vs : ℕ) (o : Op) → variables_good vs o ≡ true → all (λ (x : ℕ). ltb x vs) (names o) ≡ true
variables_named vs (line p q ss) h =
    all_chain (λ (x : ℕ). ltb x vs) step_names ss ∙ all_implies (step_variable vs) (λ (t : Step). all (λ (x : ℕ). ltb x vs) (step_names t)) ss (step_named vs) h
variables_named vs (latest p v f) h = both_of (ltb v vs) true h refl
variables_named vs (double p q r) h = refl
variables_named vs (deal c p qs) h = both_of (ltb c vs) true h refl
variables_named vs (gather c q ps) h = both_of (ltb c vs) true h refl

pub six_names : (vs : ℕ) (k : Known) (o : Op) → six vs k o ≡ true → all (λ (v : ℕ). ltb v vs) (names o) ≡ true
unfolding six
six_names vs k o h = variables_named vs o (both (variables_good vs o) _ h).0

pub four_reads : (Q : ℕ) (k : Known) (o : Op) → four Q k o ≡ true → all (λ (p : ℕ). ltb p Q) (reads o) ≡ true
unfolding four
four_reads Q k o h =
    all_implies (λ (p : ℕ). ltb p Q && k.defined p) (λ (p : ℕ). ltb p Q) (reads o) (λ p g. (both (ltb p Q) (k.defined p) g).0) (both _ _ h).0

pub four_defines : (Q : ℕ) (k : Known) (o : Op) → four Q k o ≡ true → all (λ (q : ℕ). ltb q Q) (defines o) ≡ true
unfolding four
four_defines Q k o h = (both (all (λ (p : ℕ). ltb p Q && k.defined p) (reads o)) _ h).1

pub four_flagged : (Q : ℕ) (k : Known) (o : Operator) → Q ≤ FLAGS → four Q k (view o) ≡ true → Flagged o
four_flagged Q k o l h =
    record {
      ins = all_below Q FLAGS (reads (view o)) l (four_reads Q k (view o) h);
      outs = all_below Q FLAGS (defines (view o)) l (four_defines Q k (view o) h);
    }
