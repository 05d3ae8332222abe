-- Operators one after the other: those that the judge keeps, each after the ones before it.
-- Assumes nothing.
use mathlib.Core.Path.{◌≡◌, refl, ap, ◌∙◌, sym}
use mathlib.Core.Bool.{true}
use mathlib.Core.List.{List, [], ◌∷◌, ◌++◌, append-nil, append_assoc}
use Prim.Native.Nat.{ℕ, zero, suc, ◌<◌}
use native.Mathlib.Omega.{arith}
use lib.ListN.{length, take}
use Rattle.base_lists.proofs.Tests.{both, all_implies}
use Rattle.sheet_step.specs.Step.{known_func, step_places}
use Rattle.sheet_step.specs.declared.Step.{Step}
use Rattle.sheet_operator.specs.Op.{Op, line, latest, double, deal, gather, Abstract, with}
use Rattle.sheet_operator.proofs.ViewLaws.{Small}
use Rattle.sheet_judge.specs.Judge.{known, seven, judge}
use Rattle.sheet_judge.proofs.JudgedLaws.{judged_seven}
use Rattle.sheet_format.proofs.Sizes.{known_op}
use Rattle.sheet.proofs.Placed.{nth}

-- more operators after those kept
abbrev pub with_all : Abstract → List Op → Abstract
with_all a os = record { inputs = a.inputs; queues = a.queues; variables = a.variables; ops = a.ops ++ os }

pub with_none : (a : Abstract) → with_all a [] ≡ a
with_none a =
    ap (λ (os : List Op). record { inputs = a.inputs; queues = a.queues; variables = a.variables; ops = os }) (append-nil a.ops)

pub with_more : (a : Abstract) (o : Op) (os : List Op) → with_all (with a o) os ≡ with_all a (o ∷ os)
with_more a o os =
    ap (λ (l : List Op). record { inputs = a.inputs; queues = a.queues; variables = a.variables; ops = l }) (append_assoc a.ops (o ∷ []) os)

-- each is judged after those before it, and is of a size that a sheet can hold
pub record Follow (a : Abstract) (os : List Op) : Type 0 where
  pub judged : (k : ℕ) → k < length os → judge (with_all a (take k os)) (nth os k) ≡ 0
  pub small : (k : ℕ) → k < length os → Small (nth os k)

pub follow_none : (a : Abstract) → Follow a []
follow_none a = record { judged = λ k l. absurd (omega arith); small = λ k l. absurd (omega arith) }

module _ (a : Abstract) (o : Op) (os : List Op) where
  pub follow_first : Follow a (o ∷ os) → judge a o ≡ 0
  follow_first f = ap (λ (b : Abstract). judge b o) (sym (with_none a)) ∙ f.judged 0 (omega arith)

  pub follow_rest : Follow a (o ∷ os) → Follow (with a o) os
  follow_rest f =
      record {
        judged = λ k l. ap (λ (b : Abstract). judge b (nth os k)) (with_more a o (take k os)) ∙ f.judged (suc k) (omega arith);
        small = λ k l. f.small (suc k) (omega arith);
      }

  pub follow_more : judge a o ≡ 0 → Small o → Follow (with a o) os → Follow a (o ∷ os)
  follow_more j h f = record { judged = each; small = sizes }
    where
      each : (k : ℕ) → k < length (o ∷ os) → judge (with_all a (take k (o ∷ os))) (nth (o ∷ os) k) ≡ 0
      each zero l = ap (λ (b : Abstract). judge b o) (with_none a) ∙ j
      each (suc k) l = ap (λ (b : Abstract). judge b (nth os k)) (sym (with_more a o (take k os))) ∙ f.judged k (omega arith)

      sizes : (k : ℕ) → k < length (o ∷ os) → Small (nth (o ∷ os) k)
      sizes zero l = h
      sizes (suc k) l = f.small k (omega arith)

-- an operator that the judge keeps has steps of known functions only
places_known : (t : Step) → step_places t ≡ true → known_func t.func ≡ true
unfolding step_places
places_known t h = (both (known_func t.func) _ h).0

seven_known : (o : Op) → seven o ≡ true → known_op o ≡ true
unfolding seven
seven_known (line p q ss) h = all_implies step_places (λ (t : Step). known_func t.func) ss places_known h
seven_known (latest p v f) h = refl
seven_known (double p q r) h = refl
seven_known (deal c p qs) h = refl
seven_known (gather c q ps) h = refl

pub judged_known : (a : Abstract) (o : Op) → judge a o ≡ 0 → known_op o ≡ true
judged_known a o h = seven_known o (judged_seven a.queues a.variables (known a) o h)
