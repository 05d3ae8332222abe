-- Demand 3 whole: none or many rewritings of a calm sheet.
-- Assumes nothing.
use mathlib.Core.Path.{◌≡◌, ◌∙◌}
use mathlib.Core.Bool.{true}
use mathlib.Core.List.{List, [], ◌∷◌, ◌++◌}
use Prim.Native.Nat.{ℕ, suc, pred, ◌+◌, ◌≤◌, ◌<◌}
use native.Mathlib.Omega.{arith}
use lib.Dec.{eqb}
use lib.IntN.{ℤ}
use borrow.Author.Tests.{ne_eqb}
use Rattle.base_lists.specs.Lists.{bit}
use Rattle.order_theory.proofs.Runs.{Rest, exec, fired, exec_run}
use Rattle.order_theory.proofs.Model.{State}
use Rattle.order_theory.proofs.Steps.{Item, Step}
use Rattle.order_theory.proofs.Equations.{Kind, line, Whole, nought, pure, total, Freed, commute}
use Rattle.order_theory.proofs.Rewrites.{read_by, harvest}
use Rattle.order_theory.proofs.Accept.{tot, holds_n, Acc, accepted}
use Rattle.order_theory.proofs.Demand.{Refines, refines_none, refines_more, Counted, rests, demand_three}
use Rattle.order_theory.proofs.Sheets.{sheet_of, find}
use Rattle.order_theory.proofs.Denote.{takes_from}
use Rattle.order_theory.proofs.Kahn.{sum, weight}
use Rattle.order_theory.proofs.Orders.{fires}
use Rattle.order_theory.proofs.FuseAcc.{new, fuse_ok, fuse_acc, held_new}
use Rattle.order_theory.proofs.MoreAcc.{turned, reorder_ok, reorder_acc, held_same, split, split_ok, split_acc, held_more}

-- a sheet: inputs, queues, variables and operators; and one made from another
pub data Made (I : ℕ) : ℕ → ℕ → List Kind → ℕ → ℕ → List Kind → Type 0 where
  as_is : {Q V' : ℕ} {ops : List Kind} → Made I Q V' ops Q V' ops
  fused : {Q V' Q₂ V₂ : ℕ} {ops : List Kind} (p m o : ℕ) (a b : List Step) (pre mid post : List Kind)
      → Made I Q V' ops Q₂ V₂ (pre ++ (line p m a ∷ (mid ++ (line m o b ∷ post))))
      → Made I Q V' ops (pred Q₂) V₂ (new I Q₂ p m o a b pre mid post)
  reordered : {Q V' Q₂ V₂ : ℕ} {ops : List Kind} (p m o : ℕ) (a b : List Step) (pre mid post : List Kind) → pure a ≡ true
      → pure b ≡ true → Freed a b
      → Made I Q V' ops Q₂ V₂ (pre ++ (line p m a ∷ (mid ++ (line m o b ∷ post))))
      → Made I Q V' ops Q₂ V₂ (pre ++ (line p m b ∷ (mid ++ (line m o a ∷ post))))
  splitted : {Q V' Q₂ V₂ : ℕ} {ops : List Kind} (p o k : ℕ) (ss : List Step) (pre post : List Kind) → 0 < k → total ss ≡ true
      → Made I Q V' ops Q₂ V₂ (pre ++ (line p o ss ∷ post))
      → Made I Q V' ops (Q₂ + (k + k)) (suc (suc V₂)) (split I Q₂ V₂ p o k ss pre post)

pub record Calm (I Q V' : ℕ) (ops : List Kind) : Type 0 where
  pub acc : Acc I Q ops
  pub vars : (i : ℕ) → V' ≤ i → tot (holds_n i) ops ≡ 0

pub record Result (I Q V' : ℕ) (ops : List Kind) (Q₂ V₂ : ℕ) (ops₂ : List Kind) : Type 0 where
  pub calm : Calm I Q₂ V₂ ops₂
  pub more : V' ≤ V₂
  pub refines : Refines I Q V' ops Q₂ ops₂

pub made : {I Q V' Q₂ V₂ : ℕ} {ops ops₂ : List Kind} → Made I Q V' ops Q₂ V₂ ops₂ → Calm I Q V' ops → Result I Q V' ops Q₂ V₂ ops₂
made {I} (as_is {Q} {V'} {ops}) c = record { calm = c; more = omega arith; refines = refines_none I Q V' ops }
made {I} (fused {Q} {V'} {Q₂} {V₂} {ops} p m o a b pre mid post x) c =
    let r = made x c in
    let q = r.calm.acc in
    record {
      calm = record {
        acc = fuse_acc I Q₂ p m o a b pre mid post q;
        vars = λ i h. omega (arith, held_new I Q₂ p m o a b pre mid post q i, r.calm.vars i h);
      };
      more = r.more;
      refines =
          refines_more I Q V' Q₂ V₂ (pred Q₂) ops (pre ++ (line p m a ∷ (mid ++ (line m o b ∷ post))))
          (new I Q₂ p m o a b pre mid post) r.more r.refines (fuse_ok I Q₂ p m o a b pre mid post q V₂);
    }
made {I} (reordered {Q} {V'} {Q₂} {V₂} {ops} p m o a b pre mid post pa pb f x) c =
    let r = made x c in
    let q = r.calm.acc in
    record {
      calm = record {
        acc = reorder_acc I Q₂ p m o a b pre mid post q;
        vars = λ i h. held_same I Q₂ p m o a b pre mid post q i ∙ r.calm.vars i h;
      };
      more = r.more;
      refines =
          refines_more I Q V' Q₂ V₂ Q₂ ops (pre ++ (line p m a ∷ (mid ++ (line m o b ∷ post)))) (turned I Q₂ p m o a b pre mid post q)
          r.more r.refines
          (reorder_ok I Q₂ p m o a b pre mid post q V₂ pa pb (commute a b f));
    }
made {I} (splitted {Q} {V'} {Q₂} {V₂} {ops} p o k ss pre post hk t x) c =
    let r = made x c in
    let q = r.calm.acc in
    let hv = r.calm.vars in
    record {
      calm = record {
        acc = split_acc I Q₂ V₂ p o k ss pre post q hk t hv;
        vars = λ i h.
            let e : bit (eqb i V₂) + bit (eqb i (suc V₂)) ≡ 0 = rw (ne_eqb i V₂ (λ e. omega arith), ne_eqb i (suc V₂) (λ e. omega arith)) in
            omega (arith, held_more I Q₂ V₂ p o k ss pre post q hk t hv i, hv i (omega arith));
      };
      more = omega (arith, r.more);
      refines =
          refines_more I Q V' Q₂ V₂ (Q₂ + (k + k)) ops (pre ++ (line p o ss ∷ post)) (split I Q₂ V₂ p o k ss pre post) r.more
          r.refines (split_ok I Q₂ V₂ p o k ss pre post q hk t hv);
    }

-- the items of the outputs by number, and the first variables
abbrev pub outputs : ℕ → List Kind → State Item ℤ → List (List Item)
outputs Q ops s = harvest (read_by ops) s.queue Q 0

abbrev pub begin : Whole → State Item ℤ
begin feed = record { queue = feed; var = nought }

pub model_agrees : {I Q V' Q₂ V₂ : ℕ} {ops ops₂ : List Kind} → Calm I Q V' ops → Made I Q V' ops Q₂ V₂ ops₂
    → (feed : Whole) → ((q : ℕ) → I ≤ q → feed q ≡ []) → (W W₂ : ℕ → ℕ) → Counted ops feed W → Counted ops₂ feed W₂
    → (is js : List ℕ) → Rest (fires ops) (exec (fires ops) is (begin feed)) → Rest (fires ops₂) (exec (fires ops₂) js (begin feed))
    → (outputs Q₂ ops₂ (exec (fires ops₂) js (begin feed)) ≡ outputs Q ops (exec (fires ops) is (begin feed)))
    × ((k : ℕ) → k < V' → (exec (fires ops₂) js (begin feed)).var k ≡ (exec (fires ops) is (begin feed)).var k)
unfolding sheet_of
model_agrees {I} {Q} {V'} {Q₂} {V₂} {ops} {ops₂} c x feed z W W₂ w w₂ is js r r₂ =
    let m = made x c in
    demand_three I Q V' Q₂ ops ops₂ (accepted I Q ops c.acc) (accepted I Q₂ ops₂ m.calm.acc) m.refines feed z W W₂ w w₂
    (exec (fires ops) is (begin feed)) (exec (fires ops₂) js (begin feed)) (exec_run (fires ops) is (begin feed)) r
    (exec_run (fires ops₂) js (begin feed)) r₂

-- how often anything fires, from the fed, fresh state, is bounded by the worst counts
pub firings_le : {I Q V' : ℕ} {ops : List Kind} → Calm I Q V' ops → (feed : Whole) → ((q : ℕ) → I ≤ q → feed q ≡ []) → (W : ℕ → ℕ)
    → Counted ops feed W
    → (is : List ℕ) → Rest (fires ops) (exec (fires ops) is (begin feed))
    → fired (fires ops) is (begin feed) ≤ sum Q (λ p. weight (find (λ κ. takes_from κ p) ops) (W p))
unfolding sheet_of
firings_le {I} {Q} {V'} {ops} c feed z W w is r =
    (rests I Q ops (accepted I Q ops c.acc) feed W w z (exec (fires ops) is (begin feed)) (exec_run (fires ops) is (begin feed)) r).fired
