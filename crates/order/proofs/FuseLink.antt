-- Fuse: the fused sheet is good again, and made as the theory makes it.
-- Assumes nothing.
use mathlib.Core.Path.{◌≡◌, refl, ap, ap₂, sym, ◌∙◌, subst, subst₂}
use mathlib.Core.List.{List, [], ◌∷◌, ◌++◌, map, map-append}
use Prim.Native.Nat.{ℕ, pred, ◌+◌, ◌-◌, ◌≤◌}
use native.Mathlib.Omega.{arith}
use lib.ListN.{length, set, take, drop, length-append, length-map}
use Rattle.base_lists.specs.Lists.{all}
use Rattle.base_lists.proofs.Tests.{both_of, all_append}
use Rattle.sheet_step.specs.Step.{step_variable, step_places}
use Rattle.sheet_step.specs.declared.Step.{Step}
use Rattle.sheet_operator.specs.Op.{Op, line, latest, double, deal, gather, Abstract}
use Rattle.sheet_operator.specs.Memory.{PLACES}
use Rattle.sheet_judge.specs.Judge.{seven}
use Rattle.rewrite_rules.specs.Rewrite.{in_of, out_of, steps_of, at, next_of, fallen, lowered, fused}
use Rattle.order_theory.proofs.Equations.{Kind, ren}
use Rattle.order_theory.proofs.Rewrites.{All, none_left, also, all_join, down}
use Rattle.order_theory.proofs.Final.{Made, as_is, made}
use Rattle.order.proofs.Model.{TStep, step_as, kind_as}
use Rattle.order.proofs.GoodSheets.{GoodOp, GoodSheet, Next, over}
use Rattle.order.proofs.TwoLines.{TwoLines, set_drop}
use Rattle.order.proofs.LinePair.{pair, pair_made, good_pre, good_first, good_mid, good_second, good_post}

-- a queue is lowered as the theory lowers it
lowered_down : (m : ℕ) (o : Op) → kind_as (lowered m o) ≡ ren (down m) (kind_as o)
unfolding ren
lowered_down m (line p q ss) = refl
lowered_down m (latest p v f) = refl
lowered_down m (double p q r) = refl
lowered_down m (deal c p qs) = refl
lowered_down m (gather c q ps) = refl

all_lowered : (m : ℕ) (os : List Op) → map kind_as (map (lowered m) os) ≡ map (ren (down m)) (map kind_as os)
all_lowered m [] = refl
all_lowered m (o ∷ os) = ap₂ (λ (x : Kind) (l : List Kind). x ∷ l) (lowered_down m o) (all_lowered m os)

-- and an operator's places stay good
good_lowered : (n m : ℕ) (o : Op) → GoodOp n o → GoodOp n (lowered m o)
unfolding seven
good_lowered n m (line p q ss) g = record { small = g.small; six = g.six; seven = g.seven }
good_lowered n m (latest p v f) g = record { small = g.small; six = g.six; seven = g.seven }
good_lowered n m (double p q r) g = record { small = g.small; six = g.six; seven = g.seven }
good_lowered n m (deal c p qs) g = record { small = rw (length-map qs (fallen m)) g.small; six = g.six; seven = g.seven }
good_lowered n m (gather c q ps) g = record { small = rw (length-map ps (fallen m)) g.small; six = g.six; seven = g.seven }

all_good_lowered : (n m : ℕ) {os : List Op} → All (GoodOp n) os → All (GoodOp n) (map (lowered m) os)
all_good_lowered n m none_left = none_left
all_good_lowered n m (also {x = o} g a) = also {x = lowered m o} (good_lowered n m o g) (all_good_lowered n m a)

module _ (a : Abstract) (p m o : ℕ) (ss ts : List Step) (pre mid post : List Op) where
  -- one line for the two, before queues are lowered
  abbrev bare : List Op
  bare = pre ++ (line p o (ss ++ ts) ∷ (mid ++ post))

  abbrev fused_sheet : Abstract
  fused_sheet = record { inputs = a.inputs; queues = a.queues - 1; variables = a.variables; ops = map (lowered m) bare }

  abbrev bare_kinds : List Kind
  bare_kinds =
      Rattle.order_theory.proofs.FuseAcc.bare a.inputs a.queues p m o (map step_as ss) (map step_as ts) (map kind_as pre) (map kind_as mid) (map kind_as post)

  bare_kinds_lem : bare_kinds ≡ map kind_as bare
  bare_kinds_lem =
      ap₂ (λ (l : List TStep) (r : List Kind). map kind_as pre ++ (Rattle.order_theory.proofs.Equations.line p o l ∷ r)) (sym (map-append step_as ss ts))
      (sym (map-append kind_as mid post))
      ∙ sym (map-append kind_as pre (line p o (ss ++ ts) ∷ (mid ++ post)))

  fused_length : length (map (lowered m) bare) ≤ length (pair a p m o ss ts pre mid post)
  fused_length =
      let n = length-map bare (lowered m) in
      let e = length-append pre (line p o (ss ++ ts) ∷ (mid ++ post)) in
      let f = length-append pre (line p m ss ∷ (mid ++ (line m o ts ∷ post))) in
      let c = length-append mid post in
      let d = length-append mid (line m o ts ∷ post) in
      omega arith

  module _ (g : GoodSheet (over a (pair a p m o ss ts pre mid post))) where
    new_kinds : map (ren (down m)) bare_kinds ≡ map kind_as (map (lowered m) bare)
    new_kinds = ap (map (ren (down m))) bare_kinds_lem ∙ sym (all_lowered m bare)

    fused_made : {I Q v : ℕ} {ops : List Kind} → Made I Q v ops a.queues a.variables (map kind_as (pair a p m o ss ts pre mid post)) →
        Made I Q v ops (a.queues - 1) a.variables (map kind_as (map (lowered m) bare))
    fused_made {I} {Q} {v} {ops} x =
        let q : pred a.queues ≡ a.queues - 1 = omega arith in
        subst₂ (λ (n : ℕ) (l : List Kind). Made I Q v ops n a.variables l) q new_kinds
        (Rattle.order_theory.proofs.Final.fused p m o (map step_as ss) (map step_as ts) (map kind_as pre) (map kind_as mid) (map kind_as post)
        (pair_made a p m o ss ts pre mid post x))

    module _ (room : length ss + length ts ≤ PLACES) where
      good_both : GoodOp a.variables (line p o (ss ++ ts))
      unfolding seven
      good_both =
          let x = good_first a p m o ss ts pre mid post g in
          let y = good_second a p m o ss ts pre mid post g in
          let n = length-append ss ts in
          record {
            small = (omega (arith, x.small.0), omega arith);
            six = all_append (step_variable a.variables) ss ts ∙ both_of (all (step_variable a.variables) ss) _ x.six y.six;
            seven = all_append step_places ss ts ∙ both_of (all step_places ss) (all step_places ts) x.seven y.seven;
          }

      fused_each : All (GoodOp a.variables) (map (lowered m) bare)
      fused_each =
          all_good_lowered a.variables m
          (all_join (good_pre a p m o ss ts pre mid post g)
          (also {x = line p o (ss ++ ts)} good_both (all_join (good_mid a p m o ss ts pre mid post g) (good_post a p m o ss ts pre mid post g))))

      fused_good : GoodSheet fused_sheet
      fused_good =
          let c = (made (fused_made as_is) g.calm).calm in
          record {
            head =
                record {
                  some = g.head.some;
                  inputs = g.head.inputs;
                  within = c.acc.fit;
                  queues = omega (arith, g.head.queues);
                  variables = g.head.variables;
                  count = omega (arith, fused_length, g.head.count);
                };
            calm = c;
            each = fused_each;
          }

      fused_next : Next (over a (pair a p m o ss ts pre mid post)) fused_sheet
      fused_next = record { good = fused_good; inputs = refl; made = λ x. fused_made x }

-- on a sheet
pub fuse_next : (a : Abstract) (i : ℕ) → GoodSheet a → TwoLines a i (next_of a i) →
    length (steps_of (at a i)) + length (steps_of (at a (next_of a i))) ≤ PLACES → Next a (fused a i (next_of a i))
fuse_next a i g t h =
    let j = next_of a i in
    let ss = steps_of (at a i) in
    let ts = steps_of (at a j) in
    let p = in_of (at a i) in
    let m = out_of (at a i) in
    let o = out_of (at a j) in
    let os = set a.ops i (line p o (ss ++ ts)) in
    let now : bare a p m o ss ts t.pre t.mid t.post ≡ take j os ++ drop (j + 1) os =
    sym (set_drop a.ops t.pre t.mid t.post i j (line p m ss) (line m o ts) t.cut t.first t.second (line p o (ss ++ ts))) in
    let good = subst (λ (os : List Op). GoodSheet (over a os)) t.cut g in
    subst
    (λ (os : List Op). Next a (record { inputs = a.inputs; queues = a.queues - 1; variables = a.variables; ops = map (lowered m) os })) now
    (subst (λ (os : List Op). Next (over a os) (fused_sheet a p m o ss ts t.pre t.mid t.post)) (sym t.cut)
    (fused_next a p m o ss ts t.pre t.mid t.post good h))
