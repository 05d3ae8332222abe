-- Reorder: the exchanged sheet is good again, and made as the theory makes it.
-- Assumes nothing.
use mathlib.Core.Path.{◌≡◌, refl, ap, sym, ◌∙◌, subst}
use mathlib.Core.Bool.{true}
use mathlib.Core.List.{List, ◌∷◌, ◌++◌, map}
use Prim.Native.Nat.{ℕ}
use native.Mathlib.Omega.{arith}
use lib.ListN.{length, set, length-append}
use Rattle.base_lists.specs.Lists.{all}
use Rattle.base_lists.proofs.Tests.{both, all_append}
use Rattle.sheet_step.specs.declared.Step.{Step}
use Rattle.sheet_operator.specs.Op.{Op, line, Abstract}
use Rattle.sheet_judge.specs.Judge.{seven}
use Rattle.rewrite_rules.specs.Rewrite.{in_of, out_of, steps_of, at, next_of, touches_none, leaves, exchanged}
use Rattle.order_theory.proofs.Equations.{Kind}
use Rattle.order_theory.proofs.Rewrites.{All, also, all_join}
use Rattle.order_theory.proofs.Final.{Made, as_is, reordered, made}
use Rattle.order.proofs.Model.{step_as, kind_as}
use Rattle.order.proofs.GoodSheets.{GoodOp, GoodSheet, Next, over, good_line}
use Rattle.order.proofs.TwoLines.{TwoLines, set_both}
use Rattle.order.proofs.LinePair.{pair, pair_kinds, pair_made, good_pre, good_first, good_mid, good_second, good_post}
use Rattle.order.proofs.StepMasks.{pure_steps, freed_steps}

-- what reorder asks of the two step lists
record Commute (ss ts : List Step) : Type 0 where
  first : all touches_none ss ≡ true
  second : all touches_none ts ≡ true
  there : leaves ss ts ≡ true
  back : leaves ts ss ≡ true

module _ (a : Abstract) (p m o : ℕ) (ss ts : List Step) (pre mid post : List Op) where
  -- the two, exchanged
  abbrev turns : List Op
  turns = pair a p m o ts ss pre mid post

  same_length : length turns ≡ length (pair a p m o ss ts pre mid post)
  same_length =
      let e = length-append pre (line p m ts ∷ (mid ++ (line m o ss ∷ post))) in
      let f = length-append pre (line p m ss ∷ (mid ++ (line m o ts ∷ post))) in
      let h = length-append mid (line m o ss ∷ post) in
      let k = length-append mid (line m o ts ∷ post) in
      omega arith

  module _ (g : GoodSheet (over a (pair a p m o ss ts pre mid post))) (c : Commute ss ts) where
    turned_made : {I Q v : ℕ} {ops : List Kind} → Made I Q v ops a.queues a.variables (map kind_as (pair a p m o ss ts pre mid post)) →
        Made I Q v ops a.queues a.variables (map kind_as turns)
    unfolding seven
    turned_made {I} {Q} {v} {ops} x =
        let free =
        freed_steps ss ts (good_first a p m o ss ts pre mid post g).seven (good_second a p m o ss ts pre mid post g).seven c.first c.second
        c.there c.back in
        subst (Made I Q v ops a.queues a.variables) (sym (pair_kinds a p m o ts ss pre mid post))
        (reordered p m o (map step_as ss) (map step_as ts) (map kind_as pre) (map kind_as mid) (map kind_as post) (pure_steps ss c.first)
        (pure_steps ts c.second) free (pair_made a p m o ss ts pre mid post x))

    turned_each : All (GoodOp a.variables) turns
    turned_each =
        all_join (good_pre a p m o ss ts pre mid post g)
        (also {x = line p m ts} (good_line a.variables m o p m ts (good_second a p m o ss ts pre mid post g))
        (all_join (good_mid a p m o ss ts pre mid post g)
        (also {x = line m o ss} (good_line a.variables p m m o ss (good_first a p m o ss ts pre mid post g)) (good_post a p m o ss ts pre mid post g))))

    turned_good : GoodSheet (over a turns)
    turned_good = record { head = rw same_length g.head; calm = (made (turned_made as_is) g.calm).calm; each = turned_each }

    turned_next : Next (over a (pair a p m o ss ts pre mid post)) (over a turns)
    turned_next = record { good = turned_good; inputs = refl; made = λ x. turned_made x }

-- on a sheet
pub reorder_next : (a : Abstract) (i : ℕ) → GoodSheet a → TwoLines a i (next_of a i) →
    all touches_none (steps_of (at a i) ++ steps_of (at a (next_of a i))) ≡ true → leaves (steps_of (at a i)) (steps_of (at a (next_of a i))) ≡ true →
    leaves (steps_of (at a (next_of a i))) (steps_of (at a i)) ≡ true → Next a (exchanged a i (next_of a i))
reorder_next a i g t n h k =
    let j = next_of a i in
    let ss = steps_of (at a i) in
    let ts = steps_of (at a j) in
    let p = in_of (at a i) in
    let m = out_of (at a i) in
    let o = out_of (at a j) in
    let ns = both (all touches_none ss) (all touches_none ts) (sym (all_append touches_none ss ts) ∙ n) in
    let now : pair a p m o ts ss t.pre t.mid t.post ≡ (exchanged a i j).ops =
    sym
    (set_both a.ops t.pre t.mid t.post i j (line p m ss) (line m o ts) t.cut t.first t.second (line p m ts) (line m o ss))
    ∙ ap (λ (q : ℕ). set (set a.ops i (line p m ts)) j (line q o ss)) (sym t.meets) in
    let good = subst (λ (os : List Op). GoodSheet (over a os)) t.cut g in
    subst (λ (os : List Op). Next a (over a os)) now
    (subst (λ (os : List Op). Next (over a os) (over a (pair a p m o ts ss t.pre t.mid t.post))) (sym t.cut)
    (turned_next a p m o ss ts t.pre t.mid t.post good (record { first = ns.0; second = ns.1; there = h; back = k })))
