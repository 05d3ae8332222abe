-- A good sheet with two lines, the second one reading what the first one puts out: what it says of each part of its list of operators.
-- Assumes nothing.
use mathlib.Core.Path.{◌≡◌, ap, ◌∙◌, subst}
use mathlib.Core.List.{List, ◌∷◌, ◌++◌, map, map-append}
use Prim.Native.Nat.{ℕ}
use Rattle.sheet_step.specs.declared.Step.{Step}
use Rattle.sheet_operator.specs.Op.{Op, line, Abstract}
use Rattle.order_theory.proofs.Equations.{Kind}
use Rattle.order_theory.proofs.Rewrites.{All, first, rest, all_left, all_right}
use Rattle.order_theory.proofs.FuseAcc.{old}
use Rattle.order_theory.proofs.Final.{Made}
use Rattle.order.proofs.Model.{step_as, kind_as}
use Rattle.order.proofs.GoodSheets.{GoodOp, GoodSheet, over}

module _ (a : Abstract) (p m o : ℕ) (ss ts : List Step) (pre mid post : List Op) where
  abbrev pub pair : List Op
  pair = pre ++ (line p m ss ∷ (mid ++ (line m o ts ∷ post)))

  -- translated, it is the theory's
  abbrev pub old_kinds : List Kind
  old_kinds = old a.inputs a.queues p m o (map step_as ss) (map step_as ts) (map kind_as pre) (map kind_as mid) (map kind_as post)

  pub pair_kinds : map kind_as pair ≡ old_kinds
  pair_kinds =
      map-append kind_as pre (line p m ss ∷ (mid ++ (line m o ts ∷ post)))
      ∙ ap (λ (r : List Kind). map kind_as pre ++ (kind_as (line p m ss) ∷ r)) (map-append kind_as mid (line m o ts ∷ post))

  pub pair_made : {I Q v : ℕ} {ops : List Kind} → Made I Q v ops a.queues a.variables (map kind_as pair) →
      Made I Q v ops a.queues a.variables old_kinds
  pair_made {I} {Q} {v} {ops} x = subst (Made I Q v ops a.queues a.variables) pair_kinds x

  module _ (g : GoodSheet (over a pair)) where
    pub good_pre : All (GoodOp a.variables) pre
    good_pre = all_left pre (line p m ss ∷ (mid ++ (line m o ts ∷ post))) g.each

    after_pre : All (GoodOp a.variables) (line p m ss ∷ (mid ++ (line m o ts ∷ post)))
    after_pre = all_right pre (line p m ss ∷ (mid ++ (line m o ts ∷ post))) g.each

    pub good_first : GoodOp a.variables (line p m ss)
    good_first = first after_pre

    pub good_mid : All (GoodOp a.variables) mid
    good_mid = all_left mid (line m o ts ∷ post) (rest after_pre)

    after_mid : All (GoodOp a.variables) (line m o ts ∷ post)
    after_mid = all_right mid (line m o ts ∷ post) (rest after_pre)

    pub good_second : GoodOp a.variables (line m o ts)
    good_second = first after_mid

    pub good_post : All (GoodOp a.variables) post
    good_post = rest after_mid
