-- `counts::operator_counts` meets its contract: each arm counts as its kind does.
use mathlib.Core.Path.{◌≡◌, ap, ◌∙◌, sym}
use mathlib.Core.List.{List}
use Prim.Native.Nat.{ℕ}
use lib.ListN.{get_or}
use Rattle.base_lists.proofs.Build.{build_length}
use Rattle.sheet_operator.specs.Memory.{ways, view_as}
use Rattle.sheet_operator.specs.declared.Kind.TheVariants.{Deal}
use Rattle.sheet_operator.specs.declared.Operator.{Operator}
use Rattle.sheet_operator.proofs.ViewLaws.{by_kind}
use Rattle.counts.specs.Worst.{dealt, worst_op}
use Rattle.counts.proofs.operator_counts.Goals as goal

deal_counted : (w r : List ℕ) (o : Operator) (n : ℕ) → n ≡ get_or w (get_or o.ins 0 0) 0 → r ≡ dealt w n o.count 0 (ways o.count o.outs) →
    r ≡ worst_op w (view_as Deal o)
deal_counted w r o n e h =
    h
    ∙ rw e (ap (λ (k : ℕ). dealt w (get_or w (get_or o.ins 0 0) 0) k 0 (ways o.count o.outs))
    (sym (build_length o.count (λ (k : ℕ). get_or o.outs k 0))))

pub returns-in-Deal : goal.returns-in-Deal
returns-in-Deal c =
    let a = c.args in
    deal_counted a.w c.deal_counts.result a.o c.count_at.result c.count_at.ensures c.deal_counts.ensures
    ∙ by_kind (worst_op a.w) a.o Deal c.in-Deal.is
