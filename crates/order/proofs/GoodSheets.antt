-- What an accepted, calm sheet has: the theory's acceptance by counts, a head in its ranges, and operators whose places are good.
-- Assumes nothing.
use mathlib.Core.Path.{◌≡◌}
use mathlib.Core.Bool.{true}
use Prim.Native.Nat.{ℕ}
use mathlib.Core.List.{List}
use lib.ListN.{length}
use Rattle.sheet_step.specs.declared.Step.{Step}
use Rattle.sheet_operator.specs.Op.{Op, line, Abstract}
use Rattle.sheet_operator.proofs.ViewLaws.{Small}
use Rattle.sheet_judge.specs.Judge.{variables_good, seven}
use Rattle.sheet_format.proofs.Heads.{HeadRanges}
use Rattle.order_theory.proofs.Rewrites.{All}
use Rattle.order_theory.proofs.Equations.{Kind}
use Rattle.order_theory.proofs.Final.{Made, Calm}
use Rattle.order.proofs.Model.{kinds_as}

-- an operator's own places: its sizes, its variables and its steps
pub record GoodOp (variables : ℕ) (o : Op) : Type 0 where
  pub small : Small o
  pub six : variables_good variables o ≡ true
  pub seven : seven o ≡ true

pub record GoodSheet (a : Abstract) : Type 0 where
  pub head : HeadRanges a.inputs a.queues a.variables (length a.ops)
  pub calm : Calm a.inputs a.queues a.variables (kinds_as a)
  pub each : All (GoodOp a.variables) a.ops

-- a line's places do not depend on its queues
pub good_line : (variables p q r s : ℕ) (ss : List Step) → GoodOp variables (line p q ss) → GoodOp variables (line r s ss)
unfolding seven
good_line variables p q r s ss g = record { small = g.small; six = g.six; seven = g.seven }

-- a sheet with other operators
abbrev pub over : Abstract → List Op → Abstract
over a os = record { inputs = a.inputs; queues = a.queues; variables = a.variables; ops = os }

-- what a rewriting makes of a good sheet: a good sheet, with the same inputs, that the theory makes of it too
pub record Next (a b : Abstract) : Type 0 where
  pub good : GoodSheet b
  pub inputs : b.inputs ≡ a.inputs
  pub made :
      {I Q v : ℕ} {ops : List Kind} → Made I Q v ops a.queues a.variables (kinds_as a) → Made I Q v ops b.queues b.variables (kinds_as b)
