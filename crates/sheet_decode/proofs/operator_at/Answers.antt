-- `sheet_decode::operator_at` meets its contract: each arm is its kind's line of `op_of`, and a body of no kind is never asked.
use mathlib.Core.Path.{◌≡◌}
use mathlib.Core.Bool.{true}
use Prim.Native.Nat.{ℕ}
use native.Mathlib.Omega.{arith}
use Rattle.base_lists.proofs.Build.{never}
use Rattle.sheet_operator.specs.declared.Kind.{Kind}
use Rattle.sheet_operator.specs.declared.Kind.TheVariants.{Empty}
use Rattle.sheet_format.specs.Record.{body_good}
use Rattle.sheet_decode.proofs.Bodies.{latest_body, double_body}
use Rattle.sheet_decode.proofs.operator_at.Goals as goal

good_as : (k j : Kind) (n : ℕ) → k ≡ j → body_good k n ≡ true → body_good j n ≡ true
good_as k j n e h = rw e at h

no_body : {A : Type 0} (n : ℕ) → body_good Empty n ≡ true → A
unfolding body_good
no_body n h = never h

pub line_at-requires : goal.line_at-requires
line_at-requires c =
    (c.requires.0, good_as _ _ _ c.in-Line.is c.requires.1)

pub latest_at-requires : goal.latest_at-requires
latest_at-requires c =
    omega (arith, latest_body c.args.n (good_as _ _ _ c.in-Latest.is c.requires.1), c.requires.0)

pub double_at-requires : goal.double_at-requires
double_at-requires c =
    omega (arith, double_body c.args.n (good_as _ _ _ c.in-Double.is c.requires.1), c.requires.0)

pub deal_at-requires : goal.deal_at-requires
deal_at-requires c =
    (c.requires.0, good_as _ _ _ c.in-Deal.is c.requires.1)

pub gather_at-requires : goal.gather_at-requires
gather_at-requires c =
    (c.requires.0, good_as _ _ _ c.in-Gather.is c.requires.1)

pub returns-in-Empty : goal.returns-in-Empty
returns-in-Empty c =
    no_body c.args.n (good_as _ _ _ c.in-Empty.is c.requires.1)

pub returns-in-Line : goal.returns-in-Line
returns-in-Line c = rw c.in-Line.is c.line_at.ensures

pub returns-in-Latest : goal.returns-in-Latest
returns-in-Latest c = rw c.in-Latest.is c.latest_at.ensures

pub returns-in-Double : goal.returns-in-Double
returns-in-Double c = rw c.in-Double.is c.double_at.ensures

pub returns-in-Deal : goal.returns-in-Deal
returns-in-Deal c = rw c.in-Deal.is c.deal_at.ensures

pub returns-in-Gather : goal.returns-in-Gather
returns-in-Gather c = rw c.in-Gather.is c.gather_at.ensures
