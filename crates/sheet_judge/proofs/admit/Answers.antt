-- `sheet_judge::admit` meets its contract: an operator that the judge keeps has queues and variables that have flags.
use mathlib.Core.Path.{◌≡◌, sym}
use Rattle.base_lists.proofs.Members.{all_below}
use Rattle.sheet_operator.specs.Op.{names}
use Rattle.sheet_operator.specs.Memory.{view}
use Rattle.sheet_judge.specs.Judge.{judge_by}
use Rattle.sheet_sets.specs.Sets.{FLAGS}
use Rattle.sheet_judge.specs.Seen.{known_by}
use Rattle.sheet_judge.proofs.JudgedLaws.{judged_four, judged_six, six_names, four_flagged}
use Rattle.sheet_judge.proofs.admit.Goals as goal

pub kept-requires : goal.kept-requires
kept-requires c =
    let a = c.args in
    let k = known_by a.seen in
    let zero : judge_by a.queues a.variables k (view a.o) ≡ 0 = sym c.in_ok-judge.ensures in (
      c.requires.0,
      four_flagged a.queues k a.o c.requires.1 (judged_four a.queues a.variables k (view a.o) zero),
      all_below a.variables FLAGS (names (view a.o)) c.requires.2
          (six_names a.variables k (view a.o) (judged_six a.queues a.variables k (view a.o) zero)),
    )

pub returns : goal.returns
returns c = record { number = c.in_ok-judge.ensures; known = c.kept.ensures }
