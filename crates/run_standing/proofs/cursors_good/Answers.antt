-- `run_standing::cursors_good` meets its contract: every operator passed has its cursor in its range.
use mathlib.Core.Path.{sym, ◌∙◌}
use Prim.Native.Nat.{ℕ}
use native.Mathlib.Omega.{arith}
use Rattle.base_lists.proofs.Tests.{all_more, all_stop}
use Rattle.sheet_operator.specs.Memory.{view}
use Rattle.sheet_format.proofs.Heads.{HeadRanges}
use Rattle.sheet.specs.Sheet.{op_at}
use Rattle.sheet.proofs.Accepted.{ranges_of_accepted}
use Rattle.run_machine.proofs.AbleOf.{able_of_accepted}
use Rattle.run_standing.proofs.cursors_good.Invariants.{test}
use Rattle.run_standing.proofs.cursors_good.Goals as goal
use Rattle.run_standing.proofs.cursors_good.Goals.{Start}

ranges : (c : Start) → HeadRanges c.args.t.inputs c.args.t.queues c.args.t.variables c.args.t.count
ranges c = ranges_of_accepted c.args.t c.requires

pub bounds-t-i : goal.bounds-t-i
bounds-t-i c = omega (arith, ranges (goal.at.bounds-t-i c).Start)

pub cursor_good-requires : goal.cursor_good-requires
cursor_good-requires c =
    able_of_accepted c.args.t c.requires c.loop-i.i c.loop-i-test.true

pub returns-then-not-cursor_good : goal.returns-then-not-cursor_good
returns-then-not-cursor_good c =
    let a = c.args in
    sym (all_stop (test a.vars) a.t.count c.loop-i.i (λ (k : ℕ). view (op_at a.t k)) (omega arith)
    (sym c.cursor_good.ensures ∙ c.if-not-cursor_good.true))

pub loop-i-preserved : goal.loop-i-preserved
loop-i-preserved c =
    let a = c.args in (
      omega arith,
      all_more (test a.vars) c.loop-i.i (λ (k : ℕ). view (op_at a.t k)) c.loop-i.invariant.1
          (sym c.cursor_good.ensures ∙ c.if-not-cursor_good.false),
    )
