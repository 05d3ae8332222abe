-- `counts::sheet_counts` meets its contract: what is left to count from here is what was to count at the start,
-- and no count is above the bound of the operators passed.
use mathlib.Core.Path.{◌≡◌, ap, ◌∙◌, sym}
use mathlib.Core.List.{List}
use Prim.Native.Nat.{ℕ, ◌+◌, ◌<◌, ◌≤◌, ◌^◌}
use native.Mathlib.Numerals.{add-one}
use native.Mathlib.Omega.{arith}
use Rattle.base_lists.proofs.Rest.{rest, rest_all, rest_none}
use Rattle.sheet_operator.specs.Op.{Op}
use Rattle.sheet_operator.specs.Memory.{view}
use Rattle.sheet_operator.proofs.ViewLaws.{Small}
use Rattle.sheet.specs.Sheet.{op_at, view_sheet}
use Rattle.sheet.specs.declared.Sheet.{Sheet}
use Rattle.sheet.proofs.Accepted.{ranges_of_accepted}
use Rattle.counts.specs.Worst.{worst_op, worst_from}
use Rattle.counts.proofs.Bounds.{Within, within_more, within_worst, bound, bound_most}
use Rattle.counts.proofs.OfAccepted.{operator_ready, operator_small}
use Rattle.counts.proofs.Turns.{worst_turn}
use Rattle.counts.proofs.sheet_counts.Goals as goal

abbrev at : Sheet → ℕ → Op
at t k = view (op_at t k)

-- what is left to count from operator i on is what was to count
abbrev Left : Sheet → List ℕ → List ℕ → ℕ → Type 0
Left t fed w i = worst_from w (rest t.count i (at t)) ≡ worst_from fed (view_sheet t).ops

start : (t : Sheet) (fed : List ℕ) → Left t fed fed 0
start t fed = ap (worst_from fed) (rest_all t.count (at t))

turn : (t : Sheet) (fed w r : List ℕ) (i : ℕ) → i < t.count → r ≡ worst_op w (at t i) → Left t fed w i → Left t fed r (i + 1)
turn t fed w r i h e l = rw e (worst_turn t.count (at t) i h w ∙ l)

grown : (t : Sheet) (w r : List ℕ) (i : ℕ) → Small (at t i) → r ≡ worst_op w (at t i) → Within (bound i) w → Within (bound (i + 1)) r
grown t w r i s e h = rw (add-one i, e) (within_worst (bound i) w (at t i) s h)

end : (t : Sheet) (fed w : List ℕ) (i : ℕ) → t.count ≤ i → Left t fed w i → w ≡ worst_from fed (view_sheet t).ops
end t fed w i h l = sym (ap (worst_from w) (rest_none t.count (at t) i h)) ∙ l

pub loop-i-init : goal.loop-i-init
loop-i-init c = (omega arith, start c.args.t c.args.fed, c.requires.1)

pub offset_bounds-t-i : goal.offset_bounds-t-i
offset_bounds-t-i c = omega (arith, ranges_of_accepted c.args.t c.requires.0)

pub bounds-t-i : goal.bounds-t-i
bounds-t-i c = omega (arith, ranges_of_accepted c.args.t c.requires.0)

pub operator_counts-next-requires : goal.operator_counts-next-requires
operator_counts-next-requires c =
    let i = c.loop-i.i in (
      operator_ready c.args.t c.requires.0 i c.loop-i-test.true,
      within_more (bound i) (2 ^ 60) c.loop-i.w (bound_most i (omega (arith, ranges_of_accepted c.args.t c.requires.0))) c.loop-i.invariant.2,
    )

pub loop-i-preserved : goal.loop-i-preserved
loop-i-preserved c =
    let t = c.args.t in
    let i = c.loop-i.i in
    let h = c.loop-i-test.true in (
      omega arith,
      turn t c.args.fed c.loop-i.w c.operator_counts-next.result i h c.operator_counts-next.ensures c.loop-i.invariant.1,
      grown t c.loop-i.w c.operator_counts-next.result i (operator_small t c.requires.0 i h) c.operator_counts-next.ensures c.loop-i.invariant.2,
    )

pub returns : goal.returns
returns c =
    end c.args.t c.args.fed c.loop-i.w c.loop-i.i c.loop-i-test.false c.loop-i.invariant.1
