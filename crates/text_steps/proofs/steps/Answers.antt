use Prim.Native.Nat.{suc, ◌-◌}
use mathlib.Core.Path.{◌≡◌}
use native.Mathlib.Omega.{arith}
use Rattle.std.proofs.lemmas.Result.{err_from_is_err_and}
use Rattle.text_scan.proofs.Going.{lost_first, then}
use Rattle.text_steps.proofs.StepLaws.{steps_more, still_filled, steps_end, steps_stop}
use Rattle.text_steps.proofs.steps.Goals as goal

pub returns-in_err-t-clause-reads : goal.returns-in_err-t-clause-reads
returns-in_err-t-clause-reads c =
    let r = err_from_is_err_and c.from_residual.result c.from_residual.ensures.1 in
    rw (r.1, r.2) (c.loop-k.invariant.rest (suc (2 - c.loop-k.k)) (omega arith) _ (lost_first _ c.in_err-t.ensures))

pub returns-in_err-next-clause-reads : goal.returns-in_err-next-clause-reads
returns-in_err-next-clause-reads c =
    let r = err_from_is_err_and c.from_residual-in_err-next.result c.from_residual-in_err-next.ensures.1 in
    rw (r.1, r.2)
    (c.loop-k.invariant.rest (suc (2 - c.loop-k.k)) (omega arith) _ (then _ c.in_ok-t.ensures (lost_first _ c.in_err-next.ensures)))

pub returns-then-next-ne124-clause-reads : goal.returns-then-next-ne124-clause-reads
returns-then-next-ne124-clause-reads c =
    let i = c.loop-k.invariant in
    let n = c.in_ok-next.ensures in
    i.rest (suc (2 - c.loop-k.k)) (omega arith) _
    (then _ c.in_ok-t.ensures (then _ n (steps_stop _ _ _ i.turns (omega arith) i.filled _ c.if-next-ne124.true n.within)))

pub loop-k-preserved : goal.loop-k-preserved
loop-k-preserved c =
    let i = c.loop-k.invariant in
    let n = c.in_ok-next.ensures in
    let more = steps_more c.loop-k.held c.loop-k.k c.in_ok-t.t.value i.turns (omega arith) i.filled in
    record {
      within = n.within;
      turns = omega arith;
      filled = still_filled _ _ _ i.turns (omega arith) i.filled;
      rest = λ j e r g. i.rest (suc j) (omega arith) r (then _ c.in_ok-t.ensures (then _ n (rw (c.if-next-ne124.false, ← more) g)));
    }

pub returns-in_err-t-2-clause-reads : goal.returns-in_err-t-2-clause-reads
returns-in_err-t-2-clause-reads c =
    let r = err_from_is_err_and c.from_residual-in_err-t-2.result c.from_residual-in_err-t-2.ensures.1 in
    rw (r.1, r.2) (c.loop-k.invariant.rest 0 (omega arith) _ (lost_first _ c.in_err-t-2.ensures))

pub returns-in_err-end-clause-reads : goal.returns-in_err-end-clause-reads
returns-in_err-end-clause-reads c =
    let r = err_from_is_err_and c.from_residual-in_err-end.result c.from_residual-in_err-end.ensures.1 in
    rw (r.1, r.2) (c.loop-k.invariant.rest 0 (omega arith) _ (then _ c.in_ok-t-2.ensures (lost_first _ c.in_err-end.ensures)))

pub returns : goal.returns
returns c =
    let i = c.loop-k.invariant in
    let n = c.in_ok-end.ensures in
    let count : c.loop-k.held.count ≡ 3 = omega arith in
    record {
      reads = i.rest 0 (omega arith) _ (then _ c.in_ok-t-2.ensures (then _ n (steps_end _ _ _ count (omega arith) i.filled n.within)));
      filled = still_filled _ _ _ count (omega arith) i.filled;
    }
