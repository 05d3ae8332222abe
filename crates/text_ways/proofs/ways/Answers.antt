use Prim.Native.Nat.{suc, ◌+◌, ◌-◌, ◌<◌}
use mathlib.Core.Path.{◌≡◌, ◌∙◌}
use native.Mathlib.Omega.{arith}
use Rattle.sheet_operator.specs.Memory.{PLACES}
use Rattle.text_ways.specs.Found.{queues_of}
use Rattle.text_ways.proofs.WayLaws.{ways_more, still_filled, ways_go}
use Rattle.text_ways.proofs.ways.Goals as goal

pub loop-k-preserved : goal.loop-k-preserved
loop-k-preserved c =
    let w = c.loop-k.held in
    let k = c.loop-k.k in
    let i = c.loop-k.invariant in
    let q = c.in_ok-q.q.value in
    let room : w.count < PLACES = omega arith in
    let left : PLACES - k ≡ suc (PLACES - (k + 1)) = omega arith in
    record {
      within = c.in_ok-from.ensures.within;
      count = omega arith;
      filled = still_filled w q k i.count room i.filled;
      reads = rw (ways_more w q k i.count room i.filled)
          (ways_go (PLACES - (k + 1)) (queues_of w) q _ _ _ _ _ (rw c.if-b-ne113.false at c.in_ok-b.ensures.reads) c.in_ok-q.ensures.reads.reads
          c.in_ok-from.ensures.reads ∙ rw left at i.reads);
    }
