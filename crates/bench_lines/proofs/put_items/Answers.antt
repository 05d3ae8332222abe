-- `bench_lines::put_items` meets its contract: the lines of the first i items are put.
-- Assumes nothing.
use mathlib.Core.Path.{◌≡◌, ap, sym, ◌∙◌}
use mathlib.Core.List.{List, ◌++◌}
use Prim.Native.Nat.{ℕ, ◌+◌, ◌*◌, ◌-◌, ◌≤◌}
use native.Mathlib.Omega.{arith}
use lib.ListN.{length, take, drop, length-drop}
use lib.IntN.{ℤ}
use lib.Seq.{length-take-le}
use Rattle.base_bounds.specs.Bounds.{FIELDS}
use Rattle.run_store.specs.Queues.{items_of}
use Rattle.bench_lines.specs.Lines.{item_line, queue_lines, LINE}
use Rattle.bench_lines.proofs.Pieces.{piece_of, pieces_none, pieces_more, pieces_all}
use Rattle.bench_lines.proofs.LineLaws.{queue_more}
use Rattle.bench_lines.proofs.put_items.Invariants.{Items}
use Rattle.bench_lines.proofs.put_items.Goals as goal

-- no item, one more, and the part of an item
items_none : (q : ℕ) (s : List ℕ) (p : List ℤ) (at : ℕ) → Items 0 q p s at s at
unfolding items_of
items_none q s p at = pieces_none LINE s at

item_wide : (i : ℕ) → 4 * i + 4 - 4 * i ≡ FIELDS
item_wide i = omega arith

items_more : (q i : ℕ) (p : List ℤ) →
    queue_lines q (items_of (i + 1) p) ≡ queue_lines q (items_of i p) ++ item_line q (take (4 * i + 4 - 4 * i) (drop (4 * i) p))
items_more q i p = queue_more q i p ∙ ap (λ (k : ℕ). queue_lines q (items_of i p) ++ item_line q (take k (drop (4 * i) p))) (sym (item_wide i))

item_long : (p : List ℤ) (i : ℕ) → 4 * i + 4 ≤ length p → length (take (4 * i + 4 - 4 * i) (drop (4 * i) p)) ≡ FIELDS
item_long p i h = length-take-le (4 * i + 4 - 4 * i) (drop (4 * i) p) (omega (arith, length-drop (4 * i) p)) ∙ item_wide i

pub loop-i-init : goal.loop-i-init
loop-i-init c = items_none _ _ _ _

pub put_item-end-requires : goal.put_item-end-requires
put_item-end-requires c =
    let l = c.loop-i in (
      omega (arith, l.invariant.most, l.invariant.size, c.requires.0, c.loop-i-test.true),
      item_long c.args.part.now l.i (omega (arith, c.requires.1, c.requires.2, c.loop-i-test.true)),
    )

pub loop-i-preserved : goal.loop-i-preserved
loop-i-preserved c =
    let l = c.loop-i in
    pieces_more LINE l.i _ l.invariant (piece_of c.put_item-end.ensures) (items_more c.args.q l.i c.args.part.now)

pub returns : goal.returns
returns c =
    let l = c.loop-i in
    let e : l.i ≡ c.args.n = omega arith in
    pieces_all LINE l.i c.args.n e (ap (λ (k : ℕ). queue_lines c.args.q (items_of k c.args.part.now)) e) l.invariant
