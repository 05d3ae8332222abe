-- `counts::line_counts` meets its contract: the input's count goes to the output.
use mathlib.Core.Path.{◌≡◌}
use mathlib.Core.List.{List}
use Prim.Native.Nat.{ℕ}
use lib.ListN.{get_or, set}
use Rattle.counts.proofs.line_counts.Goals as goal

stored : (w r : List ℕ) (q n m : ℕ) → n ≡ m → r ≡ set w q n → r ≡ set w q m
stored w r q n m e d = rw e at d

pub returns : goal.returns
returns c =
    let a = c.args in
    stored a.w _ (get_or a.o.outs 0 0) _ _ c.count_at-n.ensures c.counted.ensures
