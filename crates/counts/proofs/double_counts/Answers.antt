-- `counts::double_counts` meets its contract: the input's count goes to both outputs.
use mathlib.Core.Path.{◌≡◌}
use mathlib.Core.List.{List}
use Prim.Native.Nat.{ℕ}
use lib.ListN.{get_or, set}
use Rattle.counts.proofs.double_counts.Goals as goal

stored : (w first r : List ℕ) (q s n m : ℕ) → n ≡ m → first ≡ set w q n → r ≡ set first s n → r ≡ set (set w q m) s m
stored w first r q s n m e d f = rw (d, e) at f

pub returns : goal.returns
returns c =
    let a = c.args in
    stored a.w _ _ (get_or a.o.outs 0 0) _ _ _ c.count_at-n.ensures
    c.counted-first.ensures c.counted.ensures
