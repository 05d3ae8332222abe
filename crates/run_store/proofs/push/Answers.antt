-- `run_store::push` meets its contract: what `push_part` says of the queue's part, said of the store.
use mathlib.Core.List.{List}
use lib.IntN.{ℤ}
use Rattle.run_store.specs.Store.{push_at, pushed}
use Rattle.run_store.proofs.LentParts.{store_of_lent}
use Rattle.run_store.proofs.push.Goals as goal

pub returns : goal.returns
unfolding push_at
returns c =
    let a = c.args in
    store_of_lent a.store.now a.q (λ (l : List ℤ). pushed l a.count a.x) _ c.push_part.ensures
