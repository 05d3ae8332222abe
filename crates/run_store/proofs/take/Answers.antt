-- `run_store::take` meets its contract: what `take_part` says of the queue's part, said of the store.
use Rattle.run_store.specs.Store.{take_at, without_oldest}
use Rattle.run_store.proofs.LentParts.{store_of_lent}
use Rattle.run_store.proofs.take.Goals as goal

pub returns : goal.returns
unfolding take_at
returns c =
    let a = c.args in
    store_of_lent a.store.now a.q without_oldest _ c.take_part.ensures
