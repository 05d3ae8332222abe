-- `run_store::first_item` meets its contract: the part's first numbers are copied over the new item's zeros.
use Rattle.std.proofs.Common.{List, ℤ, ap}
use Rattle.run_store.specs.Store.{first_of}
use Rattle.run_store.proofs.first_item.Goals as goal

pub returns : goal.returns
unfolding first_of
returns c = ap (λ (g : List ℤ). record { f = g }) c.copy_from_slice.ensures.after
