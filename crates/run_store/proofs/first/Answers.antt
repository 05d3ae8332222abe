-- `run_store::first` meets its contract: what is lent to `first_item` is the queue's part.
use mathlib.Core.Path.{ap, ◌∙◌}
use Rattle.run_store.specs.Store.{first_of}
use Rattle.run_store.proofs.LentParts.{lent_part}
use Rattle.run_store.proofs.first.Goals as goal

pub returns : goal.returns
returns c =
    let a = c.args in
    c.first_item.ensures ∙ ap first_of (lent_part a.store.now a.q)
