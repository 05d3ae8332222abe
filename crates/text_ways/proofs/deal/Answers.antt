use mathlib.Core.List.{[], ◌∷◌}
use Rattle.text_grammar.specs.Readers.{deal_from}
use Rattle.text_ways.specs.Found.{queues_of}
use Rattle.text_ways.proofs.WayLaws.{ways_found}
use Rattle.text_ways.proofs.deal.Goals as goal

pub returns : goal.returns
returns c =
    let e = ways_found 2 (c.args.q ∷ c.args.r ∷ []) deal_from _ (queues_of c.in_ok-w.w.value) _ c.in_ok-w.ensures.reads.reads in
    record { within = c.deal_from.ensures.within; reads = rw e c.deal_from.ensures.reads }
