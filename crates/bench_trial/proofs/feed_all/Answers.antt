-- `bench_trial::feed_all` meets its contract: between two records state and store hold what `Feeding` says.
-- Assumes nothing.
use mathlib.Core.Path.{refl, sym, ◌∙◌}
use native.Mathlib.Omega.{arith}
use borrow.Author.Rules.{rules}
use Rattle.bench_trial.proofs.Feeding.{feeding_starts, feeding_room, feeding_goes_on, feeding_ends}
use Rattle.bench_trial.proofs.feed_all.Goals as goal

pub loop-t-init : goal.loop-t-init
loop-t-init c =
    feeding_starts c.args.t c.args.s.now c.args.from c.args.state c.args.store.now c.requires (search rules) (search rules)

pub item_at-x-requires : goal.item_at-x-requires
item_at-x-requires c = feeding_room c.loop-t.invariant (sym c.is_feed.ensures ∙ c.loop-t-test.true)

pub bounds-s-at : goal.bounds-s-at
bounds-s-at c =
    omega (arith, feeding_room c.loop-t.invariant (sym c.is_feed.ensures ∙ c.loop-t-test.true))

pub loop-t-smaller : goal.loop-t-smaller
loop-t-smaller c =
    omega (arith, feeding_room c.loop-t.invariant (sym c.is_feed.ensures ∙ c.loop-t-test.true))

pub loop-t-preserved : goal.loop-t-preserved
loop-t-preserved c =
    rw c.unwrap_or-st.ensures
    (feeding_goes_on c.loop-t.invariant (sym c.is_feed.ensures ∙ c.loop-t-test.true) _ _ refl c.item_at-x.ensures c.feed_known.ensures)

pub returns : goal.returns
returns c = feeding_ends c.loop-t.invariant (sym c.is_feed.ensures ∙ c.loop-t-test.false)
