-- The table of slips, computed; and that the rewriter, the calm test and the ready set do not make them.
-- Assumes nothing.
use mathlib.Core.Path.{◌≡◌, refl, ap, ◌∙◌}
use mathlib.Core.Bool.{true, false}
use mathlib.Core.List.{[]}
use lib.ListN.{replicate}
use lib.IntN.{pos}
use Rattle.base_lists.specs.Lists.{all}
use Rattle.sheet_step.specs.Step.{step_names, step_variable, unused_z, field_place, step_places, blank}
use Rattle.sheet_operator.specs.Memory.{tidy_as, memory_number, vacant}
use Rattle.sheet_judge.specs.Judge.{four, five, six, seven, judge_by, whole}
use Rattle.sheet_format.specs.Head.{head_good}
use Rattle.sheet.specs.declared.Sheet.{Sheet}
use Rattle.sheet.specs.Answer.{accepted, refused}
use Rattle.sheet.specs.Sheet.{view_sheet}
use Rattle.sheet.specs.Check.{check_from, ending, check_of}
use Rattle.counts.specs.Calm.{is_calm}
use Rattle.counts.specs.Worst.{feed_good}
use Rattle.counts.specs.Answers.{worst_of}
use Rattle.run_store.specs.Store.{STORE, part, with_part, fields, first_of}
use Rattle.run_store.specs.Queues.{encode_items, queue_part, store_of, items_of, queues_of}
use Rattle.run_store.specs.Quiet.{quiet_queue, quiet_from}
use Rattle.run_effect.specs.Flow.{does, stepped}
use Rattle.run_effect.specs.Effect.{effect, waits, cursor_good}
use Rattle.run_machine.specs.Machine.{commit, fire_from, fire_first, run_from}
use Rattle.run_machine.specs.Ready.{ready_set}
use Rattle.run_machine.specs.Numbers.{good}
use Rattle.run_machine.specs.Calls.{Call, fresh_of, fire_of, run_of, ready_of}
use Rattle.run_machine.proofs.FreshLaws.{fresh_machine}
use Rattle.rewrite_rules.specs.Rewrite.{split, reorder}
use Rattle.rewriter.specs.Calls.{split_of, reorder_of}
use Rattle.order.specs.Order.{fed, to_inputs, wide_feeds, roomy}
use Rattle.order.specs.Samples.{holding}
use Rattle.order.specs.Instance.{sheet_a, stale}
use Rattle.order.specs.Slips.{Slip, slips, shows, keep_split, stuck, counting, count_split, copying, copying_reordered, dropping, restless, feeds_in}
use Rattle.order.specs.Slips.{filled_by, FedStart, keep_row, count_row, copy_row, restless_row}
use Rattle.order.proofs.Held.{held, fresh_held}
use Rattle.order.proofs.FeedLink.{fed_all, fresh_feeds}
use Rattle.order.proofs.WorstLink.{given_few}

pub slips_show : all shows slips ≡ true
unfolding step_names step_variable unused_z field_place step_places blank tidy_as memory_number vacant four five six seven judge_by whole
    head_good check_from ending check_of part with_part fields first_of encode_items queue_part store_of items_of queues_of quiet_queue
    quiet_from does stepped effect waits cursor_good commit fire_from fire_first run_from ready_set good run_of ready_of
slips_show = refl

-- the rows but the one with a full output start where feeds lead
fed_start : (t : Sheet) (x : Slip) → check_of t ≡ accepted → to_inputs t (feeds_in 0 x.before) ≡ true →
    wide_feeds (feeds_in 0 x.before) ≡ true → roomy t (feeds_in 0 x.before) ≡ true →
    fed_all fresh_machine (feeds_in 0 x.before) ≡ holding x.before [] →
    filled_by t x ≡ held (holding x.before [])
unfolding fresh_of
fed_start t x h i w r e =
    ap (λ (c : Call). fed t c (feeds_in 0 x.before)) (fresh_held stale (replicate STORE (pos 7)) refl)
    ∙ (fresh_feeds t h (feeds_in 0 x.before) i w (given_few t h (feeds_in 0 x.before) i r)).left
    ∙ ap held e

pub rows_are_fed : FedStart keep_row × FedStart count_row × FedStart copy_row × FedStart restless_row
unfolding step_names step_variable unused_z field_place step_places blank tidy_as memory_number vacant four five six seven judge_by whole
    head_good check_from ending check_of feed_good worst_of
rows_are_fed = (
  (fed_start sheet_a keep_row refl refl refl refl refl, fed_start keep_split keep_row refl refl refl refl refl),
  (fed_start counting count_row refl refl refl refl refl, fed_start count_split count_row refl refl refl refl refl),
  (fed_start copying copy_row refl refl refl refl refl, fed_start copying_reordered copy_row refl refl refl refl refl),
  (fed_start restless restless_row refl refl refl refl refl, fed_start restless restless_row refl refl refl refl refl),
)

-- the line that drops is on an accepted, calm sheet
pub dropping_calm : (check_of dropping ≡ accepted) × (is_calm (view_sheet dropping) ≡ true)
unfolding step_names step_variable unused_z field_place step_places blank tidy_as memory_number vacant four five six seven judge_by whole
    head_good check_from ending check_of
dropping_calm = (refl, refl)

-- the rewriter refuses all three rewritings
pub rewritings_refused :
    ((split_of sheet_a 0 2).answer ≡ refused 17) × ((split_of counting 0 2).answer ≡ refused 17) × ((reorder_of copying 0).answer ≡ refused 17)
unfolding step_names step_variable unused_z field_place step_places blank tidy_as memory_number vacant four five six seven judge_by whole
    head_good check_from ending check_of split reorder split_of reorder_of
rewritings_refused = (refl, refl, refl)

-- the split Count and the sheet of Latest and Stamp are accepted, and not calm
pub accepted_not_calm :
    (check_of count_split ≡ accepted) × (is_calm (view_sheet count_split) ≡ false)
    × (check_of restless ≡ accepted) × (is_calm (view_sheet restless) ≡ false)
unfolding step_names step_variable unused_z field_place step_places blank tidy_as memory_number vacant four five six seven judge_by whole
    head_good check_from ending check_of
accepted_not_calm = (refl, refl, refl, refl)

-- the gather of the split Keep has an item in queue 5 and waits for one in queue 6, which is empty
pub gather_waits :
    ((fire_of keep_split stuck.state stuck.store 5).answer ≡ refused 11)
    × ((fire_of keep_split stuck.state stuck.store 6).answer ≡ refused 10)
unfolding step_names step_variable unused_z field_place step_places blank tidy_as memory_number vacant four five six seven judge_by whole
    head_good check_from ending check_of part with_part fields first_of encode_items queue_part store_of items_of queues_of quiet_queue
    quiet_from does stepped effect waits cursor_good commit fire_from fire_first run_from good run_of fire_of
gather_waits = (refl, refl)
