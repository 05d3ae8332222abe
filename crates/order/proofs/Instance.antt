-- The instance of demand 3: everything that it asks of the two sides is computed.
-- Assumes nothing.
use mathlib.Core.Path.{◌≡◌, refl}
use mathlib.Core.Bool.{true}
use Rattle.sheet_step.specs.Step.{step_names, step_variable, unused_z, field_place, step_places, blank}
use Rattle.sheet_operator.specs.Memory.{tidy_as, memory_number, vacant}
use Rattle.sheet_judge.specs.Judge.{four, five, six, seven, judge_by, whole}
use Rattle.sheet_format.specs.Head.{head_good}
use Rattle.sheet.specs.Check.{check_from, ending, check_of}
use Rattle.counts.specs.Worst.{feed_good}
use Rattle.counts.specs.Answers.{worst_of}
use Rattle.run_store.specs.Store.{part, with_part, fields, first_of}
use Rattle.run_store.specs.Queues.{encode_items, queue_part, store_of, items_of, queues_of}
use Rattle.run_store.specs.Quiet.{quiet_queue, quiet_from}
use Rattle.run_effect.specs.Flow.{does, stepped}
use Rattle.run_effect.specs.Effect.{effect, waits, cursor_good}
use Rattle.run_machine.specs.Machine.{commit, fire_from, fire_first, feed_m, run_from}
use Rattle.run_machine.specs.Ready.{ready_set}
use Rattle.run_machine.specs.Numbers.{good}
use Rattle.run_machine.specs.Calls.{fresh_of, feed_of, fire_of, run_of, ready_of}
use Rattle.rewrite_rules.specs.Rewrite.{split, reorder}
use Rattle.rewriter.specs.Calls.{split_of, reorder_of}
use Rattle.order.specs.Order.{calm_sheet, Made, as_is, splitted, reordered}
use Rattle.order.specs.Demand.{GoodSide, SameFeeds, Agreed}
use Rattle.order.specs.Sequences.{GoodCourse, CoursesAgree}
use Rattle.order.proofs.DemandThree.{demand_3}
use Rattle.order.proofs.Courses.{demand_3_of_calls}
use Rattle.order.specs.Instance.{sheet_a, remade_a, plain_side, remade_side, plain_course, remade_course}

-- what demand 3 asks of the two sides
pub instance_met :
    (calm_sheet sheet_a ≡ true) × Made sheet_a remade_a × GoodSide plain_side × GoodSide remade_side × SameFeeds plain_side remade_side
unfolding step_names step_variable unused_z field_place step_places blank tidy_as memory_number vacant four five six seven judge_by whole
    head_good check_from ending check_of feed_good worst_of part with_part fields first_of encode_items queue_part store_of items_of queues_of
    quiet_queue quiet_from does stepped effect waits cursor_good commit fire_from fire_first feed_m run_from ready_set good fresh_of feed_of
    run_of ready_of split reorder split_of reorder_of
instance_met = (
  refl,
  splitted (reordered as_is 0 refl) 0 2 refl,
  record { feeds = record { fresh = refl; wide = refl; inputs = refl; roomy = refl }; rest = refl },
  record { feeds = record { fresh = refl; wide = refl; inputs = refl; roomy = refl }; rest = refl },
  λ q. refl,
)

-- so it speaks of them
pub instance : Agreed plain_side remade_side
instance = demand_3 plain_side remade_side instance_met.0 instance_met.1 instance_met.2 instance_met.3 instance_met.4

-- and of the same sides fired by sequences of calls
pub courses_met : GoodCourse plain_course × GoodCourse remade_course
unfolding step_names step_variable unused_z field_place step_places blank tidy_as memory_number vacant four five six seven judge_by whole
    head_good check_from ending check_of feed_good worst_of part with_part fields first_of encode_items queue_part store_of items_of queues_of
    quiet_queue quiet_from does stepped effect waits cursor_good commit fire_from fire_first feed_m run_from ready_set good fresh_of feed_of
    fire_of run_of ready_of split split_of
courses_met = (
  record { feeds = record { fresh = refl; wide = refl; inputs = refl; roomy = refl }; rest = refl },
  record { feeds = record { fresh = refl; wide = refl; inputs = refl; roomy = refl }; rest = refl },
)

pub instance_of_calls : CoursesAgree plain_course remade_course
instance_of_calls =
    demand_3_of_calls plain_course remade_course instance_met.0 instance_met.1 courses_met.0 courses_met.1 instance_met.4
