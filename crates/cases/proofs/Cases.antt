-- The tables are right: each row is computed.
use mathlib.Core.Path.{refl}
use lib.Count.{ones, count_trailing_zeros}
use Rattle.base_number.specs.Number.{short_of, short_bytes, bits_of, bits_bytes}
use Rattle.sheet_step.specs.Step.{func_of, step_names, step_variable, unused_z, field_place, step_places, blank, step_bytes, step_of}
use Rattle.sheet_operator.specs.Memory.{tidy_as, memory_number, vacant}
use Rattle.sheet_judge.specs.Judge.{four, five, six, seven, judge_by, whole}
use Rattle.sheet_format.specs.Record.{kind_of, record_bytes, cut, body_good, taken, op_bytes}
use Rattle.sheet_format.specs.Head.{head_good, head_number}
use Rattle.sheet.specs.Check.{check_from, ending, check_of}
use Rattle.codec_read.specs.Read.{read_from, front_of, read_of}
use Rattle.codec_write.specs.Write.{write_of}
use Rattle.counts.specs.Worst.{feed_good}
use Rattle.counts.specs.Answers.{worst_of}
use Rattle.run_store.specs.Store.{part, with_part, fields, first_of}
use Rattle.run_store.specs.Queues.{encode_items, queue_part, store_of, items_of, queues_of}
use Rattle.run_store.specs.Quiet.{quiet_queue, quiet_from}
use Rattle.run_effect.specs.Flow.{does, stepped}
use Rattle.run_effect.specs.Effect.{effect, waits, cursor_good}
use Rattle.run_machine.specs.Machine.{commit, fire_from, fire_first, feed_m, take_m, run_from}
use Rattle.run_machine.specs.Ready.{ready_set}
use Rattle.run_machine.specs.Numbers.{good}
use Rattle.rewrite_rules.specs.Rewrite.{fuse, split, reorder}
use Rattle.rewriter.specs.Calls.{fuse_of, split_of, reorder_of}
use Rattle.run_machine.specs.Calls.{fire_of, feed_of, take_of, run_of, ready_of}
use Rattle.base_words.specs.Text.{digits, natural, integer}
use Rattle.bench_records.specs.Records.{item_at, is_feed, feed_next, feeds_from, firing_number, firings_from}
use Rattle.bench_trial.specs.Trial.{outputs_at, trial_of}
use Rattle.bench_lines.specs.Lines.{item_line, variable_line, refusal_line, counts_line}
use Rattle.bench_report.specs.Print.{printed}
use Rattle.text_scan.specs.Reader as reader
use Rattle.text_scan.specs.Reader.{loop, repeat, here, sign, spell, series, to_end}
use Rattle.text_form.specs.Form.{sheet_text}
use Rattle.text_form.specs.Reading.{tree_answer, read_text_of}
use Rattle.cases.specs.Case.{Rights}
use Rattle.cases.specs.Table.{table}
use Rattle.cases.specs.TextTable.{print_table, text_table}

-- one row and then the rest
infixr 5 ◌&◌
◌&◌ : {A B : Type 0} → A → B → A × B
a & b = (a, b)

pub cases : Rights table
unfolding short_of short_bytes bits_of bits_bytes func_of step_names step_variable unused_z field_place step_places blank step_bytes step_of tidy_as
    memory_number vacant four five six seven judge_by whole kind_of record_bytes cut body_good taken op_bytes head_good head_number check_from ending
    check_of read_from front_of read_of write_of feed_good worst_of part with_part fields first_of encode_items queue_part store_of items_of queues_of
    quiet_queue quiet_from does stepped effect waits cursor_good commit fire_from fire_first feed_m take_m run_from ready_set good fire_of feed_of
    take_of run_of ready_of fuse split reorder fuse_of split_of reorder_of digits natural integer ones count_trailing_zeros item_at is_feed feed_next
    feeds_from firing_number firings_from outputs_at trial_of item_line variable_line refusal_line counts_line printed
cases =
    refl & refl & refl & refl & refl & refl & refl & refl & refl & refl & refl & refl & refl & refl & refl & refl & (refl, refl) &
    (refl, refl) & refl & refl & refl & refl & refl & refl & refl & refl & refl & refl & refl & refl & refl & refl & refl & refl &
    refl & refl & refl & refl & refl & refl & refl & refl & refl & refl & refl & refl & refl & refl & refl & refl & refl & refl &
    refl & refl & refl & refl & refl & refl & refl & refl & refl & refl & refl & refl & refl & refl & refl & refl & refl & refl &
    refl & refl & refl & refl & tt

-- texts: what is printed, and what is read
pub print_cases : Rights print_table
unfolding digits natural integer sheet_text
print_cases =
    refl & refl & refl & refl & refl & refl & refl & refl & tt

pub text_cases : Rights text_table
unfolding step_names step_variable unused_z field_place step_places blank tidy_as memory_number vacant four five six seven judge_by whole head_good
    check_from ending check_of digits natural loop repeat here sign spell reader.digits series to_end tree_answer read_text_of
text_cases =
    refl & refl & refl & refl & refl & refl & refl & refl & refl & refl & refl & refl & refl & refl & refl & refl & refl & refl & refl &
    refl & refl & refl & refl & refl & refl & refl & refl & refl & refl & refl & refl & refl & refl & refl & refl & refl & refl & refl &
    refl & refl & refl & refl & refl & refl & refl & refl & refl & refl & refl & refl & refl & refl & refl & refl & refl & refl & refl &
    refl & refl & refl & refl & refl & refl & refl & refl & refl & refl & tt
