-- The theorems, for a reader to find at once: each is proved in the crate that its line names.
-- Assumes nothing.

-- reading and writing: a checked sheet that is written into a buffer with room for it is read back as itself
pub use Rattle.codec.proofs.Theorems.{read_of_written}
-- a sheet that is read has the bytes that it was read from, and no others
pub use Rattle.codec.proofs.Theorems.{written_of_read}
-- a sheet that is read, and then written into a buffer with room for it, puts the same bytes there
pub use Rattle.codec.proofs.Theorems.{write_of_read}
-- a sheet that is read passes the check
pub use Rattle.codec.proofs.Theorems.{read_is_checked}
-- a reading's refusal is at the head, at an operator, or at the record past the last
pub use Rattle.codec.proofs.Theorems.{read_refusal_record}
-- a reading's refusal is one of the numbers 1 to 7
pub use Rattle.codec.proofs.Theorems.{read_refusal_number}
-- the check: its refusal is at the head, at an operator, or at the record past the last
pub use Rattle.sheet.proofs.Accepted.{refusal_record}
-- the check's refusal is one of the numbers 1 to 7
pub use Rattle.sheet.proofs.Accepted.{refusal_number}
-- a refusal of the check and of a reading has a record
pub use Rattle.sheet.proofs.Accepted.{refusal_has_record}
pub use Rattle.codec.proofs.Theorems.{read_refusal_has_record}
-- an accepted sheet: each queue below Q is defined exactly once, by the head or by an operator
pub use Rattle.sheet.proofs.Laws.{defined_once}
-- no queue is read twice
pub use Rattle.sheet.proofs.Laws.{read_at_most_once}
-- what an operator reads is an input, or an operator before it defines it
pub use Rattle.sheet.proofs.Laws.{read_is_earlier}
-- a cursor is named by no other operator
pub use Rattle.sheet.proofs.Laws.{cursor_alone}
-- an operator holds 0 in every place that its kind and count do not use
pub use Rattle.sheet.proofs.Laws.{unused_zero}
-- every place past the last operator holds the empty operator
pub use Rattle.sheet.proofs.Laws.{past_no_operator}
-- every queue that an operator reads or defines is below Q
pub use Rattle.sheet.proofs.Laws.{queue_below}
-- every variable that an operator names is below V
pub use Rattle.sheet.proofs.Laws.{variable_below}
-- worst counts: they are 0 from queue Q on
pub use Rattle.counts.proofs.WorstLaws.{worst_past}
-- worst counts are 24 numbers, refused or not
pub use Rattle.counts.proofs.WorstLaws.{worst_length}
-- calm sheets: no two operators of a calm sheet name the same variable
pub use Rattle.counts.proofs.CalmLaws.{calm_apart}
-- a sheet of which no two operators name the same variable is calm
pub use Rattle.counts.proofs.CalmLaws.{apart_calm}
-- the paper's words: two answers that say the same are the same
pub use Rattle.sheet.proofs.AnswerLaws.{paper_injective}
-- with the same value, of any call
pub use Rattle.sheet.proofs.AnswerLaws.{answer_injective}
-- two refusals of the same number are the same
pub use Rattle.base_refusal.proofs.Reasons.{number_injective}
-- one outcome: two answers that meet the contract of the check are equal
pub use Rattle.sheet.proofs.OneOutcome.{check_one}
-- two answers that meet the contract of reading the head and the operators are equal
pub use Rattle.codec_read.proofs.OneOutcome.{front_one}
-- two answers that meet the contract of reading are equal
pub use Rattle.codec_read.proofs.OneOutcome.{read_one}
-- two answers that meet the contract of writing are equal, and so are the two buffers
pub use Rattle.codec_write.proofs.OneOutcome.{write_one}
pub use Rattle.codec.proofs.OneOutcome.{again_one}
-- two answers that meet the contract of the calm test are equal
pub use Rattle.counts.proofs.OneOutcome.{calm_one}
-- two answers that meet the contract of the worst counts are equal
pub use Rattle.counts.proofs.OneOutcome.{worst_one}
-- the runner: a good state in numbers, decoded, is the state
pub use Rattle.run_machine.proofs.Good.{decode_of_encode}
-- numbers pass 8 exactly if they are those of the state that they decode to, 0 from Q and from V on, every cursor in its range
pub use Rattle.run_machine.proofs.Good.{good_exactly}
-- a firing keeps a state good
pub use Rattle.run_machine.proofs.Keeps.{fire_keeps}
-- a feed keeps a state good
pub use Rattle.run_machine.proofs.Keeps.{feed_keeps}
-- a take keeps a state good
pub use Rattle.run_machine.proofs.Keeps.{take_keeps}
-- a firing takes exactly one item, the oldest of its queue, and does what the report's rule says
pub use Rattle.run_machine.proofs.Firing.{fire_takes_one}
-- it puts at most one item on each queue
pub use Rattle.run_machine.proofs.Firing.{put_at_most_one}
-- a firing is refused with 9, 10, 11 or 12 and with no other number
pub use Rattle.run_machine.proofs.Firing.{fire_refusals}
-- a run fires an entry exactly if its firing, in the state reached by then, is accepted
pub use Rattle.run_machine.proofs.RunLaws.{run_entry_fired}
-- and skips it exactly if not
pub use Rattle.run_machine.proofs.RunLaws.{run_entry_skipped}
-- an entry of a run that is refused leaves the machine as it was
pub use Rattle.run_machine.proofs.RunLaws.{run_refused}
-- bit q of the ready set is 1 exactly if firing q would be accepted
pub use Rattle.run_machine.proofs.ReadyLaws.{ready_bit}
-- the set is 0 only if every queue number is refused
pub use Rattle.run_machine.proofs.ReadyLaws.{ready_rest}
-- and it is 0 if every queue number is refused
pub use Rattle.run_machine.proofs.ReadyLaws.{rest_ready}
-- the count of ones is the number of queues that are ready
pub use Rattle.run_machine.proofs.ReadyLaws.{ready_count}
-- the trailing zeros are the lowest queue that is ready, 32 where none is
pub use Rattle.run_machine.proofs.ReadyLaws.{ready_lowest}
-- where no queue is ready the lowest is 32
pub use Rattle.run_machine.proofs.ReadyLaws.{ready_lowest_none}
-- of the calls themselves: where sheet and numbers stand, the ready set is 0 exactly if `fire` refuses every queue number
pub use Rattle.runner.proofs.Rest.{rest_refuses_all, all_refused_rests}
-- one outcome: fresh, feed and fire; take; run; ready
pub use Rattle.run_machine.proofs.OneOutcome.{called_one, taken_one, ran_one, ready_one}
-- which operator reads a queue; what trying an operator would do
pub use Rattle.runner.proofs.OneOutcome.{reader_one}
pub use Rattle.run_machine.proofs.OneOutcome.{attempt_one}
-- the rewriter: an accepted answer is an accepted, calm sheet again, and the one that the paper sets out
pub use Rattle.order.proofs.Again.{fuse_again, split_again, reorder_again}
-- one outcome: two answers that meet the contract of fuse, split or reorder are equal
pub use Rattle.rewriter.proofs.OneOutcome.{fuse_one, split_one, reorder_one}
-- demand 3: neither the order of firings nor a chain of rewritings changes what reaches the outputs and the variables
pub use Rattle.order.proofs.DemandThree.{demand_3}
-- from one good state of a calm sheet any two lists that end at rest fire equally often and leave the same whole state
pub use Rattle.order.proofs.OneRest.{one_rest_of_calm}
-- a run of l and then of l' is a run of both: the same answer, state and store, and the counts add up
pub use Rattle.order.proofs.Composed.{runs_join}
-- a firing leaves what a run of its one entry leaves, refused or not
pub use Rattle.order.proofs.Composed.{firing_is_run}
-- any sequence of firings and runs leaves what one run of all their entries leaves, and as many fire
pub use Rattle.order.proofs.Composed.{sequence_is_run}
-- demand 3 for any such sequences, accepted and refused calls among them
pub use Rattle.order.proofs.Courses.{demand_3_of_calls}
-- and from one good state of a calm sheet any two sequences that end at rest fire equally often and leave the same whole state
pub use Rattle.order.proofs.Courses.{one_rest_of_calls}
-- from any good state of an accepted sheet some list ends at rest
pub use Rattle.order.proofs.Reaches.{reaches_rest}
-- of the model alone: a run that ends at rest fires at most as often as the worst counts of the queues that are read say
pub use Rattle.order_theory.proofs.Final.{firings_le}
-- demand 3 speaks of sheet A, and of A reordered and then split, each fired in an order of its own
pub use Rattle.order.proofs.Instance.{instance_met, instance}
-- and of the same sides fired by sequences of calls, refused ones among them
pub use Rattle.order.proofs.Instance.{courses_met, instance_of_calls}
-- what goes wrong without the conditions: the paper's four slips, and a sheet that is not calm
pub use Rattle.order.proofs.Slips.{slips_show, rows_are_fed, rewritings_refused, accepted_not_calm, dropping_calm, gather_waits}
-- what bench prints: it fits in TEXT bytes, and two outcomes that meet the report's contract are equal
pub use Rattle.bench_report.proofs.Fits.{text_fits}
pub use Rattle.bench_report.proofs.OneOutcome.{report_one}
-- over-long input is 18 at record 0
pub use Rattle.bench_report.proofs.LongInput.{long_refused}
-- the text of an input stands at the front of a buffer that is long enough
pub use Rattle.bench_report.proofs.OneOutcome.{text_at_front}
-- trying an input: two outcomes that meet the contract are equal, answer and store
pub use Rattle.bench_trial.proofs.OneOutcome.{tried_one}
-- sheets as text: an accepted sheet is one that a text of the grammar can stand for
pub use Rattle.text_form.proofs.GoodSheet.{good_tree_of_accepted}
-- the inputs, queues, variables and operators that its text stands for are its own
pub use Rattle.text_form.proofs.Above.{sheet_of_tree}
-- what is printed of an accepted sheet is read as that sheet
pub use Rattle.text_form.proofs.RoundTrip.{read_of_sheet_text}
-- what is printed of a text that was read is the one form of that text, and its sheet passes the check
pub use Rattle.text_form.proofs.RoundTrip.{one_form_of_read}
-- printed, read and printed again are the same bytes; read, printed and read again the same answer and sheet
pub use Rattle.text_form.proofs.RoundTrip.{print_again, read_again}
-- texts that differ in their blanks alone are read alike
pub use Rattle.text_form.proofs.RoundTrip.{blanks_free}
-- two texts that are read as the same sheet are printed alike
pub use Rattle.text_form.proofs.RoundTrip.{same_sheet_same_text}
-- and they differ in their blanks alone: both stand for one tree
pub use Rattle.text_form.proofs.RoundTrip.{same_sheet_same_tree}
-- a text of the grammar is never refused as outside it
pub use Rattle.text_form.proofs.Outside.{text_never_outside}
-- 19 at a byte: what stands before it can be carried on to a text of the grammar, with it nothing can; or at the length of the beginning of a text
pub use Rattle.text_form.proofs.Outside.{outside_exact}
-- and wherever that is so, 19 is given there: at the byte, and at the length
pub use Rattle.text_form.proofs.Outside.{outside_where_dead, outside_where_cut}
-- nothing behind the refused byte changes the refusal
pub use Rattle.text_form.proofs.Outside.{outside_by_front}
-- the refusals of reading a text are 19 at a byte, and 3 to 7 at a record
pub use Rattle.text_form.proofs.Refusals.{read_refusal_numbers}
-- the byte at which the output list begins, and that at which the input list does
pub use Rattle.text_form.proofs.Lists.{outputs_begin, inputs_begin}
-- a text of the grammar gets its sheet's refusal, then 19 where the first list begins that is not the sheet's own, and else is read
pub use Rattle.text_form.proofs.Lists.{text_answer}
-- the table of the paper's cases, every row computed
pub use Rattle.cases.proofs.Cases.{cases}
-- a sheet's three forms are one sheet: printed and read back, read and printed, and its bytes and its text are both read as it
pub use Rattle.text.proofs.Theorems.{read_of_printed, print_of_read, three_forms}
-- reading a text and printing a sheet have one outcome for every input
pub use Rattle.text_read.proofs.OneOutcome.{read_text_one}
pub use Rattle.text_print.proofs.OneOutcome.{print_one}
-- the tables of texts: what is printed of a sheet, and what is read of a text
pub use Rattle.cases.proofs.Cases.{print_cases, text_cases}
-- the table of steps: the code's table is the paper's, row by row
pub use Rattle.sheet_step.proofs.Rows.{table_right}
-- its column of arities says how many places a function takes
pub use Rattle.sheet_step.proofs.Rows.{arity_counts_places}
-- of the five functions split takes Add and Copy, reorder Keep, Add and Copy
pub use Rattle.cases.proofs.Facts.{split_takes, reorder_takes}
-- sheet A passes the check, is calm, is a sheet that the program can hold, takes 44 bytes, and is read back from where it is written
pub use Rattle.cases.proofs.Facts.{sheet_a_accepted, sheet_a_calm, sheet_a_held, sheet_a_size, sheet_a_again}
