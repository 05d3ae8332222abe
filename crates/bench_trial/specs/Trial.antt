-- What one input of `bench` comes to: its first refusal in record order, or the sheet and where its run ended; and what that shows.
use Rattle.std.specs.Prelude.{ℕ, Bool, cond, List, [], map, eqb, leb, length, get_or, take, ℤ}
use Rattle.base_lists.specs.Lists.{build, chain}
use Rattle.base_bounds.specs.Bounds.{INPUT_BYTES}
use Rattle.sheet_operator.specs.Op.{Abstract}
use Rattle.sheet_judge.specs.Judge.{known, whole}
use Rattle.sheet.specs.Check.{Kept, stopped, kept, next_record}
use Rattle.codec_read.specs.Read.{front_of}
use Rattle.run_store.specs.declared.Item.{Item}
use Rattle.run_machine.specs.Machine.{Machine, is_output, Ran, run_m}
use Rattle.run_machine.specs.Ready.{ready_set}
use Rattle.bench_records.specs.Records.{Feeds, unfed, fed, start, feeds_from, Firings, unfired, firings, firings_from}

pub data Trial : Type 0 where
  refusal : (number spot : ℕ) → Trial
  ended : Abstract → Ran → Trial

-- ---- what an input comes to

-- firings are run only if all records are good
abbrev pub fired_trial : Abstract → Machine → Firings → Trial
fired_trial a m (unfired r k) = refusal r k
fired_trial a m (firings qs) = ended a (run_m a qs m)

abbrev pub fed_trial : Abstract → Feeds → Trial
fed_trial a (unfed r k) = refusal r k
fed_trial a (fed m k rest) = fired_trial a m (firings_from (length rest) k rest)

-- a queue that is never defined is 5 at record N+1, ahead of that record itself
abbrev pub kept_trial : Kept → Trial
kept_trial (stopped r k) = refusal r k
kept_trial (kept a rest) =
    cond (whole a.queues (known a)) (fed_trial a (feeds_from (length rest) a start (next_record a) rest)) (refusal 5 (next_record a))

-- over-long input is 18, before all else
unfoldable pub trial_of : List ℕ → Trial
trial_of s = cond (leb (length s) INPUT_BYTES) (kept_trial (front_of s)) (refusal 18 0)

-- ---- what a run's end shows

-- no queue is ready
abbrev pub at_rest : Abstract → Machine → Bool
at_rest a m = eqb (ready_set a m) 0

-- each output by number, each item oldest first: the queue and the item
unfoldable pub outputs_at : Abstract → Machine → ℕ → List (ℕ × Item)
outputs_at a m q = cond (is_output a q) (map (λ (x : Item). (q, x)) (get_or m.queues q [])) []

abbrev pub outputs_of : Abstract → Machine → List (ℕ × Item)
outputs_of a m = chain (outputs_at a m) (build a.queues (λ (q : ℕ). q))

abbrev pub variables_in : Abstract → Machine → List ℤ
variables_in a m = take a.variables m.vars
