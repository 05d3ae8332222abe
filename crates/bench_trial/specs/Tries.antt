-- What trying an input answers and leaves in the lent store, and what its parts answer, against the definitions.
use Rattle.std.specs.Prelude.{◌≡◌, true, false, List, ℕ, ◌≤◌, length, drop, ℤ, Result}
use Rattle.std.specs.Result.{result_unwrap_or}
use Rattle.base_refusal.specs.declared.Refusal.{Refusal}
use Rattle.base_bounds.specs.Bounds.{INPUT_BYTES}
use Rattle.sheet.specs.declared.Sheet.{Sheet}
use Rattle.sheet.specs.Answer.{Paper, accepted, refused_at, paper}
use Rattle.sheet.specs.Sheet.{view_sheet, memory_sheet, no_sheet}
use Rattle.sheet.specs.Check.{check_of}
use Rattle.run_machine.specs.declared.State.{State}
use Rattle.run_machine.specs.Machine.{run_m}
use Rattle.run_machine.specs.Numbers.{decode, state_of, store_in}
use Rattle.run_machine.specs.Calls.{fresh_state}
use Rattle.run_machine.specs.Working.{Stands}
use Rattle.bench_records.specs.Records.{Feeds, start, all_fed, machine_in}
use Rattle.bench_records.specs.Looks.{feeds_after}
use Rattle.bench_trial.specs.declared.Tried.{Tried}
use Rattle.bench_trial.specs.Trial.{Trial, refusal, ended, fed_trial, at_rest}

-- ---- the whole

-- the answer: of a refused input its number and record
abbrev pub answer_of : Trial → Paper
answer_of (refusal number spot) = refused_at number spot
answer_of (ended a r) = accepted

-- what stands in the other places then: no firings, no sheet and a fresh state; else the counts, and where the run ended
abbrev pub none_tried : Tried
none_tried = record { fired = 0; skipped = 0; rest = false; sheet = no_sheet; state = fresh_state }

abbrev pub tried_of : Trial → Tried
tried_of (refusal number spot) = none_tried
tried_of (ended a r) =
    record {
      fired = r.fired;
      skipped = r.skipped;
      rest = at_rest a r.machine;
      sheet = memory_sheet a;
      state = state_of r.machine;
    }

-- the store: a refused input leaves it as it was
abbrev pub store_after : List ℤ → Trial → List ℤ
store_after s (refusal number spot) = s
store_after s (ended a r) = store_in r.machine

pub record Tries (f : Trial) (before : List ℤ) (r : Result Tried Refusal) (after : List ℤ) : Type 0 where
  pub answered : paper r ≡ answer_of f
  pub tried : result_unwrap_or r none_tried ≡ tried_of f
  pub stored : after ≡ store_after before f

-- ---- its parts

-- a sheet as it was read from the front of an input
pub record WholeFront (t : Sheet) (end : ℕ) (s : List ℕ) : Type 0 where
  pub sheet : check_of t ≡ accepted
  pub same : memory_sheet (view_sheet t) ≡ t
  pub inside : end ≤ length s
  pub short : length s ≤ INPUT_BYTES

-- what the bytes after a sheet come to
abbrev pub trial_after : Sheet → List ℕ → Trial
trial_after t rest = fed_trial (view_sheet t) (feeds_after t start rest)

-- what a list of firings comes to after the feeds
abbrev pub fired_after : Sheet → List ℕ → List ℕ → Trial
fired_after t rest qs = ended (view_sheet t) (run_m (view_sheet t) qs (machine_in (feeds_after t start rest)))

-- what feeding asks: numbers that stand, and feeds none of which is refused
pub record Feedable (t : Sheet) (st : State) (before : List ℤ) (s : List ℕ) (from : ℕ) : Type 0 where
  pub stands : Stands t st before
  pub inside : from ≤ length s
  pub all : all_fed (feeds_after t (decode st before) (drop from s)) ≡ true

-- what feeding leaves: the machine that the feeds f come to, in numbers that stand
pub record FeedsTo (f : Feeds) (t : Sheet) (st : State) (after : List ℤ) : Type 0 where
  pub machine : decode st after ≡ machine_in f
  pub stands : Stands t st after
