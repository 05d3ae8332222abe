-- What `bench` prints of one input: a line for the refusal, or one for the counts, one for each item and one for each variable.
use Rattle.std.specs.Prelude.{◌≡◌, ℕ, Bool, cond, List, [], ◌++◌, ℤ, Result, Ok, Err}
use Rattle.std.specs.Option.{unwrap_or}
use Rattle.base_refusal.specs.declared.Refusal.{Refusal}
use Rattle.base_refusal.specs.Refusal.{number_of}
use Rattle.base_lists.specs.Lists.{chain}
use Rattle.sheet.specs.Sheet.{view_sheet}
use Rattle.bench_lines.specs.Lines.{item_line, queue_lines, variable_lines, refusal_line, counts_line}
use Rattle.run_store.specs.Store.{part}
use Rattle.run_store.specs.Queues.{items_of}
use Rattle.run_store.specs.declared.Item.{Item}
use Rattle.run_machine.specs.Numbers.{decode}
use Rattle.run_machine.specs.Working.{Stands}
use Rattle.bench_trial.specs.declared.Tried.{Tried}
use Rattle.bench_trial.specs.Trial.{Trial, refusal, ended, trial_of, at_rest, outputs_of, variables_in}

abbrev pub item_lines : List (ℕ × Item) → List ℕ
item_lines xs = chain (λ (x : ℕ × Item). item_line x.0 x.1.f) xs

unfoldable pub printed : Trial → List ℕ
printed (refusal number spot) = refusal_line number spot
printed (ended a r) =
    let m = r.machine in
    counts_line r.fired r.skipped (at_rest a m) ++ (item_lines (outputs_of a m) ++ variable_lines 0 (variables_in a m))

-- all that `bench` prints of an input
abbrev pub text_of : List ℕ → List ℕ
text_of s = printed (trial_of s)

-- ---- from the numbers that trying an input leaves

-- the lines of queue q, which holds n items, if it is an output
abbrev pub lines_if : Bool → ℕ → ℕ → List ℤ → List ℕ
lines_if output q n s = cond output (queue_lines q (items_of n (part s q))) []

-- the answer and the store as a trial: the items lie in the store
abbrev pub ended_in : Tried → List ℤ → Trial
ended_in r s = ended (view_sheet r.sheet) (record { fired = r.fired; skipped = r.skipped; machine = decode r.state s })

abbrev pub told : Result Tried Refusal → List ℤ → Trial
told (Ok r) s = ended_in r s
told (Err e) s = refusal (number_of e.reason) (unwrap_or e.spot 0)

-- sheet and numbers stand, and the rest is theirs
pub record Shown (r : Tried) (s : List ℤ) : Type 0 where
  pub stands : Stands r.sheet r.state s
  pub rest : r.rest ≡ at_rest (view_sheet r.sheet) (decode r.state s)
