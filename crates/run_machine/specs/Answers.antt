-- What the code of a call answers and leaves, against its call of Calls.antt.
use Rattle.std.specs.Prelude.{◌≡◌, List, ℤ, Result}
use Rattle.std.specs.Result.{result_unwrap_or}
use Rattle.std.specs.Int.Count.{count_trailing_zeros}
use Rattle.base_refusal.specs.declared.Refusal.{Refusal}
use Rattle.sheet.specs.Answer.{paper}
use Rattle.run_machine.specs.declared.ReadySet.{ReadySet}
use Rattle.run_machine.specs.declared.RunEnd.{RunEnd}
use Rattle.run_machine.specs.declared.State.{State}
use Rattle.run_machine.specs.declared.TakenItem.{TakenItem}
use Rattle.run_machine.specs.Ready.{SET}
use Rattle.run_machine.specs.Calls.{Call, TakeCall, RunCall, ReadyCall, no_item}

-- answer, state and store are the call's; on a refusal the state is the one before
pub record Answers (c : Call) (before : State) (r : Result State Refusal) (store : List ℤ) : Type 0 where
  pub answered : paper r ≡ c.answer
  pub stated : result_unwrap_or r before ≡ c.state
  pub stored : store ≡ c.store

-- the same with the item taken, with the counts of a run, and of the ready set; beside them what stands in their place on a refusal
abbrev pub no_take : State → TakenItem
no_take before = record { item = no_item; state = before }

pub record TakeAnswers (c : TakeCall) (before : State) (r : Result TakenItem Refusal) (store : List ℤ) : Type 0 where
  pub answered : paper r ≡ c.call.answer
  pub taken : (result_unwrap_or r (no_take before)).item ≡ c.item
  pub stated : (result_unwrap_or r (no_take before)).state ≡ c.call.state
  pub stored : store ≡ c.call.store

abbrev pub no_run : State → RunEnd
no_run before = record { fired = 0; skipped = 0; state = before }

pub record RunAnswers (c : RunCall) (before : State) (r : Result RunEnd Refusal) (store : List ℤ) : Type 0 where
  pub answered : paper r ≡ c.call.answer
  pub firings : (result_unwrap_or r (no_run before)).fired ≡ c.fired
  pub skips : (result_unwrap_or r (no_run before)).skipped ≡ c.skipped
  pub stated : (result_unwrap_or r (no_run before)).state ≡ c.call.state
  pub stored : store ≡ c.call.store

abbrev pub none_ready : ReadySet
none_ready = record { set = 0; count = 0; lowest = count_trailing_zeros SET 0 }

pub record ReadyAnswers (c : ReadyCall) (r : Result ReadySet Refusal) : Type 0 where
  pub answered : paper r ≡ c.answer
  pub bits : (result_unwrap_or r none_ready).set ≡ c.set
  pub many : (result_unwrap_or r none_ready).count ≡ c.count
  pub least : (result_unwrap_or r none_ready).lowest ≡ c.lowest
