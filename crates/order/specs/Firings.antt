-- Orders of firings from one state: a calm sheet that comes to rest has fired equally often and holds the same, whatever the order was.
use Rattle.std.specs.Prelude.{ℕ, ◌≡◌, true, List, length, ℤ}
use Rattle.base_bounds.specs.Bounds.{VARIABLES, QUEUES}
use Rattle.sheet.specs.declared.Sheet.{Sheet}
use Rattle.sheet.specs.Answer.{accepted}
use Rattle.run_machine.specs.declared.State.{State}
use Rattle.run_machine.specs.Calls.{stands_of, ReadyCall, run_of, ready_of}
use Rattle.order.specs.Order.{calm_sheet}

-- the lengths of every state of the program
pub record Sized (st : State) : Type 0 where
  pub counts : length st.counts ≡ QUEUES
  pub vars : length st.vars ≡ VARIABLES

-- a state that refusal 8 lets pass, fresh or not
pub record GoodStart (t : Sheet) (st : State) (s : List ℤ) : Type 0 where
  pub size : Sized st
  pub stands : stands_of t st s ≡ accepted

-- what the ready set answers after a run
abbrev pub ready_after : Sheet → State → List ℤ → List ℕ → ReadyCall
ready_after t st s qs = ready_of t (run_of t st s qs).call.state (run_of t st s qs).call.store

-- the same number of firings, and the same answer, counts, variables and store; the ready set was not refused
pub record OneEnd (t : Sheet) (st : State) (s : List ℤ) (l l' : List ℕ) : Type 0 where
  pub at_rest : (ready_after t st s l).answer ≡ accepted
  pub fired : (run_of t st s l).fired ≡ (run_of t st s l').fired
  pub call : (run_of t st s l).call ≡ (run_of t st s l').call

abbrev pub OneRest : Type 0
OneRest =
    (t : Sheet) (st : State) (s : List ℤ) (l l' : List ℕ) → calm_sheet t ≡ true → GoodStart t st s →
    (ready_after t st s l).set ≡ 0 → (ready_after t st s l').set ≡ 0 → OneEnd t st s l l'

-- from any such state of an accepted sheet some list of queue numbers ends at rest
abbrev pub ReachesRest : Type 0
ReachesRest =
    (t : Sheet) (st : State) (s : List ℤ) → GoodStart t st s →
    (l : List ℕ) × ((ready_after t st s l).set ≡ 0) × ((ready_after t st s l).answer ≡ accepted)
