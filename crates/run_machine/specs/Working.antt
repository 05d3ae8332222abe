-- What the runner's inner functions ask and answer; the calls of Calls.antt are made of them.
use Rattle.std.specs.Prelude.{ℕ, ◌+◌, ◌-◌, ◌<◌, ◌≡◌, true, false, List, [], ◌∷◌, length, get_or, set, ltb, ℤ}
use Rattle.std.specs.Prelude as std
use Rattle.base_lists.specs.Lists.{all, fresh}
use Rattle.base_refusal.specs.declared.Reason.{Reason}
use Rattle.base_refusal.specs.declared.Refusal.{Refusal}
use Rattle.base_refusal.specs.Refusal.{number_or_zero}
use Rattle.sheet_operator.specs.Op.{Op, defines}
use Rattle.sheet_operator.specs.Memory.{view}
use Rattle.sheet_operator.specs.declared.Operator.{Operator}
use Rattle.sheet.specs.declared.Sheet.{Sheet}
use Rattle.sheet.specs.Answer.{accepted, paper}
use Rattle.sheet.specs.Sheet.{view_sheet}
use Rattle.sheet.specs.Check.{check_of}
use Rattle.run_store.specs.Store.{STORE, part, first_of, push_at, take_at}
use Rattle.base_bounds.specs.Bounds.{QUEUES, ROOM}
use Rattle.run_store.specs.declared.Item.{Item}
use Rattle.run_store.specs.Quiet.{quiet_from}
use Rattle.run_effect.specs.Able.{Able}
use Rattle.run_effect.specs.declared.Effect.{Effect}
use Rattle.run_effect.specs.Effect.{Result, sent, effect, cursor_good, result_of}
use Rattle.run_machine.specs.declared.State.{State}
use Rattle.run_machine.specs.Machine.{Machine, Outcome, refuse, done, fire_op}
use Rattle.run_machine.specs.Numbers.{decode, good}
use Rattle.run_machine.specs.Calls.{saved}

-- counts and store before they are read as queues: what the leaves leave
pub record Raw : Type 0 where
  pub counts : List ℕ
  pub store : List ℤ

abbrev pub raw : List ℕ → List ℤ → Raw
raw cs s = record { counts = cs; store = s }

abbrev pub put_raw : Raw → ℕ → Item → Raw
put_raw w q x = raw (set w.counts q (get_or w.counts q 0 + 1)) (push_at w.store q (get_or w.counts q 0) x)

abbrev pub take_raw : Raw → ℕ → Raw
take_raw w q = raw (set w.counts q (get_or w.counts q 0 - 1)) (take_at w.store q)

abbrev pub puts_raw : Raw → List ℕ → Item → Raw
puts_raw w [] x = w
puts_raw w (q ∷ to) x = puts_raw (put_raw w q x) to x

-- the state of counts and variables that are lent by themselves
abbrev pub state_with : List ℕ → List ℤ → State
state_with cs vs = record { counts = cs; vars = vs }

-- room for an item on each of the queues, one after the other
abbrev pub Room : List ℕ → List ℕ → Type 0
Room cs [] = Unit
Room cs (q ∷ to) = (q < QUEUES) × (get_or cs q 0 < ROOM) × Room (set cs q (get_or cs q 0 + 1)) to

-- the sheet is accepted and the numbers pass 8
pub record Stands (t : Sheet) (st : State) (s : List ℤ) : Type 0 where
  pub sheet : check_of t ≡ accepted
  pub numbers : good (view_sheet t) st s ≡ true

-- an operator that can fire from q in these numbers
pub record CanFire (o : Operator) (q : ℕ) (st : State) (s : List ℤ) : Type 0 where
  pub able : Able o
  pub cursor : cursor_good (view o) st.vars ≡ true
  pub queue : q < QUEUES
  pub below : all (λ (r : ℕ). ltb r QUEUES) (defines (view o)) ≡ true
  pub apart : fresh (λ (r : ℕ). false) (defines (view o)) ≡ true
  pub size : length s ≡ STORE
  pub quiet : quiet_from s 0 st.counts ≡ true

-- firing a queue's reader, 9 where it has none
abbrev pub fire_reader : std.Option Operator → Machine → ℕ → Outcome
fire_reader (std.Some o) m q = fire_op (view o) m q
fire_reader std.None m q = refuse 9

-- what the firing of an operator is lent, and the state in it
pub record Lent : Type 0 where
  pub counts : List ℕ
  pub vars : List ℤ
  pub store : List ℤ

abbrev pub lent : List ℕ → List ℤ → List ℤ → Lent
lent cs vs s = record { counts = cs; vars = vs; store = s }

abbrev pub state_in : Lent → State
state_in l = state_with l.counts l.vars

-- the answer and what is left in lent memory are those of a firing on the machine that was in it
pub record LentAnswers (f : Machine → Outcome) (before : Lent) (r : std.Result (Unit {0}) Refusal) (after : Lent) : Type 0 where
  pub answered : paper r ≡ (saved (state_in before) before.store (f (decode (state_in before) before.store))).answer
  pub stated : state_in after ≡ (saved (state_in before) before.store (f (decode (state_in before) before.store))).state
  pub stored : after.store ≡ (saved (state_in before) before.store (f (decode (state_in before) before.store))).store

-- the number of a refusal, 0 for none
abbrev pub refusal_of : Outcome → ℕ
refusal_of (refuse k) = k
refusal_of (done m) = 0

-- what trying an operator on an item would do; where it is refused nothing is put, and item and variables are as they were
abbrev pub tried_on : Outcome → Op → Item → List ℤ → Result
tried_on (refuse k) o x vs = sent [] x vs
tried_on (done m) o x vs = effect o x vs

-- what a try comes to, of an item and variables
abbrev pub attempted : std.Result Effect Reason → Item → List ℤ → Result
attempted (std.Ok e) x vs = result_of e
attempted (std.Err reason) x vs = sent [] x vs

-- what trying an operator answers: its refusal, and what the firing would do with the first item
pub record Attempts (o : Operator) (q : ℕ) (st : State) (s : List ℤ) (r : std.Result Effect Reason) : Type 0 where
  pub number : number_or_zero r ≡ refusal_of (fire_op (view o) (decode st s) q)
  pub result : attempted r (first_of (part s q)) st.vars ≡ tried_on (fire_op (view o) (decode st s) q) (view o) (first_of (part s q)) st.vars
