-- What each call answers and leaves, on any sheet, state and store: the sheet's own refusal, then 8, then 9 to 12; a refusal leaves all as it was.
use Rattle.std.specs.Prelude.{ℕ, cond, List, eqb, length, replicate, ℤ, pos}
use Rattle.std.specs.Int.Count.{ones, count_trailing_zeros}
use Rattle.sheet.specs.declared.Sheet.{Sheet}
use Rattle.sheet.specs.Answer.{Paper, accepted, refused, is_accepted}
use Rattle.sheet.specs.Sheet.{view_sheet}
use Rattle.sheet.specs.Check.{check_of}
use Rattle.base_bounds.specs.Bounds.{VARIABLES, FIELDS, QUEUES}
use Rattle.run_store.specs.Store.{STORE}
use Rattle.run_store.specs.declared.Item.{Item}
use Rattle.run_machine.specs.declared.State.{State}
use Rattle.run_machine.specs.Machine.{Outcome, refuse, done, fire_m, feed_m, Take, none, took, take_m, Ran, run_m}
use Rattle.run_machine.specs.Ready.{SET, ready_set}
use Rattle.run_machine.specs.Numbers.{decode, state_of, store_in, good}

-- the answer, and what state and store then hold
pub record Call : Type 0 where
  pub answer : Paper
  pub state : State
  pub store : List ℤ

abbrev pub unchanged : Paper → State → List ℤ → Call
unchanged p st s = record { answer = p; state = st; store = s }

abbrev pub saved : State → List ℤ → Outcome → Call
saved st s (refuse k) = unchanged (refused k) st s
saved st s (done m) = record { answer = accepted; state = state_of m; store = store_in m }

-- the sheet's own refusal, then 8
abbrev pub stands_of : Sheet → State → List ℤ → Paper
stands_of t st s = cond (is_accepted (check_of t)) (cond (good (view_sheet t) st s) accepted (refused 8)) (check_of t)

-- a call on sheet, state and store that stand, and then on any
abbrev pub fire_known : Sheet → State → List ℤ → ℕ → Call
fire_known t st s q = saved st s (fire_m (view_sheet t) (decode st s) q)

unfoldable pub fire_of : Sheet → State → List ℤ → ℕ → Call
fire_of t st s q = cond (is_accepted (stands_of t st s)) (fire_known t st s q) (unchanged (stands_of t st s) st s)

abbrev pub feed_known : Sheet → State → List ℤ → ℕ → Item → Call
feed_known t st s q x = saved st s (feed_m (view_sheet t) (decode st s) q x)

unfoldable pub feed_of : Sheet → State → List ℤ → ℕ → Item → Call
feed_of t st s q x = cond (is_accepted (stands_of t st s)) (feed_known t st s q x) (unchanged (stands_of t st s) st s)

-- a take also answers the item; on a refusal the zero item
pub record TakeCall : Type 0 where
  pub call : Call
  pub item : Item

abbrev pub no_item : Item
no_item = record { f = replicate FIELDS (pos 0) }

abbrev pub saved_take : State → List ℤ → Take → TakeCall
saved_take st s (none k) = record { call = unchanged (refused k) st s; item = no_item }
saved_take st s (took x m) = record { call = record { answer = accepted; state = state_of m; store = store_in m }; item = x }

abbrev pub take_known : Sheet → State → List ℤ → ℕ → TakeCall
take_known t st s q = saved_take st s (take_m (view_sheet t) (decode st s) q)

unfoldable pub take_of : Sheet → State → List ℤ → ℕ → TakeCall
take_of t st s q =
    cond (is_accepted (stands_of t st s)) (take_known t st s q) (record { call = unchanged (stands_of t st s) st s; item = no_item })

-- a run also answers how many fired and how many were skipped
pub record RunCall : Type 0 where
  pub call : Call
  pub fired : ℕ
  pub skipped : ℕ

abbrev pub saved_run : Ran → RunCall
saved_run r =
    record {
      call = record { answer = accepted; state = state_of r.machine; store = store_in r.machine };
      fired = r.fired;
      skipped = r.skipped;
    }

abbrev pub run_known : Sheet → State → List ℤ → List ℕ → RunCall
run_known t st s qs = saved_run (run_m (view_sheet t) qs (decode st s))

unfoldable pub run_of : Sheet → State → List ℤ → List ℕ → RunCall
run_of t st s qs =
    cond (is_accepted (stands_of t st s)) (run_known t st s qs) (record { call = unchanged (stands_of t st s) st s; fired = 0; skipped = 0 })

-- the ready set, how many are ready and the lowest; on a refusal the empty set
pub record ReadyCall : Type 0 where
  pub answer : Paper
  pub set : ℕ
  pub count : ℕ
  pub lowest : ℕ

abbrev pub ready_call : Paper → ℕ → ReadyCall
ready_call p n = record { answer = p; set = n; count = ones n; lowest = count_trailing_zeros SET n }

abbrev pub ready_known : Sheet → State → List ℤ → ℕ
ready_known t st s = ready_set (view_sheet t) (decode st s)

unfoldable pub ready_of : Sheet → State → List ℤ → ReadyCall
ready_of t st s = cond (is_accepted (stands_of t st s)) (ready_call accepted (ready_known t st s)) (ready_call (stands_of t st s) 0)

-- a fresh start takes no sheet: 8 for a wrong length, else zeros everywhere
abbrev pub fresh_state : State
fresh_state = record { counts = replicate QUEUES 0; vars = replicate VARIABLES (pos 0) }

unfoldable pub fresh_of : State → List ℤ → Call
fresh_of st s =
    cond (eqb (length s) STORE) (record { answer = accepted; state = fresh_state; store = replicate STORE (pos 0) }) (unchanged (refused 8) st s)
