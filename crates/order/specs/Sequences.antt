-- Firings and runs one after the other: what they leave is what one run of all their entries leaves; demand 3 and the one rest for such sequences.
use Rattle.std.specs.Prelude.{ℕ, ◌+◌, ◌≡◌, true, List, [], ◌∷◌, ◌++◌, ℤ}
use Rattle.base_lists.specs.Lists.{bit}
use Rattle.sheet.specs.declared.Sheet.{Sheet}
use Rattle.sheet.specs.Answer.{accepted, is_accepted}
use Rattle.run_machine.specs.declared.State.{State}
use Rattle.run_machine.specs.Calls.{Call, RunCall, ReadyCall, fire_of, run_of, ready_of}
use Rattle.order.specs.Order.{calm_sheet, Made, Feed, AllTaken, outputs}
use Rattle.order.specs.Demand.{Side, begun, filled, GoodFeeds, SameFeeds, variables_of}
use Rattle.order.specs.Firings.{Sized, GoodStart}

-- ---- what a sequence of calls leaves

-- the same state and store, whatever was answered
pub record LeavesAs (c d : Call) : Type 0 where
  pub state : c.state ≡ d.state
  pub store : c.store ≡ d.store

-- a call that fires: of one queue, or of each of a list
pub data Turn : Type 0 where
  firing : ℕ → Turn
  running : List ℕ → Turn

-- one call from where another has left state and store, how many fire in it, and the queue numbers that it is asked for
abbrev pub turned : Sheet → Call → Turn → Call
turned t c (firing q) = fire_of t c.state c.store q
turned t c (running l) = (run_of t c.state c.store l).call

abbrev pub fired_of : Sheet → Call → Turn → ℕ
fired_of t c (firing q) = bit (is_accepted (fire_of t c.state c.store q).answer)
fired_of t c (running l) = (run_of t c.state c.store l).fired

abbrev pub entries_of : Turn → List ℕ
entries_of (firing q) = q ∷ []
entries_of (running l) = l

-- the calls one after the other
abbrev pub called : Sheet → Call → List Turn → Call
called t c [] = c
called t c (x ∷ xs) = called t (turned t c x) xs

abbrev pub fired_in : Sheet → Call → List Turn → ℕ
fired_in t c [] = 0
fired_in t c (x ∷ xs) = fired_of t c x + fired_in t (turned t c x) xs

abbrev pub entries : List Turn → List ℕ
entries [] = []
entries (x ∷ xs) = entries_of x ++ entries xs

-- the ready set there
abbrev pub ready_on : Sheet → Call → ReadyCall
ready_on t c = ready_of t c.state c.store

-- ---- sequences are runs, on any sheet and store, refused ones too

-- a run and then a second one leave and answer what the whole does, and the counts add up
pub record Joined (first second whole : RunCall) : Type 0 where
  pub call : second.call ≡ whole.call
  pub fired : whole.fired ≡ first.fired + second.fired
  pub skipped : whole.skipped ≡ first.skipped + second.skipped

-- a run of l and then of l' is a run of both
abbrev pub RunsJoin : Type 0
RunsJoin =
    (t : Sheet) (st : State) (s : List ℤ) → Sized st → (l l' : List ℕ) →
    Joined (run_of t st s l) (run_of t (run_of t st s l).call.state (run_of t st s l).call.store l') (run_of t st s (l ++ l'))

-- a firing leaves what a run of its one entry leaves, which counts it as fired exactly if it is accepted
pub record OneEntry (t : Sheet) (st : State) (s : List ℤ) (q : ℕ) : Type 0 where
  pub left : LeavesAs (fire_of t st s q) (run_of t st s (q ∷ [])).call
  pub fired : bit (is_accepted (fire_of t st s q).answer) ≡ (run_of t st s (q ∷ [])).fired

abbrev pub FiringIsRun : Type 0
FiringIsRun = (t : Sheet) (st : State) (s : List ℤ) → Sized st → (q : ℕ) → OneEntry t st s q

-- a sequence of calls leaves what one run of all their entries leaves, and as many fire
pub record OneRun (t : Sheet) (c : Call) (xs : List Turn) : Type 0 where
  pub left : LeavesAs (called t c xs) (run_of t c.state c.store (entries xs)).call
  pub fired : fired_in t c xs ≡ (run_of t c.state c.store (entries xs)).fired

abbrev pub SequenceIsRun : Type 0
SequenceIsRun = (t : Sheet) (c : Call) → Sized c.state → (xs : List Turn) → OneRun t c xs

-- ---- demand 3 for sequences

-- one side: a sheet started fresh, fed, and then fired by a sequence of calls
pub record Course : Type 0 where
  pub sheet : Sheet
  pub state : State
  pub store : List ℤ
  pub feeds : List Feed
  pub calls : List Turn

-- the side of demand 3 that makes one run of all the entries
abbrev pub in_one_run : Course → Side
in_one_run x = record { sheet = x.sheet; state = x.state; store = x.store; feeds = x.feeds; firings = entries x.calls }

abbrev pub reached : Course → Call
reached x = called x.sheet (filled (in_one_run x)) x.calls

pub record GoodCourse (x : Course) : Type 0 where
  pub feeds : GoodFeeds (in_one_run x)
  pub rest : (ready_on x.sheet (reached x)).set ≡ 0

-- every call is made where sheet, state and store stand: a run is accepted, and a firing is accepted or refused with 9 to 12
abbrev pub AllStand : Sheet → Call → List Turn → Type 0
AllStand t c [] = Unit
AllStand t c (x ∷ xs) = GoodStart t c.state c.store × AllStand t (turned t c x) xs

-- what follows, as for one run
pub record CoursesAgree (x y : Course) : Type 0 where
  pub fed_first : AllTaken x.sheet (begun (in_one_run x)) x.feeds
  pub fed_second : AllTaken y.sheet (begun (in_one_run y)) y.feeds
  pub called_first : AllStand x.sheet (filled (in_one_run x)) x.calls
  pub called_second : AllStand y.sheet (filled (in_one_run y)) y.calls
  pub at_rest_first : (ready_on x.sheet (reached x)).answer ≡ accepted
  pub at_rest_second : (ready_on y.sheet (reached y)).answer ≡ accepted
  pub items : outputs y.sheet (reached y) ≡ outputs x.sheet (reached x)
  pub variables : variables_of x.sheet (reached y) ≡ variables_of x.sheet (reached x)

abbrev pub DemandThreeOfCalls : Type 0
DemandThreeOfCalls =
    (x y : Course) → calm_sheet x.sheet ≡ true → Made x.sheet y.sheet → GoodCourse x → GoodCourse y →
    SameFeeds (in_one_run x) (in_one_run y) → CoursesAgree x y

-- ---- the one rest for sequences

pub record OneEndOfCalls (t : Sheet) (c : Call) (xs ys : List Turn) : Type 0 where
  pub at_rest : (ready_on t (called t c xs)).answer ≡ accepted
  pub fired : fired_in t c xs ≡ fired_in t c ys
  pub left : LeavesAs (called t c xs) (called t c ys)

abbrev pub OneRestOfCalls : Type 0
OneRestOfCalls =
    (t : Sheet) (c : Call) (xs ys : List Turn) → calm_sheet t ≡ true → GoodStart t c.state c.store →
    (ready_on t (called t c xs)).set ≡ 0 → (ready_on t (called t c ys)).set ≡ 0 → OneEndOfCalls t c xs ys
