-- Demand 3 in the product's own terms: what is assumed of the two sheets, the feeds and the lists of firings, and what follows.
use Rattle.std.specs.Prelude.{ℕ, ◌≡◌, true, List, take, ℤ}
use Rattle.sheet.specs.declared.Sheet.{Sheet}
use Rattle.sheet.specs.Answer.{accepted}
use Rattle.run_machine.specs.declared.State.{State}
use Rattle.run_machine.specs.Calls.{Call, fresh_of, run_of, ready_of}
use Rattle.order.specs.Order.{calm_sheet, Made, Feed, fed, AllTaken, given, to_inputs, wide_feeds, roomy, outputs}

-- one side of the comparison: a sheet started fresh (whatever state and store held), fed, and fired from a list of queue numbers
pub record Side : Type 0 where
  pub sheet : Sheet
  pub state : State
  pub store : List ℤ
  pub feeds : List Feed
  pub firings : List ℕ

abbrev pub begun : Side → Call
begun x = fresh_of x.state x.store

abbrev pub filled : Side → Call
filled x = fed x.sheet (begun x) x.feeds

abbrev pub ended : Side → Call
ended x = (run_of x.sheet (filled x).state (filled x).store x.firings).call

-- what is asked of each side: a fresh start, items for inputs and worst counts of at most 64
pub record GoodFeeds (x : Side) : Type 0 where
  pub fresh : (begun x).answer ≡ accepted
  pub wide : wide_feeds x.feeds ≡ true
  pub inputs : to_inputs x.sheet x.feeds ≡ true
  pub roomy : roomy x.sheet x.feeds ≡ true

-- and firings until nothing can fire
pub record GoodSide (x : Side) : Type 0 where
  pub feeds : GoodFeeds x
  pub rest : (ready_of x.sheet (ended x).state (ended x).store).set ≡ 0

-- the same items in the same order for each input
abbrev pub SameFeeds : Side → Side → Type 0
SameFeeds x y = (q : ℕ) → given x.feeds q ≡ given y.feeds q

-- the variables of the first sheet
abbrev pub variables_of : Sheet → Call → List ℤ
variables_of t c = take t.variables c.state.vars

-- what follows: every feed, both runs and both ready sets were accepted, and outputs and variables are the same
pub record Agreed (x y : Side) : Type 0 where
  pub fed_first : AllTaken x.sheet (begun x) x.feeds
  pub fed_second : AllTaken y.sheet (begun y) y.feeds
  pub ran_first : (ended x).answer ≡ accepted
  pub ran_second : (ended y).answer ≡ accepted
  pub at_rest_first : (ready_of x.sheet (ended x).state (ended x).store).answer ≡ accepted
  pub at_rest_second : (ready_of y.sheet (ended y).state (ended y).store).answer ≡ accepted
  pub items : outputs y.sheet (ended y) ≡ outputs x.sheet (ended x)
  pub variables : variables_of x.sheet (ended y) ≡ variables_of x.sheet (ended x)

-- s a calm sheet, t made from it: any two sides of s and t that are fed the same agree
abbrev pub DemandThree : Type 0
DemandThree =
    (x y : Side) → calm_sheet x.sheet ≡ true → Made x.sheet y.sheet → GoodSide x → GoodSide y → SameFeeds x y → Agreed x y
