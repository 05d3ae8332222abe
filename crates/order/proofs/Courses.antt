-- Demand 3 and the one rest for any sequences of firings and runs: each is one run of all its entries.
-- Assumes nothing.
use mathlib.Core.Path.{◌≡◌, sym, ap, ◌∙◌}
use mathlib.Core.Bool.{true}
use mathlib.Core.List.{List}
use Prim.Native.Nat.{ℕ}
use Rattle.sheet.specs.declared.Sheet.{Sheet}
use Rattle.run_machine.specs.Calls.{Call, ReadyCall, run_of}
use Rattle.run_machine.proofs.FreshLaws.{fresh_machine}
use Rattle.order.specs.Order.{calm_sheet, outputs}
use Rattle.order.specs.Demand.{filled, ended, GoodSide, variables_of}
use Rattle.order.specs.Sequences.{LeavesAs, called, entries, ready_on, Course, in_one_run, reached, GoodCourse, AllStand, DemandThreeOfCalls, OneRestOfCalls}
use Rattle.order.proofs.FeedLink.{fed_all}
use Rattle.order.proofs.MadeLink.{made_link}
use Rattle.order.proofs.DemandThree.{checked, side_fed, demand_3}
use Rattle.order.proofs.OneRest.{one_rest_of_calm}
use Rattle.order.proofs.Composed.{At, start_at, calls_stand, sequence_is_run}

-- what is asked of two calls that leave the same is the same
module _ (c d : Call) (e : LeavesAs c d) where
  same_ready : (t : Sheet) → ready_on t c ≡ ready_on t d
  same_ready t = rw (e.state, e.store)

  same_outputs : (t : Sheet) → outputs t c ≡ outputs t d
  same_outputs t = rw (e.state, e.store)

  same_variables : (t : Sheet) → variables_of t c ≡ variables_of t d
  same_variables t = rw e.state

-- ---- one course

record Coursed (x : Course) : Type 0 where
  left : LeavesAs (reached x) (ended (in_one_run x))
  stand : AllStand x.sheet (filled (in_one_run x)) x.calls
  side : GoodSide (in_one_run x)

coursed : (x : Course) → calm_sheet x.sheet ≡ true → GoodCourse x → Coursed x
coursed x c g =
    let t = x.sheet in
    let h = checked t c in
    let f = side_fed (in_one_run x) c g.feeds in
    let m = fed_all fresh_machine x.feeds in
    let at : At t (filled (in_one_run x)) m =
    record { state = ap (λ (k : Call). k.state) f.left; store = ap (λ (k : Call). k.store) f.left; good = f.good } in
    let start = start_at t h (filled (in_one_run x)) m at in
    let e = sequence_is_run t (filled (in_one_run x)) start.size x.calls in
    record {
      left = e.left;
      stand = calls_stand t h x.calls (filled (in_one_run x)) m at;
      side = record {
        feeds = g.feeds;
        rest = sym (ap (λ (r : ReadyCall). r.set) (same_ready (reached x) (ended (in_one_run x)) e.left t)) ∙ g.rest;
      };
    }

-- ---- two of them

pub demand_3_of_calls : DemandThreeOfCalls
demand_3_of_calls x y c m gx gy same =
    let dx = coursed x c gx in
    let dy = coursed y (made_link x.sheet c m).calm gy in
    let r = demand_3 (in_one_run x) (in_one_run y) c m dx.side dy.side same in
    let ex = dx.left in
    let ey = dy.left in
    let X = reached x in
    let Y = reached y in
    let X' = ended (in_one_run x) in
    let Y' = ended (in_one_run y) in
    record {
      fed_first = r.fed_first;
      fed_second = r.fed_second;
      called_first = dx.stand;
      called_second = dy.stand;
      at_rest_first = ap (λ (k : ReadyCall). k.answer) (same_ready X X' ex x.sheet) ∙ r.at_rest_first;
      at_rest_second = ap (λ (k : ReadyCall). k.answer) (same_ready Y Y' ey y.sheet) ∙ r.at_rest_second;
      items = same_outputs Y Y' ey y.sheet ∙ r.items ∙ sym (same_outputs X X' ex x.sheet);
      variables = same_variables Y Y' ey x.sheet ∙ r.variables ∙ sym (same_variables X X' ex x.sheet);
    }

-- ---- from one good state

pub one_rest_of_calls : OneRestOfCalls
one_rest_of_calls t c xs ys calm start z z' =
    let e = sequence_is_run t c start.size xs in
    let f = sequence_is_run t c start.size ys in
    let ran : List ℕ → Call = λ l. (run_of t c.state c.store l).call in
    let x = same_ready (called t c xs) (ran (entries xs)) e.left t in
    let y = same_ready (called t c ys) (ran (entries ys)) f.left t in
    let r = one_rest_of_calm t c.state c.store (entries xs) (entries ys) calm start
    (sym (ap (λ (k : ReadyCall). k.set) x) ∙ z) (sym (ap (λ (k : ReadyCall). k.set) y) ∙ z') in
    record {
      at_rest = ap (λ (k : ReadyCall). k.answer) x ∙ r.at_rest;
      fired = e.fired ∙ r.fired ∙ sym f.fired;
      left = record {
        state = e.left.state ∙ ap (λ (k : Call). k.state) r.call ∙ sym f.left.state;
        store = e.left.store ∙ ap (λ (k : Call). k.store) r.call ∙ sym f.left.store;
      };
    }
