-- Demand 3: a calm sheet and a sheet made from it, fed the same and fired in any orders until nothing can fire, leave the same.
-- Assumes nothing.
use mathlib.Core.Path.{◌≡◌, sym, ap, ◌∙◌, subst, fun_ext}
use mathlib.Core.Bool.{true}
use mathlib.Core.List.{List, map}
use Prim.Native.Nat.{ℕ}
use native.Mathlib.Omega.{arith}
use lib.ListN.{get_or}
use lib.IntN.{ℤ, pos}
use Rattle.base_lists.proofs.Tests.{both}
use Rattle.sheet.specs.declared.Sheet.{Sheet}
use Rattle.sheet.specs.Answer.{accepted, is_accepted}
use Rattle.sheet.specs.Sheet.{view_sheet}
use Rattle.sheet.specs.Check.{check_of}
use Rattle.sheet.proofs.AnswerLaws.{accepted_of}
use Rattle.counts.specs.Calm.{is_calm}
use Rattle.run_machine.specs.Machine.{Machine, run_m}
use Rattle.run_machine.specs.Numbers.{GoodM}
use Rattle.run_machine.specs.Calls.{Call, ReadyCall, ready_of, run_of}
use Rattle.run_machine.proofs.Sound.{sound_of_accepted}
use Rattle.run_machine.proofs.Keeps.{run_keeps}
use Rattle.run_machine.proofs.FreshLaws.{fresh_machine}
use Rattle.order_theory.proofs.Model.{State}
use Rattle.order_theory.proofs.Runs.{Rest, exec}
use Rattle.order_theory.proofs.Orders.{fires}
use Rattle.order_theory.proofs.Equations.{Kind, Whole}
use Rattle.order_theory.proofs.Demand.{Counted}
use Rattle.order_theory.proofs.Final.{begin}
use Rattle.order.specs.Order.{calm_sheet, fed, AllTaken, given, outputs}
use Rattle.order.specs.Demand.{Side, begun, filled, ended, GoodFeeds, GoodSide, SameFeeds, variables_of, Agreed, DemandThree}
use Rattle.order.proofs.Model.{TItem, kinds_as, items_as, state_as}
use Rattle.order.proofs.Held.{held, run_held, ready_held, fresh_held}
use Rattle.order.proofs.FeedLink.{fed_all, fresh_feeds, fed_begins, given_none}
use Rattle.order.proofs.WorstLink.{counted, given_few, counts_hold}
use Rattle.order.proofs.OutputLink.{outputs_as, same_lists, same_take}
use Rattle.order.proofs.RunLink.{run_link, rest_link}
use Rattle.order.proofs.CalmLink.{calm_link_of}
use Rattle.order.proofs.MadeLink.{MadeAs, made_link}

-- ---- one side

abbrev kinds_in : Side → List Kind
kinds_in x = kinds_as (view_sheet x.sheet)

abbrev feed_of_side : Side → Whole
feed_of_side x q = items_as (given x.feeds q)

-- where the theory's machine comes to rest, from what it is fed
abbrev end_of : Side → Whole → State TItem ℤ
end_of x feed = exec (fires (kinds_in x)) x.firings (begin feed)

abbrev at_end : Side → Machine
at_end x = (run_m (view_sheet x.sheet) x.firings (fed_all fresh_machine x.feeds)).machine

pub checked : (t : Sheet) → calm_sheet t ≡ true → check_of t ≡ accepted
checked t c = accepted_of (check_of t) (both (is_accepted (check_of t)) (is_calm (view_sheet t)) c).0

-- after the feeds
pub record Fed (x : Side) : Type 0 where
  pub taken : AllTaken x.sheet (begun x) x.feeds
  pub left : filled x ≡ held (fed_all fresh_machine x.feeds)
  pub good : GoodM (view_sheet x.sheet) (fed_all fresh_machine x.feeds)

pub side_fed : (x : Side) → calm_sheet x.sheet ≡ true → GoodFeeds x → Fed x
side_fed x c g =
    let t = x.sheet in
    let h = checked t c in
    let start = fresh_held x.state x.store g.fresh in
    let f = fresh_feeds t h x.feeds g.inputs g.wide (given_few t h x.feeds g.inputs g.roomy) in
    record {
      taken = subst (λ (k : Call). AllTaken t k x.feeds) (sym start) f.taken;
      left = ap (λ (k : Call). fed t k x.feeds) start ∙ f.left;
      good = f.good;
    }

-- and after the run
record Done (x : Side) : Type 0 where
  pub fed : AllTaken x.sheet (begun x) x.feeds
  pub good : GoodM (view_sheet x.sheet) (at_end x)
  pub left : ended x ≡ held (at_end x)
  pub ready : (ready_of x.sheet (ended x).state (ended x).store).answer ≡ accepted
  pub state : state_as (at_end x) ≡ end_of x (feed_of_side x)
  pub rest : Rest (fires (kinds_in x)) (end_of x (feed_of_side x))
  pub W : ℕ → ℕ
  pub counts : Counted (kinds_in x) (feed_of_side x) W

side_done : (x : Side) → calm_sheet x.sheet ≡ true → GoodSide x → Done x
side_done x c g =
    let t = x.sheet in
    let a = view_sheet t in
    let h = checked t c in
    let s = sound_of_accepted t h in
    let u = g.feeds in
    let m = fed_all fresh_machine x.feeds in
    let f = side_fed x c u in
    let kept = run_keeps a s x.firings (record { fired = 0; skipped = 0; machine = m }) f.good in
    let end : ended x ≡ held (at_end x) =
    ap (λ (k : Call). (run_of t k.state k.store x.firings).call) f.left ∙ run_held t h m f.good x.firings in
    let said = ap (λ (k : Call). ready_of t k.state k.store) end ∙ ready_held t h (at_end x) kept in
    let shown = run_link a s x.firings m f.good
    ∙ ap (exec (fires (kinds_in x)) x.firings) (fed_begins t h x.feeds u.inputs) in
    record {
      fed = f.taken;
      good = kept;
      left = end;
      ready = ap (λ (r : ReadyCall). r.answer) said;
      state = shown;
      rest = subst (λ (u : State TItem ℤ). Rest (fires (kinds_in x)) u) shown
          (rest_link a s (at_end x) kept (sym (ap (λ (r : ReadyCall). r.set) said) ∙ g.rest));
      W = counted t h x.feeds u.inputs u.roomy;
      counts = counts_hold t h x.feeds u.inputs u.roomy (calm_link_of t c).acc;
    }

-- what a side leaves, as the theory sees it
outputs_of_lem : (x : Side) → calm_sheet x.sheet ≡ true → Done x →
    map items_as (outputs x.sheet (ended x)) ≡ Rattle.order_theory.proofs.Final.outputs x.sheet.queues (kinds_in x) (end_of x (feed_of_side x))
outputs_of_lem x c d =
    let t = x.sheet in
    ap (λ (k : Call). map items_as (outputs t k)) d.left ∙ outputs_as t (checked t c) (at_end x) d.good
    ∙ ap (Rattle.order_theory.proofs.Final.outputs t.queues (kinds_in x)) d.state

variable_of : (x : Side) → Done x → (k : ℕ) → get_or (at_end x).vars k (pos 0) ≡ (end_of x (feed_of_side x)).var k
variable_of x d k = ap (λ (u : State TItem ℤ). u.var k) d.state

-- ---- the two sides

agree : (x y : Side) → calm_sheet x.sheet ≡ true → MadeAs x.sheet y.sheet → GoodSide x → GoodSide y → SameFeeds x y → Agreed x y
agree x y c v gx gy same =
    let s = sound_of_accepted x.sheet (checked x.sheet c) in
    let dx = side_done x c gx in
    let dy = side_done y v.calm gy in
    let feed = feed_of_side x in
    let e : feed_of_side y ≡ feed = fun_ext (λ q. ap items_as (sym (same q))) in
    let r = Rattle.order_theory.proofs.Final.model_agrees (calm_link_of x.sheet c) v.made feed
    (λ q l. ap items_as (given_none x.sheet x.feeds gx.feeds.inputs q l)) dx.W dy.W dx.counts
    (subst (λ (f : Whole). Counted (kinds_in y) f dy.W) e dy.counts) x.firings y.firings dx.rest
    (subst (λ (f : Whole). Rest (fires (kinds_in y)) (end_of y f)) e dy.rest) in
    record {
      fed_first = dx.fed;
      fed_second = dy.fed;
      ran_first = ap (λ (k : Call). k.answer) dx.left;
      ran_second = ap (λ (k : Call). k.answer) dy.left;
      at_rest_first = dx.ready;
      at_rest_second = dy.ready;
      items = same_lists (outputs y.sheet (ended y)) (outputs x.sheet (ended x))
          (outputs_of_lem y v.calm dy
          ∙ ap (λ (f : Whole). Rattle.order_theory.proofs.Final.outputs y.sheet.queues (kinds_in y) (end_of y f)) e
          ∙ r.0 ∙ sym (outputs_of_lem x c dx));
      variables =
          ap (variables_of x.sheet) dy.left
          ∙ same_take x.sheet.variables (at_end y).vars (at_end x).vars
          (omega (arith, s.variables, dy.good.size)) (omega (arith, s.variables, dx.good.size))
          (λ k l. variable_of y dy k ∙ ap (λ (f : Whole). (end_of y f).var k) e ∙ r.1 k l ∙ sym (variable_of x dx k))
          ∙ sym (ap (variables_of x.sheet) dx.left);
    }

pub demand_3 : DemandThree
demand_3 x y c m = agree x y c (made_link x.sheet c m)
