-- `try_operator` meets its contract: each return is the one case of `fire_op` that the tests before it leave.
-- Assumes nothing.
use mathlib.Core.Path.{◌≡◌, sym, ap, ◌∙◌, subst}
use mathlib.Core.Bool.{true, false}
use Prim.Native.Nat.{ℕ, ◌<◌}
use native.Mathlib.Omega.{arith}
use lib.ListN.{length, get_or}
use borrow.Author.Rules.{rules}
use Rattle.sheet_operator.specs.Memory.{view}
use Rattle.run_store.specs.Store.{part, first_of}
use Rattle.base_bounds.specs.Bounds.{QUEUES}
use Rattle.run_store.specs.declared.Item.{Item}
use Rattle.run_effect.specs.Effect.{Result, effect, waits, result_of}
use Rattle.run_effect.proofs.EffectLaws.{effect_puts_below}
use Rattle.run_machine.proofs.Putting.{below_all}
use Rattle.run_machine.proofs.Trying.{attempt_refused, fire_empty, fire_waits, fire_full, attempt_done}
use Rattle.run_machine.proofs.try_operator.Goals as goal
use Rattle.run_machine.proofs.try_operator.Goals.{After-act-e, Else-counts-i-eq0, Else-has_to_wait, Start}

module _ (d : Start) where
  many : length d.args.state.counts ≡ QUEUES
  many = search rules

some : (n : ℕ) → (n ≡ 0 → ⊥) → 0 < n
some n h = omega arith

-- what each test leaves where it fails, and what `act` says of the first item
module _ (c : Else-counts-i-eq0) where
  there : 0 < get_or c.args.state.counts c.args.q 0
  there = some _ c.if-counts-i-eq0.false

module _ (c : Else-has_to_wait) where
  turn : waits (view c.args.o) c.args.q c.args.state.vars ≡ false
  turn = sym c.has_to_wait.ensures ∙ c.if-has_to_wait.false

module _ (c : After-act-e) where
  acts : result_of c.act-e.result ≡ effect (view c.args.o) (first_of (part c.args.store.now c.args.q)) c.args.state.vars
  acts = c.act-e.ensures ∙ ap (λ (x : Item). effect (view c.args.o) x c.args.state.vars) c.first-x.ensures

pub returns-then-counts-i-eq0 : goal.returns-then-counts-i-eq0
returns-then-counts-i-eq0 c = attempt_refused _ _ _ _ _ (fire_empty _ _ _ _ c.if-counts-i-eq0.true)

pub returns-then-has_to_wait : goal.returns-then-has_to_wait
returns-then-has_to_wait c =
    let a = c.args in
    let w = sym c.has_to_wait.ensures ∙ c.if-has_to_wait.true in
    attempt_refused _ _ _ _ _ (fire_waits a.o a.q a.state a.store.now (there (goal.at.returns-then-has_to_wait c).Else-counts-i-eq0) w)

pub no_room-requires : goal.no_room-requires
no_room-requires c =
    let a = c.args in
    let b = effect_puts_below (view a.o) (first_of (part a.store.now a.q)) a.state.vars QUEUES c.requires.cursor c.requires.below in
    subst (λ (r : Result). below_all r.puts ≡ true) (sym (acts (goal.at.no_room-requires c).After-act-e)) b

pub returns-then-no_room : goal.returns-then-no_room
returns-then-no_room c =
    let a = c.args in
    let f = sym c.no_room.ensures ∙ c.if-no_room.true in
    let at = goal.at.returns-then-no_room c in
    attempt_refused _ _ _ _ _
    (fire_full a.o a.q a.state a.store.now (there at.Else-counts-i-eq0) (turn at.Else-has_to_wait) (many at.Start) c.requires
    c.act-e.result (acts at.After-act-e) f)

pub returns : goal.returns
returns c =
    let a = c.args in
    let f = sym c.no_room.ensures ∙ c.if-no_room.false in
    let at = goal.at.returns c in
    attempt_done a.o a.q a.state a.store.now (there at.Else-counts-i-eq0) (turn at.Else-has_to_wait) (many at.Start) c.requires _
    (acts at.After-act-e) f
