-- `run_ready::ready_known` meets its contract: the loop keeps that the set has the bits of the queues from q on.
-- Assumes nothing.
use mathlib.Core.Path.{◌≡◌, ap, ◌∙◌}
use mathlib.Core.Bool.{Bool}
use Prim.Native.Nat.{ℕ, ◌-◌, ◌*◌, ◌^◌, ◌<◌}
use native.Mathlib.Omega.{arith}
use borrow.Author.Rules.{rules}
use Rattle.base_lists.specs.Lists.{bit}
use Rattle.sheet.specs.Sheet.{view_sheet}
use Rattle.run_machine.specs.Machine.{Outcome}
use Rattle.run_machine.specs.Numbers.{decode}
use Rattle.run_machine.specs.Ready.{SET, accepts, ready_at}
use Rattle.run_machine.proofs.Found.{fire_as_found, can_fire_as_found}
use Rattle.run_ready.proofs.Readies.{ready_past, ready_turn, ready_fits, ready_all}
use Rattle.run_ready.proofs.ready_known.Goals as goal
use Rattle.run_ready.proofs.ready_known.Goals.{After-ready_bit-b}

module _ (c : After-ready_bit-b) where
  abbrev is_ready : ℕ → Bool
  is_ready = ready_at (view_sheet c.args.t) (decode c.args.state c.args.store.now)

  -- the bit that a turn adds is its queue's, and there is room for it
  added : c.ready_bit-b.result ≡ bit (is_ready (c.loop-q.q - 1))
  added =
      let i = c.reader_at-i in
      let rs = c.readers-rs in
      c.ready_bit-b.ensures.0
      ∙ ap (λ (o : Outcome). bit (accepts o))
      (fire_as_found c.args.t (search rules) (c.loop-q.q - 1) i.result rs.result rs.ensures i.ensures c.get.result c.get.ensures.lookup
      c.copied-reader.result c.copied-reader.ensures c.requires.sheet _)

  room : 2 * c.loop-q.set < 2 ^ SET
  room = ready_fits is_ready c.loop-q.q c.loop-q.set (omega arith) (omega arith) c.loop-q.invariant.1

pub loop-q-init : goal.loop-q-init
loop-q-init c = (omega arith, ready_past c.args.t c.requires.sheet _)

pub ready_bit-b-requires : goal.ready_bit-b-requires
ready_bit-b-requires c =
    let i = c.reader_at-i in
    let rs = c.readers-rs in
    can_fire_as_found c.args.t (search rules) (c.loop-q.q - 1) i.result rs.result rs.ensures i.ensures c.get.result c.get.ensures.lookup
    c.copied-reader.result c.copied-reader.ensures c.args.state c.args.store.now c.requires

pub overflow_mul-set : goal.overflow_mul-set
overflow_mul-set c = omega (arith, room (goal.at.overflow_mul-set c).After-ready_bit-b)

pub overflow_add-set : goal.overflow_add-set
overflow_add-set c = omega (arith, room (goal.at.overflow_add-set c).After-ready_bit-b)

pub loop-q-preserved : goal.loop-q-preserved
loop-q-preserved c =
    let l = c.loop-q in
    let d = (goal.at.loop-q-preserved c).After-ready_bit-b in
    (omega arith, ready_turn (is_ready d) l.q l.set (omega arith) (omega arith) l.invariant.1 c.ready_bit-b.result (added d))

pub returns : goal.returns
returns c =
    let l = c.loop-q in
    ready_all c.args.t _ l.q l.set (omega arith) l.invariant.1
