-- `run_calls::fire_known` meets its contract: the operator that the table of readers names fires.
-- Assumes nothing.
use mathlib.Core.Path.{◌≡◌, refl, sym}
use mathlib.Core.List.{List}
use lib.ListN.{length}
use lib.IntN.{ℤ}
use Rattle.std.specs.Prelude.{Err, IfSome}
use Rattle.base_bounds.specs.Bounds.{OPERATORS, QUEUES}
use Rattle.base_refusal.specs.declared.Refusal.{Refusal}
use borrow.Author.Rules.{rules}
use Rattle.sheet.specs.Answer.{refused_for}
use Rattle.sheet.specs.Sheet.{view_sheet}
use Rattle.sheet.proofs.AnswerLaws.{refusal_apart}
use Rattle.run_machine.specs.declared.State.{State}
use Rattle.run_machine.specs.Machine.{Machine, Outcome, refuse, done, fire_m}
use Rattle.run_machine.specs.Numbers.{decode}
use Rattle.run_machine.specs.Calls.{saved}
use Rattle.run_machine.specs.Answers.{Answers}
use Rattle.run_machine.specs.Working.{CanFire, fire_reader}
use Rattle.run_machine.proofs.Found.{fire_as_found, can_fire_as_found}
use Rattle.run_calls.proofs.fire_known.Goals as goal
use Rattle.run_calls.proofs.fire_known.Goals.{After-copied-reader}

-- the reader that is found can fire, and firing it is firing
module _ (d : After-copied-reader) where
  many : length d.args.state.counts ≡ QUEUES
  many = search rules

  full : length d.args.t.operators ≡ OPERATORS
  full = search rules

  can_fire : IfSome d.copied-reader.result (λ o. CanFire o d.args.q d.args.state d.args.store.now)
  can_fire =
      can_fire_as_found d.args.t full d.args.q d.reader_at-i.result d.readers-rs.result d.readers-rs.ensures d.reader_at-i.ensures
      d.get.result d.get.ensures.lookup d.copied-reader.result d.copied-reader.ensures d.args.state d.args.store.now d.requires

  fires : (m : Machine) → fire_reader d.copied-reader.result m d.args.q ≡ fire_m (view_sheet d.args.t) m d.args.q
  fires =
      fire_as_found d.args.t full d.args.q d.reader_at-i.result d.readers-rs.result d.readers-rs.ensures d.reader_at-i.ensures
      d.get.result d.get.ensures.lookup d.copied-reader.result d.copied-reader.ensures d.requires.sheet

-- a refused firing leaves the state as it was
refused_fire : (st : State) (s v : List ℤ) (o : Outcome) (e : Refusal) → refused_for e.reason e.spot ≡ (saved st s o).answer → v ≡ (saved st s o).store →
    Answers (saved st s o) st (Err e) v
refused_fire st s v (refuse k) e a d = record { answered = a; stated = refl; stored = d }
refused_fire st s v (done m) e a d = absurd (refusal_apart e.reason e.spot (sym a))

pub fire_reader-requires : goal.fire_reader-requires
fire_reader-requires c = let d = (goal.at.fire_reader-requires c).After-copied-reader in (many d, can_fire d)

pub returns-in_err-fire_reader : goal.returns-in_err-fire_reader
returns-in_err-fire_reader c =
    let e : c.from_residual.result ≡ Err c.in_err-fire_reader.field-0.0 = search rules in
    let k = c.in_err-fire_reader.ensures in
    let f = fires (goal.at.returns-in_err-fire_reader c).After-copied-reader (decode c.args.state c.args.store.now) in
    rw (e, ← f) (refused_fire c.args.state c.args.store.now c.fire_reader.new.store _ c.in_err-fire_reader.field-0.0 k.answered k.stored)

pub returns : goal.returns
returns c =
    let k = c.in_ok-fire_reader.ensures in
    let f = fires (goal.at.returns c).After-copied-reader (decode c.args.state c.args.store.now) in
    rw (← f) (record { answered = k.answered; stated = k.stated; stored = k.stored })
