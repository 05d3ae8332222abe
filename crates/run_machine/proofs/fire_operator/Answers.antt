-- `fire_operator` meets its contract: 10 where the queue is empty, the refusal of the try, or the item taken and put as the effect says.
-- Assumes nothing.
use mathlib.Core.Path.{sym, subst}
use Rattle.std.specs.Prelude.{Err}
use Rattle.base_refusal.specs.declared.Refusal.{Refusal}
use Rattle.sheet_operator.specs.Memory.{view}
use Rattle.run_machine.specs.Machine.{fire_op}
use Rattle.run_machine.specs.Working.{state_with, lent, LentAnswers}
use Rattle.run_machine.proofs.Trying.{fire_empty, room_left, fired, refused_lent}
use borrow.Author.Rules.{rules}
use Rattle.run_machine.proofs.fire_operator.Goals as goal

pub returns-then-counts-i-eq0 : goal.returns-then-counts-i-eq0
returns-then-counts-i-eq0 c =
    let a = c.args in
    let l = lent a.counts.now a.vars.now a.store.now in
    subst (λ (r : Refusal). LentAnswers (λ m. fire_op (view a.o) m a.q) l (Err r) l) (sym c.into.ensures)
    (refused_lent _ _ _ (fire_empty _ a.q _ _ c.if-counts-i-eq0.true))

pub put_all-requires : goal.put_all-requires
put_all-requires c =
    let a = c.args in (
      search rules,
      room_left a.o a.q (state_with a.counts.now a.vars.now) a.store.now c.requires.0 c.requires.1 c.in_ok-e.e c.in_ok-e.ensures _ _ c.take_one.ensures,
    )

pub returns : goal.returns
returns c =
    let p = c.put_all in
    let a = c.args in
    fired a.o a.q (state_with a.counts.now a.vars.now) a.store.now c.requires.0 c.requires.1 c.in_ok-e.e c.in_ok-e.ensures
    _ p.new.counts p.new.store c.take_one.ensures p.ensures
