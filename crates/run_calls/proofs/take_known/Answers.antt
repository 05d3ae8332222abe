-- `run_calls::take_known` meets its contract: 9 where q is no output, 10 where it is empty, else its oldest item and what `take_one` leaves.
-- Assumes nothing.
use mathlib.Core.Path.{◌≡◌}
use Prim.Native.Nat.{◌<◌}
use native.Mathlib.Omega.{arith}
use lib.ListN.{length}
use borrow.Author.Rules.{rules}
use Rattle.base_bounds.specs.Bounds.{VARIABLES, QUEUES}
use Rattle.run_store.specs.Store.{STORE}
use Rattle.sheet.specs.Sheet.{view_sheet}
use Rattle.run_machine.proofs.Good.{tested_of_good}
use Rattle.run_calls.proofs.Taking.{output_queue, takes_no_output, takes_empty, takes_first}
use Rattle.run_calls.proofs.take_known.Goals as goal
use Rattle.run_calls.proofs.take_known.Goals.{Else-not-is_output, Start}

module _ (d : Start) where
  many : length d.args.state.counts ≡ QUEUES
  many = search rules

  wide : length d.args.state.vars ≡ VARIABLES
  wide = search rules

  whole : length d.args.store.now ≡ STORE
  whole = (tested_of_good (view_sheet d.args.t) d.args.state d.args.store.now d.requires.numbers).size

-- past the first test q is an output
module _ (c : Else-not-is_output) where
  below : c.args.q < QUEUES
  below = output_queue c.args.t c.requires.sheet c.args.q c.is_output.result c.is_output.ensures c.if-not-is_output.false

pub returns-then-not-is_output : goal.returns-then-not-is_output
returns-then-not-is_output c =
    let o = c.is_output in
    let a = c.args in
    rw c.into.ensures (takes_no_output a.t a.state a.store.now a.q o.result o.ensures c.if-not-is_output.true)

pub bounds-counts-i : goal.bounds-counts-i
bounds-counts-i c = below (goal.at.bounds-counts-i c).Else-not-is_output

pub returns-then-counts-i-eq0 : goal.returns-then-counts-i-eq0
returns-then-counts-i-eq0 c =
    let o = c.is_output in
    let a = c.args in
    rw c.into-then-counts-i-eq0.ensures
    (takes_empty a.t a.state a.store.now a.q o.result o.ensures c.if-not-is_output.false c.if-counts-i-eq0.true)

pub first-item-requires : goal.first-item-requires
first-item-requires c =
    let at = goal.at.first-item-requires c in
    omega (arith, whole at.Start, below at.Else-not-is_output)

pub take_one-requires : goal.take_one-requires
take_one-requires c =
    let at = goal.at.take_one-requires c in
    (whole at.Start, omega (arith, below at.Else-not-is_output), omega arith)

pub returns : goal.returns
returns c =
    let k = c.take_one in
    let f = c.first-item in
    let o = c.is_output in
    let d = (goal.at.returns c).Start in
    let a = c.args in
    takes_first a.t a.state a.store.now a.q c.requires (many d) (wide d) o.result o.ensures c.if-not-is_output.false
    (omega arith) f.result k.new.counts k.new.store f.ensures k.ensures
