-- Laws of the call that asks which operator reads a queue, on an accepted sheet: the table of readers answers it for any number.
-- Assumes nothing.
use mathlib.Core.Path.{◌≡◌, ap, ◌∙◌}
use mathlib.Core.Logic.{⊎_elim}
use Prim.Native.Nat.{ℕ, ◌<◌, ◌≤◌}
use native.Mathlib.Omega.{arith}
use lib.ListN.{length, get_or}
use borrow.Author.Tests.{lt-ltb, le-ltb}
use Rattle.base_lists.proofs.Build.{order}
use Rattle.sheet_operator.specs.Op.{double}
use Rattle.base_bounds.specs.Bounds.{OPERATORS}
use Rattle.sheet.specs.declared.Sheet.{Sheet}
use Rattle.sheet.specs.Answer.{accepted}
use Rattle.sheet.specs.Sheet.{view_sheet}
use Rattle.sheet.specs.Check.{check_of}
use Rattle.sheet.proofs.Accepted.{ranges_of_accepted}
use Rattle.sheet.proofs.Placed.{ops_many}
use Rattle.run_machine.specs.Readers.{reader_from, readers_of, reader_at, reader_of, ReaderCall}
use Rattle.run_machine.proofs.ReaderLaws.{reader_any, reader_below}
use Rattle.run_machine.proofs.Found.{reads_in_table}

-- a place that is past the last operator is answered as OPERATORS
place_of : (i : ℕ) → i ≤ OPERATORS → (reader_at i).place ≡ i
place_of i h =
    ⊎_elim (λ (l : i < OPERATORS). rw (lt-ltb i OPERATORS l))
    (λ (l : OPERATORS ≤ i). let e : OPERATORS ≡ i = omega arith in rw (le-ltb i OPERATORS l) e)
    (order i OPERATORS)

module _ (t : Sheet) (h : check_of t ≡ accepted) where
  pub few_operators : length (view_sheet t).ops ≤ OPERATORS
  few_operators = omega (arith, ops_many t, ranges_of_accepted t h)

  module _ (q : ℕ) where
    pub reader_by_table : get_or (readers_of (view_sheet t).ops) q OPERATORS ≡ reader_from (view_sheet t).ops 0 q
    reader_by_table = reader_any (view_sheet t).ops (double 0 0 0) (reads_in_table t h (double 0 0 0)) q

    pub reader_asked : reader_of t q ≡ reader_at (reader_from (view_sheet t).ops 0 q)
    unfolding reader_of
    reader_asked = rw h

    pub reader_place : (reader_of t q).place ≡ reader_from (view_sheet t).ops 0 q
    reader_place =
        ap (λ (c : ReaderCall). c.place) reader_asked
        ∙ place_of (reader_from (view_sheet t).ops 0 q) (reader_below (view_sheet t).ops 0 q (omega (arith, few_operators)))
