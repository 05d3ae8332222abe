-- One law for each return of the call that asks for the reader of a queue.
-- Assumes nothing.
use mathlib.Core.Path.{◌≡◌, refl, sym, ap, ◌∙◌}
use mathlib.Core.Bool.{false}
use mathlib.Core.List.{List}
use Prim.Native.Nat.{ℕ, ◌<◌, ◌≤◌}
use lib.ListN.{get_or}
use borrow.Author.Tests.{lt-ltb, le-ltb}
use Rattle.std.specs.Prelude.{Ok, Err, None}
use Rattle.base_bounds.specs.Bounds.{OPERATORS}
use Rattle.base_refusal.specs.declared.Reason.TheVariants.{WrongQueue}
use Rattle.base_refusal.specs.declared.Refusal.{Refusal}
use Rattle.base_refusal.specs.Refusal.{refusal}
use Rattle.sheet.specs.declared.Sheet.{Sheet}
use Rattle.sheet.specs.Answer.{accepted, refused_for, is_accepted}
use Rattle.sheet.specs.Sheet.{view_sheet}
use Rattle.sheet.specs.Check.{check_of}
use Rattle.sheet.proofs.AnswerLaws.{refusal_refuses}
use Rattle.run_machine.specs.Readers.{readers_of, reader_at, reader_of, ReaderAnswers}
use Rattle.run_machine.proofs.Asking.{reader_by_table, reader_asked}

module _ (t : Sheet) (q : ℕ) where
  -- i is the place that the table of an accepted sheet has
  module _ (h : check_of t ≡ accepted) (rs : List ℕ) (i : ℕ) (g : rs ≡ readers_of (view_sheet t).ops) (d : i ≡ get_or rs q OPERATORS) where
    by_place : reader_of t q ≡ reader_at i
    by_place =
        reader_asked t h q ∙ ap reader_at (sym (d ∙ ap (λ (u : List ℕ). get_or u q OPERATORS) g ∙ reader_by_table t h q))

    pub reader_found : i < OPERATORS → ReaderAnswers (reader_of t q) (Ok i)
    reader_found l = rw (by_place, lt-ltb i OPERATORS l) (record { answered = refl; placed = refl })

    pub reader_none : OPERATORS ≤ i → ReaderAnswers (reader_of t q) (Err (refusal WrongQueue None))
    reader_none l = rw (by_place, le-ltb i OPERATORS l) (record { answered = refl; placed = refl })

  pub reader_refuses : (e : Refusal) → refused_for e.reason e.spot ≡ check_of t → ReaderAnswers (reader_of t q) (Err e)
  unfolding reader_of
  reader_refuses e h =
      let f : is_accepted (check_of t) ≡ false = sym (ap is_accepted h) ∙ refusal_refuses e.reason e.spot in
      rw f (record { answered = h; placed = refl })
