-- What printing answers, by the check and the room: the text goes by a scratch array to the front of the buffer.
-- Assumes nothing.
use mathlib.Core.Path.{◌≡◌, ap, ◌∙◌}
use mathlib.Core.List.{List}
use Prim.Native.Nat.{ℕ, ◌-◌, ◌<◌, ◌≤◌}
use native.Mathlib.Nat.{zero-add, sub-zero}
use native.Mathlib.Omega.{arith}
use lib.ListN.{length, take, drop}
use lib.Seq.{sets, take_at}
use Rattle.base_lists.proofs.Sets.{sets_front}
use Rattle.base_words.specs.Text.{PutsText}
use Rattle.std.specs.Prelude.{Ok, Err, Some}
use Rattle.base_refusal.specs.declared.Reason.TheVariants.{TooShort}
use Rattle.base_refusal.specs.declared.Refusal.{Refusal}
use Rattle.base_refusal.specs.Refusal.{refusal}
use Rattle.sheet.specs.declared.Sheet.{Sheet}
use Rattle.sheet.specs.Answer.{accepted, refused_for}
use Rattle.sheet.specs.Sheet.{view_sheet}
use Rattle.sheet.specs.Check.{check_of}
use Rattle.codec_write.proofs.Writing.{wrote_refused, wrote_short, wrote_done}
use Rattle.text_form.specs.Form.{sheet_text}
use Rattle.text_print.specs.Print.{print_of, Prints}

pub prints_refused : (t : Sheet) (l : List ℕ) (e : Refusal) → refused_for e.reason e.spot ≡ check_of t → Prints t l l (Err e)
unfolding print_of
prints_refused t l e h = wrote_refused t (sheet_text (view_sheet t)) l e h

-- what was put at the front is what the front holds
front_of_lem : (text s u : List ℕ) (n : ℕ) → PutsText text s 0 u n → n ≤ length s → take (n - 0) (drop 0 u) ≡ text
front_of_lem text s u n p h =
    let e : length text ≡ n = omega (arith, p.past) in
    ap (λ (k : ℕ). take k u) (sub-zero n) ∙ ap (take n) (p.text ∙ sets_front text s (omega arith)) ∙ take_at text (drop (length text) s) n e

module _ (t : Sheet) (l s u : List ℕ) (n : ℕ) (h : check_of t ≡ accepted) (p : PutsText (sheet_text (view_sheet t)) s 0 u n) where
  size : n ≡ length (sheet_text (view_sheet t))
  size = p.past ∙ zero-add (length (sheet_text (view_sheet t)))

  pub prints_short : length l < n → Prints t l l (Err (refusal TooShort (Some 0)))
  unfolding print_of
  prints_short b = wrote_short t (sheet_text (view_sheet t)) l n h size b

  pub prints_done : (after : List ℕ) (end : ℕ) → n ≤ length s → n ≤ length l → PutsText (take (n - 0) (drop 0 u)) l 0 after end → Prints t l after (Ok n)
  unfolding print_of
  prints_done after end r b q =
      wrote_done t (sheet_text (view_sheet t)) l n after h size b (q.text ∙ ap (sets l 0) (front_of_lem (sheet_text (view_sheet t)) s u n p r))
