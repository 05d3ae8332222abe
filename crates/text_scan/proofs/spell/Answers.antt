-- `text_scan::spell` meets its contract. The loop's invariant: what is left of the word gives, from here, what the word gives.
-- Assumes nothing.
use mathlib.Core.Path.{◌≡◌, ◌∙◌, sym, ap}
use mathlib.Core.List.{List, [], ◌∷◌}
use borrow.Author.Rules.{rules}
use Prim.Native.Nat.{ℕ, ◌+◌, ◌<◌}
use lib.ListN.{length, drop, get_or}
use Rattle.std.specs.Prelude.{Err}
use Rattle.text_scan.specs.Reader.{Res, bind, here, spell}
use Rattle.text_scan.proofs.Places.{one_more, no_more}
use Rattle.text_scan.proofs.spell.Goals as goal

-- the word from its byte i on: that byte, and the rest of the word
from : (w t : List ℕ) (i : ℕ) → i < length w → bind (here (get_or w i 0 ∷ []) t) (λ (b : ℕ). spell (drop (i + 1) w)) ≡ spell (drop i w) t
unfolding spell
from w t i h = sym (ap (λ (l : List ℕ). spell l t) (one_more w i h))

pub returns-in_err-end : goal.returns-in_err-end
returns-in_err-end c =
    let a = c.args in
    let l = c.loop-b in
    let g = c.in_err-end.ensures in
    let e : c.from_residual.result ≡ Err c.in_err-end.field-0.0 = search rules in
    rw e (record {
      within = g.within;
      reads = ap (λ (x : Res ℕ). bind x (λ (b : ℕ). spell (drop (l.b-index + 1) a.w.now))) g.reads
          ∙ from a.w.now (drop l.end a.s.now) l.b-index c.loop-b-test.true ∙ l.invariant.1;
    })

pub loop-b-preserved : goal.loop-b-preserved
loop-b-preserved c =
    let a = c.args in
    let l = c.loop-b in
    let g = c.in_ok-end.ensures in (
      g.within,
      ap (λ (x : Res ℕ). bind x (λ (b : ℕ). spell (drop (l.b-index + 1) a.w.now))) g.reads
          ∙ from a.w.now (drop l.end a.s.now) l.b-index c.loop-b-test.true ∙ l.invariant.1,
    )

pub returns : goal.returns
unfolding spell
returns c =
    let l = c.loop-b in
    record {
      within = l.invariant.0;
      reads = ap (λ (w : List ℕ). spell w (drop l.end c.args.s.now)) (sym (no_more c.args.w.now l.b-index c.loop-b-test.false)) ∙ l.invariant.1;
    }
