-- `text_scan::digits` meets its contract. The loop's invariant: from here on the same is read as from the beginning.
-- Assumes nothing.
use mathlib.Core.Path.{◌≡◌, ap, ◌∙◌, sym}
use Prim.Native.Nat.{ℕ, ◌+◌, ◌*◌}
use native.Mathlib.Omega.{arith}
use lib.ListN.{length, drop, get_or}
use Rattle.text_scan.specs.Reader.{got, digits}
use Rattle.text_scan.proofs.Places.{digits_end, digits_stop, digits_go, goes_small}
use Rattle.text_scan.proofs.digits.Goals as goal

pub returns-then-not-goes_on : goal.returns-then-not-goes_on
returns-then-not-goes_on c =
    let a = c.args in (
      c.loop-at.invariant.0,
      digits_stop a.s.now a.top c.loop-at.n c.loop-at.at c.loop-at-test.true
          (sym c.goes_on.ensures ∙ c.if-not-goes_on.true)
          ∙ c.loop-at.invariant.2,
    )

pub loop-at-preserved : goal.loop-at-preserved
loop-at-preserved c =
    let a = c.args in
    let g = sym c.goes_on.ensures ∙ c.if-not-goes_on.false in (
      omega arith,
      omega (arith, c.ranges.top.fits, c.digit.ensures, goes_small a.top c.loop-at.n (get_or a.s.now c.loop-at.at 0) g),
      ap (λ (k : ℕ). digits a.top (10 * c.loop-at.n + k) (drop (c.loop-at.at + 1) a.s.now)) c.digit.ensures
          ∙ digits_go a.s.now a.top c.loop-at.n c.loop-at.at c.loop-at-test.true g
          ∙ c.loop-at.invariant.2,
    )

pub returns : goal.returns
returns c =
    let a = c.args in
    let l = c.loop-at in
    let e : l.at ≡ length a.s.now = omega arith in
    (omega arith, ap (λ (k : ℕ). got l.n (drop k a.s.now)) (sym e) ∙ digits_end a.s.now a.top l.n l.at c.loop-at-test.false ∙ l.invariant.2)
