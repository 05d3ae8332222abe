-- `text_scan::here` meets its contract: the byte at the place is one of those or not.
-- Assumes nothing.
use mathlib.Core.Path.{◌∙◌, sym}
use native.Mathlib.Omega.{arith}
use Rattle.text_scan.proofs.Places.{contains_member, here_end, here_not, here_is}
use Rattle.text_scan.proofs.here.Goals as goal
use Rattle.text_scan.proofs.here.Goals.{then-s-at-via-then-s-at, then-s-at-via-else-s-at+then-not-contains}

pub returns-then-s-at : goal.returns-then-s-at
returns-then-s-at c =
    let a = c.args in
    elim c.then-s-at.branch [
      | then-s-at-via-then-s-at w ↦ record { within = c.requires; reads = here_end a.s.now a.ms.now a.at w.if-s-at.true }
      | then-s-at-via-else-s-at+then-not-contains w ↦
          record {
            within = c.requires;
            reads = here_not a.s.now a.ms.now a.at w.if-s-at.false (sym (contains_member _ a.ms.now) ∙ sym w.contains.ensures.value ∙ w.if-not-contains.true);
          }
    ]

pub returns : goal.returns
returns c =
    let a = c.args in
    record {
      within = omega (arith, c.if-s-at.false);
      reads = here_is a.s.now a.ms.now a.at c.if-s-at.false (sym (contains_member _ a.ms.now) ∙ sym c.contains.ensures.value ∙ c.if-not-contains.false);
    }
