-- `text_scan::sign` meets its contract: blanks are passed, and then one byte is read.
-- Assumes nothing.
use mathlib.Core.Path.{◌∙◌, sym, ap}
use Rattle.text_scan.specs.Reader.{here}
use Rattle.text_scan.proofs.Places.{sign_after}
use Rattle.text_scan.proofs.sign.Goals as goal

pub returns : goal.returns
returns c =
    let a = c.args in
    record {
      within = c.here.ensures.within;
      reads = c.here.ensures.reads ∙ ap (here a.ms.now) c.skip.ensures.1 ∙ sym (sign_after a.ms.now _);
    }
