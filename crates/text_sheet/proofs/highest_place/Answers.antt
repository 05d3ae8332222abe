use Prim.Native.Nat.{ℕ}
use mathlib.Core.Path.{◌∙◌, ap}
use Rattle.sheet_operator.specs.Memory.{PLACES, ways}
use Rattle.text_sheet.specs.Built.{highest_from}
use Rattle.text_sheet.proofs.highest_place.Goals as goal

pub returns : goal.returns
returns c =
    let o = c.args.o in
    c.highest.ensures ∙ ap (λ (k : ℕ). highest_from k (ways PLACES o.outs)) c.highest-h.ensures
