use Prim.Native.Nat.{ℕ, ◌+◌}
use mathlib.Core.Path.{ap}
use Rattle.text_sheet.proofs.build.Goals as goal

pub returns : goal.returns
returns c =
    let a = c.args in
    ap (λ (q : ℕ). record { inputs = a.n.count; queues = q + 1; variables = a.variables; count = a.h.count; operators = a.h.operators })
    c.highest_in-queues.ensures
