-- `rewrite_fuse::closed_up` meets its contract: the places hold what has come to them so far, each operator without the queue.
use mathlib.Core.Path.{◌≡◌, ap, ◌∙◌}
use Prim.Native.Nat.{ℕ, ◌-◌}
use native.Mathlib.Omega.{arith}
use lib.ListN.{get_or}
use Rattle.base_lists.specs.Lists.{pad}
use Rattle.base_lists.proofs.Pad.{pad_build_more}
use Rattle.sheet_operator.specs.Memory.{no_operator}
use Rattle.base_bounds.specs.Bounds.{OPERATORS}
use Rattle.sheet.specs.Sheet.{missing}
use Rattle.rewrite_fuse.specs.Working.{skip, lowered_in}
use Rattle.rewrite_fuse.proofs.Falling.{closed_end}
use Rattle.rewrite_fuse.proofs.closed_up.Invariants.{closed_to}
use Rattle.rewrite_fuse.proofs.closed_up.Goals as goal

pub loop-k-preserved : goal.loop-k-preserved
loop-k-preserved c =
    let a = c.args in (
      omega arith,
      rw (c.loop-k.invariant.1, c.lowered.ensures, c.skip.ensures)
          (pad_build_more OPERATORS c.loop-k.k no_operator (λ (i : ℕ). lowered_in a.m (get_or a.operators (skip a.j i) missing)) (omega arith)),
    )

pub returns : goal.returns
returns c =
    let a = c.args in
    let e : c.loop-k.k ≡ a.n - 1 = omega arith in
    c.loop-k.invariant.1 ∙ ap (closed_to a.j a.m a.operators) e
    ∙ ap (pad OPERATORS no_operator) (closed_end a.operators a.j a.m a.n c.requires.1 (omega arith))
