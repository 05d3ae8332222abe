-- `rewrite_fuse::all_fallen` meets its contract: the places hold the numbers passed, each fallen.
use native.Mathlib.Omega.{arith}
use lib.ListN.{get_or}
use Prim.Native.Nat.{ℕ}
use Rattle.base_lists.proofs.Pad.{pad_build_more}
use Rattle.sheet_operator.specs.Memory.{PLACES}
use Rattle.rewrite_rules.specs.Rewrite.{fallen}
use Rattle.rewrite_fuse.proofs.all_fallen.Goals as goal

pub loop-k-preserved : goal.loop-k-preserved
loop-k-preserved c =
    (omega arith, rw (c.loop-k.invariant.1, c.fallen.ensures) (pad_build_more PLACES c.loop-k.k 0 (λ (j : ℕ). fallen c.args.m (get_or c.args.qs j 0)) (omega arith)))
