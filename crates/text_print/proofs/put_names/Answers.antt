use native.Mathlib.Omega.{arith}
use mathlib.Core.Path.{refl}
use Prim.Native.Nat.{ℕ}
use lib.ListN.{get_or}
use Rattle.text_parts.proofs.Pieces.{putting_starts, putting_goes_on, putting_ends, within}
use Rattle.text_print.proofs.Naming.{names_more}
use Rattle.text_print.proofs.put_names.Goals as goal

pub loop-i-init : goal.loop-i-init
loop-i-init c = putting_starts refl

pub loop-i-preserved : goal.loop-i-preserved
loop-i-preserved c =
    putting_goes_on c.loop-i.invariant (omega arith) c.put_name-end.ensures (names_more c.loop-i.i (λ (k : ℕ). get_or c.args.n.queues k 0))

pub returns : goal.returns
returns c = within _ (omega arith) (putting_ends c.loop-i.invariant (omega arith))
