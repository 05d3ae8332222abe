-- `sheet_sets::flag` meets its contract: past the flags nothing is in the set.
use mathlib.Core.Path.{sym}
use mathlib.Core.Bool.{false}
use native.Mathlib.Omega.{arith}
use Prim.Native.Nat.{◌≤◌}
use lib.ListN.{length, get_or-eq_default}
use Rattle.sheet_sets.proofs.flag.Goals as goal

pub returns : goal.returns
returns c =
    let h : length c.args.s ≤ c.args.k = omega arith in
    sym (get_or-eq_default c.args.s false h)
