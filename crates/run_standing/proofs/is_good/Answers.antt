-- `run_standing::is_good` meets its contract: an accepted sheet's queues and variables lie in their arrays.
use Prim.Native.Nat.{◌≤◌}
use native.Mathlib.Omega.{arith}
use lib.ListN.{length}
use mathlib.Core.Path.{◌≡◌}
use borrow.Author.Rules.{rules}
use Rattle.sheet.proofs.Accepted.{ranges_of_accepted}
use Rattle.run_standing.proofs.is_good.Goals as goal
use Rattle.run_standing.proofs.is_good.Goals.{Start}

full : (c : Start) → length c.args.state.vars ≡ 16
full c = search rules

pub none_from-requires : goal.none_from-requires
none_from-requires c = omega (arith, ranges_of_accepted c.args.t c.requires)

pub zeros_from-requires : goal.zeros_from-requires
zeros_from-requires c = omega (arith, full (goal.at.zeros_from-requires c).Start, ranges_of_accepted c.args.t c.requires)
