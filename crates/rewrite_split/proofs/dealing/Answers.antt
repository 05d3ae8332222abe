-- `rewrite_split::dealing` meets its contract: its outs are the numbers in order.
use Prim.Native.Nat.{ℕ, ◌+◌}
use Rattle.base_lists.proofs.Build.{build_length}
use Rattle.rewrite_split.proofs.dealing.Goals as goal

pub returns : goal.returns
returns c = rw (c.numbers_from.ensures, build_length c.args.k (λ (j : ℕ). c.args.q + j))
