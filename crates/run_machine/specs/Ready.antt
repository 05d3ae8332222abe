-- The ready set: bit q is 1 exactly if firing q would be accepted.
use Rattle.std.specs.Prelude.{ℕ, zero, suc, ◌+◌, ◌*◌, Bool, true, false}
use Rattle.base_lists.specs.Lists.{bit}
use Rattle.sheet_operator.specs.Op.{Abstract}
use Rattle.run_machine.specs.Machine.{Machine, Outcome, refuse, done, fire_m}

abbrev pub accepts : Outcome → Bool
accepts (refuse k) = false
accepts (done m) = true

abbrev pub ready_at : Abstract → Machine → ℕ → Bool
ready_at a m q = accepts (fire_m a m q)

-- the bits f q, f (q + 1), .. of n queues, the first the lowest
abbrev pub bits_from : (ℕ → Bool) → ℕ → ℕ → ℕ
bits_from f q zero = 0
bits_from f q (suc n) = bit (f q) + 2 * bits_from f (suc q) n

-- a 32-bit number
abbrev pub SET : ℕ
SET = 32

unfoldable pub ready_set : Abstract → Machine → ℕ
ready_set a m = bits_from (ready_at a m) 0 SET
