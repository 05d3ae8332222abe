-- What it says that a record is not cut short: its header and its body lie within the bytes.
-- Assumes nothing.
use mathlib.Core.Path.{◌≡◌}
use mathlib.Core.Bool.{false}
use mathlib.Core.List.{List}
use Prim.Native.Nat.{ℕ, ◌+◌, ◌-◌, ◌≤◌}
use native.Mathlib.Omega.{arith}
use lib.Dec.{ltb}
use lib.ListN.{length, drop, length-drop}
use borrow.Author.Tests.{ltb-false}
use Rattle.base_lists.proofs.Tests.{neither}
use Rattle.base_number.specs.Number.{short_of}
use Rattle.sheet_format.specs.Record.{cut}

whole : (b : List ℕ) → cut b ≡ false → (4 ≤ length b) × (short_of b ≤ length b - 4)
unfolding cut
whole b h =
    let p = neither (ltb (length b) 4) (ltb (length b - 4) (short_of b)) h in
    (ltb-false _ _ p.0, ltb-false _ _ p.1)

pub whole_at : (s : List ℕ) (at : ℕ) → cut (drop at s) ≡ false → (at + 4 ≤ length s) × (at + 4 + short_of (drop at s) ≤ length s)
whole_at s at h = let p = simp length-drop at (whole (drop at s) h) in omega arith
