-- The part of queue q as the code lends it, from PART * q up to PART more, against the definitions of the part and of the store with another part.
-- Assumes nothing.
use mathlib.Core.Path.{◌≡◌}
use mathlib.Core.List.{List}
use Prim.Native.Nat.{ℕ, ◌+◌, ◌-◌, ◌*◌}
use native.Mathlib.Omega.{arith}
use lib.ListN.{take, drop}
use lib.IntN.{ℤ}
use borrow.Rule.Slice.PartMut.{put_mid}
use Rattle.run_store.specs.Store.{PART, part, with_part}

-- what is lent is the part
pub lent_part : (s : List ℤ) (q : ℕ) → take (PART * q + PART - PART * q) (drop (PART * q) s) ≡ part s q
unfolding part
lent_part s q =
    let e : PART * q + PART - PART * q ≡ PART = omega arith in
    rw e

-- what a leaf says of the part, said of the store
pub store_of_lent : (s : List ℤ) (q : ℕ) (f : List ℤ → List ℤ) (y : List ℤ) → y ≡ f (take (PART * q + PART - PART * q) (drop (PART * q) s)) →
    put_mid (PART * q) (PART * q + PART - PART * q) s y ≡ with_part s q (f (part s q))
unfolding part with_part
store_of_lent s q f y h =
    let e : PART * q + PART - PART * q ≡ PART = omega arith in
    rw (h, e)
