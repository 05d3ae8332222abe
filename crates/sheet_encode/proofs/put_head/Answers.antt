-- `sheet_encode::put_head` meets its contract: the stores in order are those of the head's bytes.
use mathlib.Core.Path.{◌≡◌}
use mathlib.Core.List.{List}
use Prim.Native.Nat.{ℕ}
use native.Mathlib.Omega.{arith}
use lib.ListN.{set, length-set}
use lib.Seq.{sets}
use Rattle.base_number.specs.Number.{short_bytes}
use Rattle.sheet_format.specs.Record.{record_bytes}
use Rattle.sheet_format.specs.Head.{head_bytes}
use Rattle.sheet_encode.proofs.put_head.Goals as goal

whole : (s a b : List ℕ) (i q v n : ℕ) → a ≡ sets s 0 (short_bytes 4) → b ≡ sets a 2 (short_bytes 1) →
    set (set (set (set b 4 i) 5 q) 6 v) 7 n ≡ sets s 0 (head_bytes i q v n)
unfolding record_bytes short_bytes
whole s a b i q v n e f = rw (f, e)

pub bounds-s-5 : goal.bounds-s-5
bounds-s-5 c = simp length-set (omega arith)

pub bounds-s-6 : goal.bounds-s-6
bounds-s-6 c = simp length-set (omega arith)

pub bounds-s-7 : goal.bounds-s-7
bounds-s-7 c = simp length-set (omega arith)

pub shape_of-s : goal.shape_of-s
shape_of-s c = simp length-set (omega arith)

pub returns : goal.returns
returns c =
    whole c.args.s.now _ _ _ _ _ _ c.put_short.ensures c.put_short-2.ensures
