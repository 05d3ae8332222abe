-- `base_words::put_integer` meets its contract: below 2^31 the bits are the number, and from there on a negative one's.
-- Assumes nothing.
use mathlib.Core.Path.{refl, ◌∙◌}
use native.Mathlib.Omega.{arith}
use lib.ListN.{length-set}
use Rattle.base_words.proofs.Putting.{puts_length, room_small, puts_small, room_large, puts_large}
use Rattle.base_words.proofs.put_integer.Goals as goal

pub put_natural-requires : goal.put_natural-requires
put_natural-requires c =
    room_small c.args.z c.bits-b.result c.ranges.z c.bits-b.ensures c.args.s.now c.args.at c.if-b-lt2147483648.true c.requires

pub returns-then-b-lt2147483648 : goal.returns-then-b-lt2147483648
returns-then-b-lt2147483648 c =
    puts_small c.args.z c.bits-b.result c.ranges.z c.bits-b.ensures c.args.s.now c.args.at
    c.if-b-lt2147483648.true c.put_natural.ensures

pub bounds-s-at : goal.bounds-s-at
bounds-s-at c =
    omega (
      arith,
      room_large c.args.z c.bits-b.result c.ranges.z c.bits-b.ensures c.args.s.now c.args.at
          c.if-b-lt2147483648.false c.requires,
    )

pub put_natural-requires-2 : goal.put_natural-requires-2
put_natural-requires-2 c =
    simp length-set
    (room_large c.args.z c.bits-b.result c.ranges.z c.bits-b.ensures c.args.s.now c.args.at c.if-b-lt2147483648.false
    c.requires)

pub shape_of-s : goal.shape_of-s
shape_of-s c = puts_length c.put_natural-2.ensures ∙ simp length-set refl

pub returns : goal.returns
returns c =
    puts_large c.args.z c.bits-b.result c.ranges.z c.bits-b.ensures c.args.s.now c.args.at
    c.if-b-lt2147483648.false c.put_natural-2.ensures
