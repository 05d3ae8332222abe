-- `sheet_decode::kind_of` meets its contract: each arm's number decides the tests of `kind_of`.
use Rattle.std.specs.Prelude.{◌≢◌}
use native.Mathlib.Omega.{arith}
use borrow.Author.Tests.{ne_eqb}
use Rattle.sheet_format.specs.Record.{kind_of}
use Rattle.sheet_decode.proofs.kind_of.Goals as goal

pub returns-in-2 : goal.returns-in-2
unfolding kind_of
returns-in-2 c = rw c.in-2.is

pub returns-in-3 : goal.returns-in-3
unfolding kind_of
returns-in-3 c = rw c.in-3.is

pub returns-in-4 : goal.returns-in-4
unfolding kind_of
returns-in-4 c = rw c.in-4.is

pub returns-in-5 : goal.returns-in-5
unfolding kind_of
returns-in-5 c = rw c.in-5.is

pub returns-in-6 : goal.returns-in-6
unfolding kind_of
returns-in-6 c = rw c.in-6.is

pub returns-in_default : goal.returns-in_default
unfolding kind_of
returns-in_default c =
    let n = c.args.n in
    let two : n ≢ 2 = omega arith in
    let three : n ≢ 3 = omega arith in
    let four : n ≢ 4 = omega arith in
    let five : n ≢ 5 = omega arith in
    let six : n ≢ 6 = omega arith in
    simp (ne_eqb n 2 two, ne_eqb n 3 three, ne_eqb n 4 four, ne_eqb n 5 five, ne_eqb n 6 six)
