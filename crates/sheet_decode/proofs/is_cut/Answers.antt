-- `sheet_decode::is_cut` meets its contract: the two tests are those of `cut`, of what is left from `at` on.
use mathlib.Core.Path.{◌≡◌}
use mathlib.Core.Bool.{true}
use mathlib.Core.List.{List}
use Prim.Native.Nat.{ℕ, ◌-◌, ◌<◌, ◌≤◌}
use lib.Dec.{ltb}
use lib.ListN.{length, drop, length-drop}
use borrow.Author.Tests.{lt-ltb, le-ltb}
use Rattle.base_number.specs.Number.{short_of}
use Rattle.sheet_format.specs.Record.{cut}
use Rattle.sheet_decode.proofs.is_cut.Goals as goal

cut_header : (s : List ℕ) (at : ℕ) → length s - at < 4 → true ≡ cut (drop at s)
unfolding cut
cut_header s at h = simp (length-drop, lt-ltb (length s - at) 4 h)

cut_body : (s : List ℕ) (at n : ℕ) → 4 ≤ length s - at → n ≡ short_of (drop at s) → ltb (length s - at - 4) n ≡ cut (drop at s)
unfolding cut
cut_body s at n h e = simp (length-drop, le-ltb (length s - at) 4 h, e)

pub returns-then-s-at-lt-HEADER : goal.returns-then-s-at-lt-HEADER
returns-then-s-at-lt-HEADER c =
    let a = c.args in
    cut_header a.s.now a.at c.if-s-at-lt-HEADER.true

pub returns : goal.returns
returns c =
    let a = c.args in
    cut_body a.s.now a.at _ c.if-s-at-lt-HEADER.false c.short_at-body.ensures.0
