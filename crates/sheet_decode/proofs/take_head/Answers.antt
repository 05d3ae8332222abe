-- `sheet_decode::take_head` meets its contract: a lemma for each refusal and one for the head, over plain bytes.
use mathlib.Core.Path.{◌≡◌, ap, sym, ◌∙◌}
use mathlib.Core.Bool.{true, false}
use mathlib.Core.List.{List}
use Prim.Native.Nat.{ℕ, suc, ◌≤◌}
use native.Mathlib.Omega.{arith}
use lib.ListN.{length, get_or, drop}
use borrow.Author.Tests.{eq-eqb, ne_eqb}
use Rattle.base_number.specs.Number.{short_of}
use Rattle.sheet_format.specs.Record.{cut}
use Rattle.sheet_format.specs.Head.{head_good, head_number}
use Rattle.sheet_decode.specs.Takes.{no_head, head_as, head_taken}
use Rattle.sheet_decode.proofs.Cut.{whole_at}
use Rattle.sheet_decode.proofs.take_head.Goals as goal
use Rattle.sheet_decode.proofs.take_head.Goals.{Else-is_cut, Else-short_at-ne-HEAD_BODY}

refuses : (s : List ℕ) (m : ℕ) → head_number s ≡ suc m → no_head (suc m) ≡ head_taken s
unfolding head_taken
refuses s m t = ap (λ (n : ℕ). head_as n s) (sym t)

number_cut : (s : List ℕ) → cut s ≡ true → head_number s ≡ 1
unfolding head_number
number_cut s h = rw h

number_kind : (s : List ℕ) → cut s ≡ false → (short_of (drop 2 s) ≡ 1 → ⊥) → head_number s ≡ 2
unfolding head_number
number_kind s h k = rw (h, ne_eqb (short_of (drop 2 s)) 1 k)

number_length : (s : List ℕ) → cut s ≡ false → short_of (drop 2 s) ≡ 1 → (short_of s ≡ 4 → ⊥) → head_number s ≡ 1
unfolding head_number
number_length s h k l = rw (h, eq-eqb (short_of (drop 2 s)) 1 k, ne_eqb (short_of s) 4 l)

-- a head's record that is whole
record Header (s : List ℕ) : Type 0 where
  some : cut s ≡ false
  code : short_of (drop 2 s) ≡ 1
  size : short_of s ≡ 4

number_range : {s : List ℕ} → Header s → head_good (get_or s 4 0) (get_or s 5 0) (get_or s 6 0) (get_or s 7 0) ≡ false → head_number s ≡ 3
unfolding head_number
number_range {s} h g = rw (h.some, eq-eqb (short_of (drop 2 s)) 1 h.code, eq-eqb (short_of s) 4 h.size, g)

number_good : {s : List ℕ} → Header s → head_good (get_or s 4 0) (get_or s 5 0) (get_or s 6 0) (get_or s 7 0) ≡ true → head_number s ≡ 0
unfolding head_number
number_good {s} h g = rw (h.some, eq-eqb (short_of (drop 2 s)) 1 h.code, eq-eqb (short_of s) 4 h.size, g)

good_taken : {s : List ℕ} → Header s → head_good (get_or s 4 0) (get_or s 5 0) (get_or s 6 0) (get_or s 7 0) ≡ true → head_as 0 s ≡ head_taken s
unfolding head_taken
good_taken {s} h g = ap (λ (n : ℕ). head_as n s) (sym (number_good h g))

header_inside : {s : List ℕ} → Header s → 8 ≤ length s
header_inside {s} h = omega (arith, whole_at s 0 h.some, h.size)

some_at : (c : Else-is_cut) → cut c.args.s.now ≡ false
some_at c = sym c.is_cut.ensures ∙ c.if-is_cut.false

header : (c : Else-short_at-ne-HEAD_BODY) → Header c.args.s.now
header c =
    record {
      some = sym c.is_cut.ensures ∙ c.if-is_cut.false;
      code = sym c.short_at.ensures.0 ∙ c.if-short_at-ne1.false;
      size = sym c.short_at-2.ensures.0 ∙ c.if-short_at-ne-HEAD_BODY.false;
    }

pub returns-then-is_cut : goal.returns-then-is_cut
returns-then-is_cut c =
    let s = c.args.s.now in
    let e = sym c.is_cut.ensures ∙ c.if-is_cut.true in
    refuses s 0 (number_cut s e)

pub short_at-requires : goal.short_at-requires
short_at-requires c =
    let s = c.args.s.now in
    omega (arith, whole_at s 0 (some_at (goal.at.short_at-requires c).Else-is_cut))

pub returns-then-short_at-ne1 : goal.returns-then-short_at-ne1
returns-then-short_at-ne1 c =
    let k = rw c.short_at.ensures.0 at c.if-short_at-ne1.true in
    refuses _ 1 (number_kind _ (some_at (goal.at.returns-then-short_at-ne1 c).Else-is_cut) k)

pub short_at-requires-2 : goal.short_at-requires-2
short_at-requires-2 c =
    let s = c.args.s.now in
    omega (arith, whole_at s 0 (some_at (goal.at.short_at-requires-2 c).Else-is_cut))

pub returns-then-short_at-ne-HEAD_BODY : goal.returns-then-short_at-ne-HEAD_BODY
returns-then-short_at-ne-HEAD_BODY c =
    let k = sym c.short_at.ensures.0 ∙ c.if-short_at-ne1.false in
    let l = rw c.short_at-2.ensures.0 at c.if-short_at-ne-HEAD_BODY.true in
    refuses _ 0 (number_length _ (some_at (goal.at.returns-then-short_at-ne-HEAD_BODY c).Else-is_cut) k l)

pub bounds-s-4 : goal.bounds-s-4
bounds-s-4 c = omega (arith, header_inside (header (goal.at.bounds-s-4 c).Else-short_at-ne-HEAD_BODY))

pub bounds-s-5 : goal.bounds-s-5
bounds-s-5 c = omega (arith, header_inside (header (goal.at.bounds-s-5 c).Else-short_at-ne-HEAD_BODY))

pub bounds-s-6 : goal.bounds-s-6
bounds-s-6 c = omega (arith, header_inside (header (goal.at.bounds-s-6 c).Else-short_at-ne-HEAD_BODY))

pub bounds-s-7 : goal.bounds-s-7
bounds-s-7 c = omega (arith, header_inside (header (goal.at.bounds-s-7 c).Else-short_at-ne-HEAD_BODY))

pub returns-then-not-head_good : goal.returns-then-not-head_good
returns-then-not-head_good c =
    let h = header (goal.at.returns-then-not-head_good c).Else-short_at-ne-HEAD_BODY in
    let g = sym c.head_good.ensures ∙ c.if-not-head_good.true in
    refuses _ 2 (number_range h g)

pub returns : goal.returns
returns c =
    let h = header (goal.at.returns c).Else-short_at-ne-HEAD_BODY in
    let g = sym c.head_good.ensures ∙ c.if-not-head_good.false in
    good_taken h g
