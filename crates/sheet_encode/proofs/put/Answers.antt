-- `sheet_encode::put` meets its contract: the body's length, the kind's number, and the body.
use mathlib.Core.Path.{◌≡◌, ap, sym, ◌∙◌}
use mathlib.Core.List.{List}
use Prim.Native.Nat.{ℕ, ◌+◌, ◌≤◌}
use native.Mathlib.Omega.{arith}
use native.Mathlib.Numerals.{towards_suc}
use lib.ListN.{length}
use lib.Seq.{sets}
use Rattle.base_number.specs.Number.{short_bytes}
use Rattle.sheet_operator.specs.Memory.{view}
use Rattle.sheet_format.specs.Record.{kind_code, kind_in, body_bytes, record_bytes, op_bytes}
use Rattle.sheet_format.proofs.Sizes.{length_record_bytes}
use Rattle.sheet_format.proofs.Codes.{code_below, kind_in_view}
use Rattle.sheet_encode.proofs.put.Goals as goal
use Rattle.sheet_encode.proofs.put.Goals.{Start}

-- the record's length, by the body's
room : (d : Start) → d.args.at + (4 + length (body_bytes (view d.args.o))) ≤ length d.args.s.now
unfolding op_bytes
room d =
    let o = view d.args.o in
    omega (arith, length_record_bytes (kind_code (kind_in o)) (body_bytes o))

whole : (s a b t : List ℕ) (at n k j : ℕ) (body : List ℕ) → n ≡ length body → k ≡ j → a ≡ sets s at (short_bytes n) → b ≡ sets a (at + 2) (short_bytes k) →
    t ≡ sets b (at + 4) body → t ≡ sets s at (record_bytes j body)
unfolding record_bytes short_bytes
whole s a b t at n k j body l i e f g = rw (g, f, e, l, i) (simp towards_suc)

pub put_short-requires : goal.put_short-requires
put_short-requires c =
    let e = room (goal.at.put_short-requires c).Start in (omega arith, omega arith)

pub put_short-requires-2 : goal.put_short-requires-2
put_short-requires-2 c =
    let e = room (goal.at.put_short-requires-2 c).Start in
    (omega arith, rw c.kind_code-code.ensures (code_below c.args.o.kind))

pub put_body-requires : goal.put_body-requires
put_body-requires c =
    let e = room (goal.at.put_body-requires c).Start in
    (c.requires.0, omega arith)

pub returns : goal.returns
unfolding op_bytes
returns c =
    let code = c.kind_code-code.ensures ∙ ap kind_code (sym (kind_in_view c.args.o c.requires.0.some)) in
    whole c.args.s.now _ _ _ c.args.at _ _ _ (body_bytes (view c.args.o)) c.body_length-n.ensures.0 code
    c.put_short.ensures c.put_short-2.ensures c.put_body.ensures
