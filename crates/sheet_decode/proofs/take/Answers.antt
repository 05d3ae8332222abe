-- `sheet_decode::take` meets its contract: a lemma for each refusal and one for the operator, over plain bytes.
use mathlib.Core.Path.{◌≡◌, ap, sym, ◌∙◌}
use mathlib.Core.Bool.{true, false}
use mathlib.Core.List.{List}
use Prim.Native.Nat.{ℕ, ◌+◌, ◌≤◌}
use native.Mathlib.Omega.{arith}
use lib.ListN.{length, drop}
use lib.Seq.{drop-drop}
use Rattle.base_number.specs.Number.{short_of}
use Rattle.sheet_operator.specs.Memory.{is_empty, memory}
use Rattle.sheet_operator.specs.declared.Kind.{Kind}
use Rattle.sheet_operator.specs.declared.Operator.{Operator}
use Rattle.sheet_format.specs.Record.{kind_of, cut, body_good, op_of, taken, bad, took}
use Rattle.sheet_decode.specs.Takes.{RecordTaken, no_record, record_as, record_at}
use Rattle.sheet_decode.proofs.Cut.{whole_at}
use Rattle.sheet_decode.proofs.take.Goals as goal
use Rattle.sheet_decode.proofs.take.Goals.{After-kind_of-k, Else-is_cut}

refuses : (s : List ℕ) (at m : ℕ) → taken (drop at s) ≡ bad m → no_record m ≡ record_at s at
unfolding record_at
refuses s at m t = ap (record_as s at) (sym t)

-- an operator, with the place after its record
abbrev took_as : ℕ → Operator → RecordTaken
took_as next o = record { number = 0; next = next; op = o }

-- the header's two numbers and the kind
record Header (s : List ℕ) (at n m : ℕ) (k : Kind) : Type 0 where
  some : cut (drop at s) ≡ false
  size : n ≡ short_of (drop at s)
  code : m ≡ short_of (drop (at + 2) s)
  kind : k ≡ kind_of m

taken_cut : (s : List ℕ) (at : ℕ) → cut (drop at s) ≡ true → taken (drop at s) ≡ bad 1
unfolding taken
taken_cut s at h = rw h

module _ {s : List ℕ} {at n m : ℕ} {k : Kind} (h : Header s at n m k) where
  kind_at : k ≡ kind_of (short_of (drop 2 (drop at s)))
  kind_at = h.kind ∙ ap kind_of (h.code ∙ ap short_of (sym (drop-drop 2 at s)))

  taken_kind : is_empty k ≡ true → taken (drop at s) ≡ bad 2
  unfolding taken
  taken_kind e = rw (h.some, ← kind_at, e)

  taken_length : is_empty k ≡ false → body_good k n ≡ false → taken (drop at s) ≡ bad 1
  unfolding taken
  taken_length e g = rw (h.some, ← kind_at, e, ← h.size, g)

  taken_op : is_empty k ≡ false → body_good k n ≡ true → taken (drop at s) ≡ took (op_of k n (drop (at + 4) s)) (drop (at + 4 + n) s)
  unfolding taken
  taken_op e g = rw (h.some, ← kind_at, e, ← h.size, g, drop-drop 4 at s, drop-drop n (at + 4) s)

  kind_refused : is_empty k ≡ true → no_record 2 ≡ record_at s at
  kind_refused e = refuses s at 2 (taken_kind e)

  length_refused : is_empty k ≡ false → body_good k n ≡ false → no_record 1 ≡ record_at s at
  length_refused e g = refuses s at 1 (taken_length e g)

  takes : (o : Operator) → is_empty k ≡ false → body_good k n ≡ true → o ≡ memory (op_of k n (drop (at + 4) s)) → took_as (at + 4 + n) o ≡ record_at s at
  unfolding record_at
  takes o e g q =
      ap (took_as (at + 4 + n)) q ∙ ap (λ (m : ℕ). took_as (at + 4 + m) (memory (op_of k n (drop (at + 4) s)))) h.size
      ∙ ap (record_as s at) (sym (taken_op e g))

some_at : (c : Else-is_cut) →
    let a = c.args in
    (a.at + 4 ≤ length a.s.now) × (a.at + 4 + short_of (drop a.at a.s.now) ≤ length a.s.now)
some_at c =
    let a = c.args in
    whole_at a.s.now a.at (sym c.is_cut.ensures ∙ c.if-is_cut.false)

header : (c : After-kind_of-k) →
    let a = c.args in
    Header a.s.now a.at c.short_at-n.result c.short_at-code.result c.kind_of-k.result
header c =
    record {
      some = sym c.is_cut.ensures ∙ c.if-is_cut.false;
      size = c.short_at-n.ensures.0;
      code = c.short_at-code.ensures.0;
      kind = c.kind_of-k.ensures;
    }

pub returns-then-is_cut : goal.returns-then-is_cut
returns-then-is_cut c =
    let a = c.args in
    let e = sym c.is_cut.ensures ∙ c.if-is_cut.true in
    refuses a.s.now a.at 1 (taken_cut a.s.now a.at e)

pub short_at-n-requires : goal.short_at-n-requires
short_at-n-requires c = omega (arith, some_at (goal.at.short_at-n-requires c).Else-is_cut)

pub short_at-code-requires : goal.short_at-code-requires
short_at-code-requires c = omega (arith, some_at (goal.at.short_at-code-requires c).Else-is_cut)

pub returns-then-is_empty : goal.returns-then-is_empty
returns-then-is_empty c =
    let e = sym c.is_empty.ensures ∙ c.if-is_empty.true in
    kind_refused (header (goal.at.returns-then-is_empty c).After-kind_of-k) e

pub returns-then-not-body_good : goal.returns-then-not-body_good
returns-then-not-body_good c =
    let e = sym c.is_empty.ensures ∙ c.if-is_empty.false in
    let g = sym c.body_good.ensures ∙ c.if-not-body_good.true in
    length_refused (header (goal.at.returns-then-not-body_good c).After-kind_of-k) e g

pub operator_at-op-requires : goal.operator_at-op-requires
operator_at-op-requires c =
    let g = sym c.body_good.ensures ∙ c.if-not-body_good.false in
    (omega (arith, some_at (goal.at.operator_at-op-requires c).Else-is_cut, (header (goal.at.operator_at-op-requires c).After-kind_of-k).size), g)

pub returns : goal.returns
returns c =
    let e = sym c.is_empty.ensures ∙ c.if-is_empty.false in
    let g = sym c.body_good.ensures ∙ c.if-not-body_good.false in
    takes (header (goal.at.returns c).After-kind_of-k) _ e g c.operator_at-op.ensures
