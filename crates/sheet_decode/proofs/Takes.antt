-- What it says of a record that it was read: its parts, and what is left after it.
-- Assumes nothing.
use mathlib.Core.Path.{◌≡◌, refl, ap, ◌∙◌, sym}
use mathlib.Core.List.{List}
use Prim.Native.Nat.{ℕ, zero, suc, ◌+◌, ◌≤◌}
use native.Mathlib.Omega.{arith}
use lib.ListN.{length, get_or, drop}
use lib.Seq.{drop-drop}
use Rattle.base_number.specs.Number.{short_of}
use Rattle.sheet_operator.specs.Memory.{memory}
use Rattle.sheet_format.specs.Record as format
use Rattle.sheet_format.specs.Record.{HEADER, bad, took, taken, refusal_in, op_in, rest_in}
use Rattle.sheet_format.specs.Head.{head_number}
use Rattle.sheet_format.proofs.Read.{from_of_taken, number_of_bad}
use Rattle.sheet_decode.specs.Takes.{RecordTaken, HeadTaken, record_as, record_at, head_as, head_taken}
use Rattle.sheet_decode.proofs.Cut.{whole_at}

pub record Takes (s : List ℕ) (at : ℕ) (r : RecordTaken) : Type 0 where
  pub number : r.number ≡ refusal_in (taken (drop at s))
  pub op : r.number ≡ 0 → r.op ≡ memory (op_in (taken (drop at s)))
  pub rest : r.number ≡ 0 → drop r.next s ≡ rest_in (taken (drop at s))
  pub inside : r.number ≡ 0 → r.next ≤ length s

takes_as : (s : List ℕ) (at : ℕ) (x : format.Taken) → taken (drop at s) ≡ x → Takes s at (record_as s at x)
takes_as s at (bad n) e =
    let b = number_of_bad (drop at s) n e in
    record {
      number = sym (ap refusal_in e);
      op = λ h. absurd (omega arith);
      rest = λ h. absurd (omega arith);
      inside = λ h. absurd (omega arith);
    }
takes_as s at (took o rest) e =
    let f = from_of_taken (drop at s) o rest e in
    let n = short_of (drop at s) in
    record {
      number = sym (ap refusal_in e);
      op = λ h. ap memory (sym (ap op_in e));
      rest = λ h. sym (drop-drop n (at + HEADER) s) ∙ ap (drop n) (sym (drop-drop HEADER at s)) ∙ sym f.left ∙ sym (ap rest_in e);
      inside = λ h. omega (arith, whole_at s at f.whole);
    }

pub takes : (s : List ℕ) (at : ℕ) (r : RecordTaken) → r ≡ record_at s at → Takes s at r
unfolding record_at
takes s at r e = rw e (takes_as s at (taken (drop at s)) refl)

pub record HeadTakes (s : List ℕ) (r : HeadTaken) : Type 0 where
  pub number : r.number ≡ head_number s
  pub inputs : r.number ≡ 0 → r.inputs ≡ get_or s 4 0
  pub queues : r.number ≡ 0 → r.queues ≡ get_or s 5 0
  pub variables : r.number ≡ 0 → r.variables ≡ get_or s 6 0
  pub count : r.number ≡ 0 → r.count ≡ get_or s 7 0

head_takes_as : (s : List ℕ) (n : ℕ) → head_number s ≡ n → HeadTakes s (head_as n s)
head_takes_as s zero e = record { number = sym e; inputs = λ h. refl; queues = λ h. refl; variables = λ h. refl; count = λ h. refl }
head_takes_as s (suc n) e =
    record {
      number = sym e;
      inputs = λ h. absurd (omega arith);
      queues = λ h. absurd (omega arith);
      variables = λ h. absurd (omega arith);
      count = λ h. absurd (omega arith);
    }

pub head_takes : (s : List ℕ) (r : HeadTaken) → r ≡ head_taken s → HeadTakes s r
unfolding head_taken
head_takes s r e = rw e (head_takes_as s (head_number s) refl)
