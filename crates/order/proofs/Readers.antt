-- In an accepted sheet a queue has one reader at most, and the reader of a queue stands behind the operator that defines it.
-- Assumes nothing.
use mathlib.Core.Path.{◌≡◌, sym, ap, ◌∙◌}
use mathlib.Core.Logic.{⊎_elim}
use mathlib.Core.Bool.{true}
use Prim.Native.Nat.{ℕ, ◌<◌}
use native.Mathlib.Omega.{arith}
use lib.ListN.{length}
use borrow.Author.Tests.{lt-ltb}
use Rattle.base_lists.specs.Lists.{build, member, chain}
use Rattle.base_lists.proofs.Build.{same_or}
use Rattle.base_lists.proofs.Times.{times_append, times_member, once_in_chain, twice_in_chain}
use Rattle.base_lists.proofs.Members.{member_below}
use Rattle.sheet_operator.specs.Op.{Op, double, Abstract, reads, defines}
use Rattle.sheet_operator.specs.Memory.{view}
use Rattle.sheet.specs.declared.Sheet.{Sheet}
use Rattle.sheet.specs.Answer.{accepted}
use Rattle.sheet.specs.Sheet.{op_at, view_sheet}
use Rattle.sheet.specs.Check.{check_of}
use Rattle.sheet.proofs.Laws.{define_below, defined_once, read_at_most_once, read_is_earlier}
use Rattle.sheet.proofs.Placed.{ops_many, ops_at}
use Rattle.run_machine.proofs.Sound.{op_in}

-- ---- items go on to operators further on

pub record Onward (a : Abstract) : Type 0 where
  pub one_reader : (i j q : ℕ) → i < length a.ops → j < length a.ops → member q (reads (op_in a i)) ≡ true →
      member q (reads (op_in a j)) ≡ true → i ≡ j
  pub reader_behind : (i j q : ℕ) → i < length a.ops → j < length a.ops → member q (defines (op_in a i)) ≡ true →
      member q (reads (op_in a j)) ≡ true → i < j

module _ (t : Sheet) (h : check_of t ≡ accepted) where
  abbrev a : Abstract
  a = view_sheet t

  reader_one : (i j q : ℕ) → i < length a.ops → j < length a.ops → member q (reads (op_in a i)) ≡ true →
      member q (reads (op_in a j)) ≡ true → i ≡ j
  reader_one i j q b c m n =
      ⊎_elim (λ (e : i ≡ j). e)
      (λ (ne : i ≡ j → ⊥). absurd (omega (arith, read_at_most_once t h q, twice_in_chain q reads (double 0 0 0) a.ops i j b c ne m n)))
      (same_or i j)

  -- a queue below Q is defined once
  define_one : (i j q : ℕ) → q < t.queues → i < length a.ops → j < length a.ops → member q (defines (op_in a i)) ≡ true →
      member q (defines (op_in a j)) ≡ true → i ≡ j
  define_one i j q l b c m n =
      ⊎_elim (λ (e : i ≡ j). e)
      (λ (ne : i ≡ j → ⊥).
      absurd
      (omega (
        arith,
        defined_once t h q l,
        times_append q (build t.inputs (λ (k : ℕ). k)) (chain defines a.ops),
        twice_in_chain q defines (double 0 0 0) a.ops i j b c ne m n,
      )))
      (same_or i j)

  no_input : (i q : ℕ) → q < t.queues → i < length a.ops → member q (defines (op_in a i)) ≡ true → q < t.inputs → ⊥
  no_input i q l b m e =
      omega (
        arith,
        defined_once t h q l,
        times_append q (build t.inputs (λ (k : ℕ). k)) (chain defines a.ops),
        times_member q (build t.inputs (λ (k : ℕ). k)) (member_below t.inputs q ∙ lt-ltb q t.inputs e),
        once_in_chain q defines (double 0 0 0) a.ops i b m,
      )

  behind : (i j q : ℕ) → i < length a.ops → j < length a.ops → member q (defines (op_in a i)) ≡ true →
      member q (reads (op_in a j)) ≡ true → i < j
  behind i j q b c m n =
      let bi : i < t.count = omega (arith, ops_many t) in
      let bj : j < t.count = omega (arith, ops_many t) in
      let mi : member q (defines (view (op_at t i))) ≡ true = ap (λ (o : Op). member q (defines o)) (sym (ops_at t i bi)) ∙ m in
      let nj : member q (reads (view (op_at t j))) ≡ true = ap (λ (o : Op). member q (reads o)) (sym (ops_at t j bj)) ∙ n in
      let l : q < t.queues = define_below t h i q bi mi in
      ⊎_elim (λ (e : q < t.inputs). absurd (no_input i q l b m e))
      (λ (r : (k : ℕ) × ((k < j) × (member q (defines (view (op_at t k))) ≡ true))).
      let bk : r.0 < t.count = omega (arith, r.1.0) in
      let mk : member q (defines (op_in a r.0)) ≡ true = ap (λ (o : Op). member q (defines o)) (ops_at t r.0 bk) ∙ r.1.1 in
      let e : r.0 ≡ i = define_one r.0 i q l (omega (arith, ops_many t)) b mk m in
      omega (arith, r.1.0))
      (read_is_earlier t h j q bj nj)

  pub onward_of_accepted : Onward (view_sheet t)
  onward_of_accepted = record { one_reader = reader_one; reader_behind = behind }
