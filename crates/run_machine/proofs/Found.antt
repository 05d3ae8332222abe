-- Firing the operator that the table of readers names is firing, on an accepted sheet; and an operator that it names is one of the sheet's and reads the queue.
-- Assumes nothing.
use mathlib.Core.Path.{◌≡◌, refl, sym, ap, ◌∙◌}
use mathlib.Core.Logic.{⊎_elim}
use mathlib.Core.Bool.{Bool, true, false}
use mathlib.Core.List.{List, []}
use Prim.Native.Nat.{ℕ, ◌+◌, ◌<◌, ◌≤◌}
use native.Mathlib.Nat.{sub-zero}
use native.Mathlib.Omega.{arith}
use lib.Dec.{ltb}
use lib.IntN.{ℤ}
use lib.ListN.{length, get_or, get_or-eq_default}
use borrow.Author.Tests.{ltb-true, ltb-false, lt-ltb}
use denote.Ref.{Bor}
use Rattle.std.specs.Prelude.{Option, Some, None, IfSome, slice_get, option_copied}
use Rattle.std.specs.Slice.{IsItemAt}
use Rattle.std.proofs.lemmas.Option.{slice_get-get_or, slice_get_past, slice_get_read}
use Rattle.base_lists.specs.Lists.{member}
use Rattle.base_lists.proofs.Build.{order, never, build_get_or}
use Rattle.sheet_operator.specs.Op.{Op, gather, reads}
use Rattle.sheet_operator.specs.Memory.{view}
use Rattle.sheet_operator.specs.declared.Operator.{Operator}
use Rattle.base_bounds.specs.Bounds.{OPERATORS, QUEUES}
use Rattle.sheet.specs.declared.Sheet.{Sheet}
use Rattle.sheet.specs.Answer.{accepted}
use Rattle.sheet.specs.Sheet.{missing, op_at, view_sheet}
use Rattle.sheet.specs.Check.{check_of}
use Rattle.sheet.proofs.Laws.{read_below}
use Rattle.sheet.proofs.Accepted.{ranges_of_accepted}
use Rattle.sheet.proofs.Placed.{ops_many}
use Rattle.run_machine.specs.declared.State.{State}
use Rattle.run_machine.specs.Machine.{Machine, fire_op, fire_m}
use Rattle.run_machine.specs.Readers.{reader_from, readers_of}
use Rattle.run_machine.specs.Working.{Stands, CanFire, fire_reader}
use Rattle.run_machine.proofs.AbleOf.{can_fire_of_stands}
use Rattle.run_machine.proofs.ReaderLaws.{is_read, reader_any, reader_found, reader_reads, fire_found, fire_by_table}

-- an operator that reads nothing, as what stands past the last
abbrev idle : Op
idle = gather 0 0 []

-- the place of the operator that reads q, by the table
abbrev pub table_at : Sheet → ℕ → ℕ
table_at t q = get_or (readers_of (view_sheet t).ops) q OPERATORS

-- a place whose operator reads something is one of the list
read_within : (os : List Op) (i q : ℕ) → member q (reads (get_or os i idle)) ≡ true → i < length os
read_within os i q m =
    ⊎_elim (λ (l : i < length os). l)
    (λ (l : length os ≤ i). never (sym (ap (λ (o : Op). member q (reads o)) (get_or-eq_default os idle l)) ∙ m))
    (order i (length os))

module _ (t : Sheet) (h : check_of t ≡ accepted) where
  at : (d : Op) (i : ℕ) → i < t.count → get_or (view_sheet t).ops i d ≡ view (op_at t i)
  at d i l = build_get_or t.count (λ (k : ℕ). view (op_at t k)) d i l

  -- an accepted sheet's operators read only queues that the table has
  pub reads_in_table : (d : Op) (i p : ℕ) → i < length (view_sheet t).ops → member p (reads (get_or (view_sheet t).ops i d)) ≡ true → p < QUEUES
  reads_in_table d i p l m =
      let b : i < t.count = omega (arith, ops_many t) in
      omega (arith, ranges_of_accepted t h, read_below t h i p b (sym (ap (λ (o : Op). member p (reads o)) (at d i b)) ∙ m))

  -- a reader that is found, in the table's list
  found_in : (q : ℕ) → ltb (table_at t q) OPERATORS ≡ true → member q (reads (get_or (view_sheet t).ops (table_at t q) idle)) ≡ true
  found_in q f =
      let os = (view_sheet t).ops in
      let few : 0 + length os ≤ OPERATORS = omega (arith, ops_many t, ranges_of_accepted t h) in
      let e : table_at t q ≡ reader_from os 0 q = reader_any os idle (reads_in_table idle) q in
      let read : is_read os q ≡ true = sym (reader_found os 0 q few) ∙ ap (λ (r : ℕ). ltb r OPERATORS) (sym e) ∙ f in
      ap (λ (r : ℕ). member q (reads (get_or os r idle))) (e ∙ sym (sub-zero (reader_from os 0 q))) ∙ reader_reads os 0 q idle few read

  found_within : (q : ℕ) → ltb (table_at t q) OPERATORS ≡ true → table_at t q < t.count
  found_within q f = omega (arith, ops_many t, read_within (view_sheet t).ops (table_at t q) q (found_in q f))

  pub found_reads : (q : ℕ) → ltb (table_at t q) OPERATORS ≡ true → (table_at t q < t.count) × (member q (reads (view (op_at t (table_at t q)))) ≡ true)
  found_reads q f =
      let l = found_within q f in
      (l, sym (ap (λ (o : Op). member q (reads o)) (at idle (table_at t q) l)) ∙ found_in q f)

  -- the operator that the code gets, if there is one, is the one at the reader's place
  same_found : length t.operators ≡ OPERATORS → (m : Machine) (q : ℕ) (b : Bool) → ltb (table_at t q) OPERATORS ≡ b →
      fire_reader (slice_get t.operators (table_at t q)) m q ≡ fire_found b (get_or (view_sheet t).ops (table_at t q) idle) m q
  same_found n m q true f =
      let l = found_within q f in
      ap (λ (r : Option Operator). fire_reader r m q)
      (slice_get-get_or t.operators (table_at t q) missing (omega (arith, n, ltb-true (table_at t q) OPERATORS f)))
      ∙ ap (λ (o : Op). fire_op o m q) (sym (at idle (table_at t q) l))
  same_found n m q false f =
      ap (λ (r : Option Operator). fire_reader r m q)
      (slice_get_past t.operators (table_at t q) (omega (arith, n, ltb-false (table_at t q) OPERATORS f)))

  pub found_fires : length t.operators ≡ OPERATORS → (m : Machine) (q : ℕ) → fire_reader (slice_get t.operators (table_at t q)) m q ≡ fire_m (view_sheet t) m q
  found_fires n m q =
      same_found n m q (ltb (table_at t q) OPERATORS) refl
      ∙ sym (fire_by_table (view_sheet t) m q idle (omega (arith, ops_many t, ranges_of_accepted t h)) (reads_in_table idle))

-- what is copied from the item at a place
copied_at : {X : Type 0} (xs : List X) (i : ℕ) (b : Option (Bor X)) → IsItemAt xs i b → option_copied b ≡ slice_get xs i
copied_at xs i None w = sym (slice_get_past xs i w.3)
copied_at xs i (Some x) w = sym (slice_get_read xs (length xs) i x.now refl w.3.0 w.1)

-- the same of the place i that the code finds in its table rs, and of r, what it copies from there: firing r is firing, and r can fire
module _ (t : Sheet) (n : length t.operators ≡ OPERATORS) (q i : ℕ) (rs : List ℕ) (e : rs ≡ readers_of (view_sheet t).ops) (d : i ≡ get_or rs q OPERATORS)
    (b : Option (Bor Operator)) (w : IsItemAt t.operators i b) (r : Option Operator) (c : r ≡ option_copied b) where
  got : r ≡ slice_get t.operators i
  got = c ∙ copied_at t.operators i b w

  reader_is : table_at t q ≡ i
  reader_is = sym (d ∙ ap (λ (r : List ℕ). get_or r q OPERATORS) e)

  pub fire_as_found : check_of t ≡ accepted → (m : Machine) → fire_reader r m q ≡ fire_m (view_sheet t) m q
  fire_as_found h m = ap (λ (x : Option Operator). fire_reader x m q) (got ∙ ap (slice_get t.operators) (sym reader_is)) ∙ found_fires t h n m q

  pub can_fire_as_found : (st : State) (s : List ℤ) → Stands t st s → IfSome r (λ o. CanFire o q st s)
  can_fire_as_found st s h =
      ⊎_elim
      (λ (l : i < OPERATORS).
      let p = found_reads t h.sheet q (ap (λ (k : ℕ). ltb k OPERATORS) reader_is ∙ lt-ltb i OPERATORS l) in
      rw (got, slice_get-get_or t.operators i missing (omega (arith, n)))
      (can_fire_of_stands t st s q i h (omega (arith, p.0, reader_is)) (rw reader_is at p.1)))
      (λ (l : OPERATORS ≤ i). rw (got, slice_get_past t.operators i (omega (arith, n))) tt)
      (order i OPERATORS)
