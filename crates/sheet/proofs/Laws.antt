-- What acceptance means without the judge's order: queues defined once and read at most once, cursors alone, numbers in range, unused places 0.
-- Assumes nothing.
use mathlib.Core.Path.{◌≡◌, refl, ap, ◌∙◌, sym, subst}
use mathlib.Core.Logic.{◌⊎◌, ⊎_elim, ⊎_map}
use mathlib.Core.Bool.{Bool, true, false, ◌||◌}
use mathlib.Core.List.{List, ◌++◌, append_assoc, append-nil}
use Prim.Native.Nat.{ℕ, zero, suc, ◌+◌, ◌<◌, ◌≤◌}
use native.Mathlib.Numerals.{add-one}
use native.Mathlib.Omega.{arith}
use lib.Dec.{ltb}
use borrow.Author.Tests.{ltb-true}
use Rattle.base_lists.specs.Lists.{build, any, member, chain, times}
use Rattle.base_lists.proofs.Build.{order, never}
use Rattle.base_lists.proofs.Tests.{or_cases, all_build, member_append, member_chain, any_build, any_build_none}
use Rattle.base_lists.proofs.Times.{times_member, once_more, times_below}
use Rattle.base_lists.proofs.Chains.{chain_snoc}
use Rattle.base_lists.proofs.Members.{member_below}
use Rattle.sheet_operator.specs.Op.{Op, Abstract, reads, defines, names, cursors}
use Rattle.sheet_operator.specs.Memory.{view, tidy, vacant, no_operator, Held}
use Rattle.sheet_operator.proofs.ViewLaws.{tidy_of_number, vacant_is}
use Rattle.sheet_judge.specs.Judge.{known, four, five, six, whole}
use Rattle.sheet_judge.proofs.JudgedLaws.{judged_four, judged_five, judged_six}
use Rattle.base_bounds.specs.Bounds.{OPERATORS}
use Rattle.sheet.specs.declared.Sheet.{Sheet}
use Rattle.sheet.specs.Answer.{accepted}
use Rattle.sheet.specs.Sheet.{op_at, view_to, view_sheet}
use Rattle.sheet.specs.Check.{check_of}
use Rattle.sheet.specs.Facts.{defined_by, read_by}
use Rattle.sheet.proofs.Accepted.{Accepted, accepted_facts}
use Rattle.sheet.proofs.Passed.{four_reads, four_defines, five_parts, six_below, six_names, six_cursors}

-- what the judge knows is what stands in the lists
known_defined : (a : Abstract) (q : ℕ) → (known a).defined q ≡ member q (defined_by a)
known_defined a q =
    sym
    (member_append q (build a.inputs (λ (k : ℕ). k)) (chain defines a.ops)
    ∙ rw (member_below a.inputs q, member_chain q defines a.ops))

known_used : (a : Abstract) (q : ℕ) → (known a).used q ≡ member q (read_by a)
known_used a q = sym (member_chain q reads a.ops)

-- one operator more
defined_more : (t : Sheet) (i : ℕ) → defined_by (view_to t (i + 1)) ≡ defined_by (view_to t i) ++ defines (view (op_at t i))
defined_more t i =
    ap (λ (l : List ℕ). build t.inputs (λ (k : ℕ). k) ++ l) (chain_snoc defines i (λ (k : ℕ). view (op_at t k)))
    ∙ sym (append_assoc (build t.inputs (λ (k : ℕ). k)) (chain defines (view_to t i).ops) (defines (view (op_at t i))))

read_more : (t : Sheet) (i : ℕ) → read_by (view_to t (i + 1)) ≡ read_by (view_to t i) ++ reads (view (op_at t i))
read_more t i = chain_snoc reads i (λ (k : ℕ). view (op_at t k))

module _ (t : Sheet) (h : check_of t ≡ accepted) where
  good : Accepted t
  good = accepted_facts t h

  -- the tests, at each operator
  four_at : (i : ℕ) → i < t.count → four t.queues (known (view_to t i)) (view (op_at t i)) ≡ true
  four_at i l = judged_four t.queues t.variables (known (view_to t i)) (view (op_at t i)) (good.judged i l)

  five_at : (i : ℕ) → i < t.count → five (known (view_to t i)) (view (op_at t i)) ≡ true
  five_at i l = judged_five t.queues t.variables (known (view_to t i)) (view (op_at t i)) (good.judged i l)

  six_at : (i : ℕ) → i < t.count → six t.variables (known (view_to t i)) (view (op_at t i)) ≡ true
  six_at i l = judged_six t.queues t.variables (known (view_to t i)) (view (op_at t i)) (good.judged i l)

  -- numbers in range
  pub read_below : (i q : ℕ) → i < t.count → member q (reads (view (op_at t i))) ≡ true → q < t.queues
  read_below i q l m = (four_reads t.queues (known (view_to t i)) (view (op_at t i)) (four_at i l) q m).0

  pub define_below : (i q : ℕ) → i < t.count → member q (defines (view (op_at t i))) ≡ true → q < t.queues
  define_below i q l m = four_defines t.queues (known (view_to t i)) (view (op_at t i)) (four_at i l) q m

  pub queue_below : (i q : ℕ) → i < t.count → (member q (reads (view (op_at t i))) || member q (defines (view (op_at t i)))) ≡ true → q < t.queues
  queue_below i q l m = ⊎_elim (read_below i q l) (define_below i q l) (or_cases _ _ m)

  pub variable_below : (i v : ℕ) → i < t.count → member v (names (view (op_at t i))) ≡ true → v < t.variables
  variable_below i v l m = six_below t.variables (known (view_to t i)) (view (op_at t i)) (six_at i l) v m

  -- a queue is defined once: twice by no prefix of the operators, and by all of them at least once
  defined_to : (i q : ℕ) → i ≤ t.count → times q (defined_by (view_to t i)) ≤ 1
  defined_to zero q b = rw append-nil (times_below t.inputs q)
  defined_to (suc i) q b =
      subst (λ (l : List ℕ). times q l ≤ 1) (sym (defined_more t i) ∙ ap (λ (n : ℕ). defined_by (view_to t n)) (add-one i))
      (once_more (known (view_to t i)).defined (defined_by (view_to t i)) (defines (view (op_at t i))) q (known_defined (view_to t i) q)
      (defined_to i q (omega arith)) (five_parts (known (view_to t i)) (view (op_at t i)) (five_at i (omega arith))).0)

  pub defined_once : (q : ℕ) → q < t.queues → times q (defined_by (view_sheet t)) ≡ 1
  unfolding whole
  defined_once q l =
      let d : (known (view_sheet t)).defined q ≡ true = all_build (known (view_sheet t)).defined t.queues (λ (k : ℕ). k) good.defined q l in
      omega (arith, defined_to t.count q (omega arith), times_member q (defined_by (view_sheet t)) (sym (known_defined (view_sheet t) q) ∙ d))

  -- what is defined by the first i operators is an input, or one of them defines it
  defined_where : (i q : ℕ) → (known (view_to t i)).defined q ≡ true → (q < t.inputs) ⊎ ((j : ℕ) × ((j < i) × (member q (defines (view (op_at t j))) ≡ true)))
  defined_where i q d =
      ⊎_map (ltb-true q t.inputs) (any_build (λ (o : Op). member q (defines o)) i (λ (k : ℕ). view (op_at t k)))
      (or_cases (ltb q t.inputs) (any (λ (o : Op). member q (defines o)) (view_to t i).ops) d)

  -- a queue is read at most once, and only where an input or an operator before defines it
  read_to : (i q : ℕ) → i ≤ t.count → times q (read_by (view_to t i)) ≤ 1
  read_to zero q b = omega arith
  read_to (suc i) q b =
      subst (λ (l : List ℕ). times q l ≤ 1) (sym (read_more t i) ∙ ap (λ (n : ℕ). read_by (view_to t n)) (add-one i))
      (once_more (known (view_to t i)).used (read_by (view_to t i)) (reads (view (op_at t i))) q (known_used (view_to t i) q)
      (read_to i q (omega arith)) (five_parts (known (view_to t i)) (view (op_at t i)) (five_at i (omega arith))).1)

  pub read_at_most_once : (q : ℕ) → times q (read_by (view_sheet t)) ≤ 1
  read_at_most_once q = read_to t.count q (omega arith)

  pub read_is_earlier : (i p : ℕ) → i < t.count → member p (reads (view (op_at t i))) ≡ true →
      (p < t.inputs) ⊎ ((j : ℕ) × ((j < i) × (member p (defines (view (op_at t j))) ≡ true)))
  read_is_earlier i p l m = defined_where i p (four_reads t.queues (known (view_to t i)) (view (op_at t i)) (four_at i l) p m).1

  -- a cursor is named by no other operator, before or after
  named_before : (i j v : ℕ) → i < t.count → j < i → member v (cursors (view (op_at t i))) ≡ true → member v (names (view (op_at t j))) ≡ false
  named_before i j v l b m =
      any_build_none (λ (o : Op). member v (names o)) i (λ (k : ℕ). view (op_at t k))
      (six_cursors t.variables (known (view_to t i)) (view (op_at t i)) (six_at i l) v m) j b

  named_after : (i j v : ℕ) → j < t.count → i < j → member v (cursors (view (op_at t i))) ≡ true → member v (names (view (op_at t j))) ≡ false
  named_after i j v l b m = none (member v (names (view (op_at t j)))) refl
    where
      none : (c : Bool) → member v (names (view (op_at t j))) ≡ c → c ≡ false
      none false e = refl
      none true e =
          never
          (sym
          (any_build_none (λ (o : Op). member v (cursors o)) j (λ (k : ℕ). view (op_at t k))
          (six_names t.variables (known (view_to t j)) (view (op_at t j)) (six_at j l) v e) i b)
          ∙ m)

  pub cursor_alone : (i j v : ℕ) → i < t.count → j < t.count → (i ≡ j → ⊥) → member v (cursors (view (op_at t i))) ≡ true →
      member v (names (view (op_at t j))) ≡ false
  cursor_alone i j v a b ne m = ⊎_elim (λ (l : j < i). named_before i j v a l m) (λ (l : i ≤ j). named_after i j v b (omega arith) m) (order j i)

  -- the places that nothing uses
  pub unused_zero : (i : ℕ) → i < t.count → tidy (op_at t i) ≡ true
  unused_zero i l = (tidy_of_number (op_at t i) (good.shaped i l)).0

  pub past_empty : (i : ℕ) → t.count ≤ i → i < OPERATORS → vacant (op_at t i) ≡ true
  past_empty i l b = good.vacant i l b

  pub past_no_operator : (i : ℕ) → Held (op_at t i) → t.count ≤ i → i < OPERATORS → op_at t i ≡ no_operator
  past_no_operator i d l b = vacant_is (op_at t i) d (past_empty i l b)
