-- The line that reads a line's out queue, as the code finds it by asking the runner, and what having found it says.
-- Assumes nothing.
use mathlib.Core.Path.{◌≡◌, refl, sym, ap, ◌∙◌}
use mathlib.Core.Bool.{Bool, true, false, cond, ◌&&◌, ◌||◌}
use mathlib.Core.List.{List, [], ◌∷◌}
use mathlib.Core.Logic.{⊎_elim}
use Prim.Native.Nat.{ℕ, suc, ◌+◌, ◌<◌, ◌≤◌}
use native.Mathlib.Omega.{arith}
use lib.Dec.{ltb}
use lib.ListN.{length, get_or}
use borrow.Author.Tests.{lt-ltb, le-ltb}
use Rattle.std.specs.Prelude.{Ok, Err}
use Rattle.base_lists.specs.Lists.{member}
use Rattle.base_lists.proofs.Build.{never, order}
use Rattle.base_refusal.specs.declared.Reason.{Reason}
use Rattle.base_refusal.specs.declared.Reason.TheVariants.{NoOperator, NoLine}
use Rattle.base_refusal.specs.Refusal.{number_of}
use Rattle.sheet_operator.specs.Op.{Op, reads}
use Rattle.sheet_operator.specs.Memory.{PLACES, view}
use Rattle.base_bounds.specs.Bounds.{OPERATORS}
use Rattle.sheet.specs.declared.Sheet.{Sheet}
use Rattle.sheet.specs.Answer.{accepted}
use Rattle.sheet.specs.Sheet.{op_at, view_sheet, HeldSheet}
use Rattle.sheet.specs.Check.{check_of}
use Rattle.sheet.proofs.AnswerLaws.{none_apart}
use Rattle.base_refusal.proofs.Reasons.{some_number}
use Rattle.sheet.proofs.Accepted.{ranges_of_accepted}
use Rattle.sheet.proofs.Placed.{ops_many, ops_at}
use Rattle.sheet.proofs.InMemory.{operator_back}
use Rattle.run_machine.specs.Readers.{reader_from, reader_at, ReaderCall, reader_of, ReaderAnswers}
use Rattle.run_machine.proofs.AbleOf.{able_of_accepted}
use Rattle.run_machine.proofs.Asking.{few_operators, reader_asked, reader_place}
use Rattle.run_machine.proofs.ReaderLaws.{is_read, reader_found}
use Rattle.rewrite_rules.specs.Rewrite.{Remade, refuse, is_line, out_of, at, next_of, to_line, if_two_lines}
use Rattle.rewrite_rules.specs.Working.{pair_number, Pair, Follows, TwoLines}
use Rattle.rewrite_rules.proofs.Lines.{line_out}

-- a reader that is found is one of the operators
within_step : (b : Bool) (i r n : ℕ) → i < n → (b ≡ false → r < n) → cond b i r < n
within_step true i r n h k = h
within_step false i r n h k = k refl

reader_within : (os : List Op) (i q : ℕ) → is_read os q ≡ true → reader_from os i q < i + length os
reader_within [] i q h = never h
reader_within (o ∷ os) i q h =
    within_step (member q (reads o)) i (reader_from os (suc i) q) (i + suc (length os)) (omega arith)
    (λ e. omega (arith, reader_within os (suc i) q (sym (ap (λ (b : Bool). b || is_read os q) e) ∙ h)))

-- ---- the answers of `line_after`, one law for each return

module _ (t : Sheet) (i : ℕ) where
  abbrev two : Bool
  two = is_line (at (view_sheet t) i) && to_line (view_sheet t) i

  number_by : (p q : Bool) → ltb i (length (view_sheet t).ops) ≡ p → two ≡ q → pair_number (view_sheet t) i ≡ cond p (cond q 0 15) 14
  number_by p q e f = rw (e, f)

  pub follows_past : t.count ≤ i → Follows t i (Err NoOperator)
  follows_past l =
      let e = le-ltb i (length (view_sheet t).ops) (omega (arith, ops_many t)) in
      record { numbered = sym (number_by false two e refl); found = tt }

-- a reader that is answered has a place
answered_below : (i : ℕ) → accepted ≡ (reader_at i).answer → i < OPERATORS
answered_below i e =
    ⊎_elim (λ (l : i < OPERATORS). l) (λ (l : OPERATORS ≤ i). absurd (none_apart 9 (rw (le-ltb i OPERATORS l) at e))) (order i OPERATORS)

module _ (t : Sheet) (h : check_of t ≡ accepted) where
  pub place_below : (i : ℕ) → i < t.count → i < OPERATORS
  place_below i l = omega (arith, ranges_of_accepted t h)

  -- the place that a reader was found at is one of the sheet's
  found_within : (q : ℕ) → reader_from (view_sheet t).ops 0 q < OPERATORS → reader_from (view_sheet t).ops 0 q < t.count
  found_within q l =
      omega (
        arith,
        ops_many t,
        reader_within (view_sheet t).ops 0 q
            (sym (reader_found (view_sheet t).ops 0 q (omega (arith, few_operators t h)))
            ∙ lt-ltb (reader_from (view_sheet t).ops 0 q) OPERATORS l),
      )

  module _ (i : ℕ) (l : i < t.count) where
    within : ltb i (length (view_sheet t).ops) ≡ true
    within = lt-ltb i (length (view_sheet t).ops) (omega (arith, ops_many t))

    first_line : (b : Bool) → is_line (view (op_at t i)) ≡ b → is_line (at (view_sheet t) i) ≡ b
    first_line b e = ap is_line (ops_at t i l) ∙ e

    alone : two t i ≡ false → Follows t i (Err NoLine)
    alone e = record { numbered = sym (number_by t i true false within e); found = tt }

    pub follows_no_line : is_line (view (op_at t i)) ≡ false → Follows t i (Err NoLine)
    follows_no_line e = alone (ap (λ (b : Bool). b && to_line (view_sheet t) i) (first_line false e))

    -- of the line's out queue the runner is asked
    module _ (e : is_line (view (op_at t i)) ≡ true) where
      asked : (j : ℕ) → j ≡ (reader_of t (get_or (op_at t i).outs 0 0)).place → j ≡ next_of (view_sheet t) i
      asked j d =
          d ∙ reader_place t h (get_or (op_at t i).outs 0 0)
          ∙ ap (reader_from (view_sheet t).ops 0) (sym (ap out_of (ops_at t i l) ∙ line_out (op_at t i) e))

      by_next : (b : Bool) → to_line (view_sheet t) i ≡ b → two t i ≡ b
      by_next b d = ap (λ (x : Bool). x && to_line (view_sheet t) i) (first_line true e) ∙ d

      pub follows_unread : OPERATORS ≡ (reader_of t (get_or (op_at t i).outs 0 0)).place → Follows t i (Err NoLine)
      follows_unread d =
          let none : ltb (next_of (view_sheet t) i) (length (view_sheet t).ops) ≡ false =
          le-ltb (next_of (view_sheet t) i) (length (view_sheet t).ops) (omega (arith, few_operators t h, asked OPERATORS d)) in
          alone (by_next false (ap (λ (b : Bool). b && is_line (at (view_sheet t) (next_of (view_sheet t) i))) none))

      -- j is the place that the runner answers
      module _ (j : ℕ) (a : ReaderAnswers (reader_of t (get_or (op_at t i).outs 0 0)) (Ok j)) where
        next : j ≡ next_of (view_sheet t) i
        next = asked j a.placed

        pub found_below : j < OPERATORS
        found_below =
            let q = get_or (op_at t i).outs 0 0 in
            let k = answered_below (reader_from (view_sheet t).ops 0 q) (a.answered ∙ ap (λ (c : ReaderCall). c.answer) (reader_asked t h q)) in
            omega (arith, a.placed ∙ reader_place t h q)

        next_below : j < t.count
        next_below = omega (arith, next, found_within (out_of (at (view_sheet t) i)) (omega (arith, next, found_below)))

        second_line : (b : Bool) → is_line (view (op_at t j)) ≡ b → to_line (view_sheet t) i ≡ b
        second_line b d =
            ap (λ (k : ℕ). ltb k (length (view_sheet t).ops) && is_line (at (view_sheet t) k)) (sym next)
            ∙ ap (λ (x : Bool). x && is_line (at (view_sheet t) j)) (lt-ltb j (length (view_sheet t).ops) (omega (arith, next_below, ops_many t)))
            ∙ ap is_line (ops_at t j next_below) ∙ d

        pub follows_other : is_line (view (op_at t j)) ≡ false → Follows t i (Err NoLine)
        follows_other d = alone (by_next false (second_line false d))

        pub follows_found : is_line (view (op_at t j)) ≡ true → Follows t i (Ok j)
        follows_found d =
            let both = by_next true (second_line true d) in
            record {
              numbered = sym (number_by t i true true within both);
              found =
                  record {
                    here = l;
                    below = next_below;
                    within = (place_below i l, found_below);
                    test = both;
                    next = next;
                    first = e;
                    second = d;
                  };
            }

-- ---- what the caller learns of what was answered

refuses_by : (p q : Bool) (n : ℕ) (r : Remade) → n ≡ cond p (cond q 0 15) 14 → (n ≡ 0 → ⊥) →
    cond p (cond q r (refuse 15)) (refuse 14) ≡ refuse n
refuses_by true true n r e h = absurd (h e)
refuses_by true false n r e h = ap refuse (sym e)
refuses_by false q n r e h = ap refuse (sym e)

pub not_two_lines : (t : Sheet) (i : ℕ) (reason : Reason) → Follows t i (Err reason) → (r : Remade) →
    if_two_lines (view_sheet t) i r ≡ refuse (number_of reason)
not_two_lines t i reason f r =
    refuses_by (ltb i (length (view_sheet t).ops)) (two t i) (number_of reason) r f.numbered (λ z. absurd (omega (arith, some_number reason)))

module _ (t : Sheet) (i j : ℕ) (pair : Pair t i j) where
  pub two_lines_there : (r : Remade) → if_two_lines (view_sheet t) i r ≡ r
  two_lines_there r = rw (lt-ltb i (length (view_sheet t).ops) (omega (arith, ops_many t, pair.here)), pair.test)

  -- what the code asks of the two
  module _ (h : check_of t ≡ accepted) where
    pub few_steps : ((op_at t i).count ≤ PLACES) × ((op_at t j).count ≤ PLACES)
    few_steps = ((able_of_accepted t h i pair.here).ready.small, (able_of_accepted t h j pair.below).ready.small)

    pub two_lines : HeldSheet t → TwoLines (op_at t i) (op_at t j)
    two_lines held =
        record {
          first = pair.first;
          second = pair.second;
          first_placed = operator_back t h held i pair.here;
          second_placed = operator_back t h held j pair.below;
        }
