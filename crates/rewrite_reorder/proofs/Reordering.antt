-- Two lines that exchange their steps: the refusals in order, and the sheet in memory that comes of it.
-- Assumes nothing.
use mathlib.Core.Path.{◌≡◌, refl, sym, ap, ap₂, ◌∙◌}
use mathlib.Core.Bool.{Bool, true, false, cond}
use mathlib.Core.List.{List}
use Prim.Native.Nat.{ℕ}
use native.Mathlib.Omega.{arith}
use lib.ListN.{length, set, length-set}
use Rattle.std.specs.Prelude.{Err}
use Rattle.base_refusal.specs.declared.Reason.{Reason}
use Rattle.base_refusal.specs.Refusal.{number_of}
use Rattle.sheet_operator.specs.Op.{Op, line}
use Rattle.sheet_operator.specs.Memory.{view, memory}
use Rattle.sheet_operator.specs.declared.Operator.{Operator}
use Rattle.sheet.specs.declared.Sheet.{Sheet}
use Rattle.sheet.specs.Answer.{accepted}
use Rattle.sheet.specs.Sheet.{op_at, view_sheet, memory_sheet, HeldSheet}
use Rattle.sheet.specs.Check.{check_of}
use Rattle.sheet.proofs.Accepted.{ranges_of_accepted}
use Rattle.sheet.proofs.Placed.{ops_many, ops_at, places}
use Rattle.sheet.proofs.InMemory.{sheet_eq, operators_back}
use Rattle.rewrite_rules.specs.Rewrite.{Remade, refuse, rewritten, in_of, out_of, steps_of, at, next_of, exchanged, reorder}
use Rattle.rewrite_rules.specs.Working.{Pair, Follows}
use Rattle.rewrite_reorder.specs.Working.{may_exchange}
use Rattle.rewrite_rules.proofs.Lines.{set_places}
use Rattle.rewrite_rules.proofs.Pairs.{not_two_lines, two_lines_there}

-- the refusals of reorder
module _ (t : Sheet) (i : ℕ) where
  abbrev both : Bool
  both = may_exchange (at (view_sheet t) i) (at (view_sheet t) (next_of (view_sheet t) i))

  abbrev allowed : Bool → Remade
  allowed b = cond b (rewritten (exchanged (view_sheet t) i (next_of (view_sheet t) i))) (refuse 17)

  pub reorder_refused : (k : Reason) → Follows t i (Err k) → reorder (view_sheet t) i ≡ refuse (number_of k)
  unfolding reorder
  reorder_refused k f = not_two_lines t i k f (allowed both)

  module _ (j : ℕ) (pair : Pair t i j) where
    reorder_by : (b : Bool) → may_exchange (view (op_at t i)) (view (op_at t j)) ≡ b → reorder (view_sheet t) i ≡ allowed b
    unfolding reorder
    reorder_by b e =
        two_lines_there t i j pair (allowed both)
        ∙ ap allowed
        (ap (λ (k : ℕ). may_exchange (at (view_sheet t) i) (at (view_sheet t) k)) (sym pair.next)
        ∙ ap₂ may_exchange (ops_at t i pair.here) (ops_at t j pair.below) ∙ e)

    pub reorder_forbidden : may_exchange (view (op_at t i)) (view (op_at t j)) ≡ false → reorder (view_sheet t) i ≡ refuse 17
    reorder_forbidden e = reorder_by false e

    pub reorder_done : may_exchange (view (op_at t i)) (view (op_at t j)) ≡ true → reorder (view_sheet t) i ≡ rewritten (exchanged (view_sheet t) i j)
    reorder_done e = reorder_by true e ∙ ap (λ (k : ℕ). rewritten (exchanged (view_sheet t) i k)) (sym pair.next)

-- the sheet in memory
module _ (t : Sheet) (h : check_of t ≡ accepted) (held : HeldSheet t) (i j : ℕ) (pair : Pair t i j) where
  -- operator i's queues with operator j's steps
  abbrev mixed : ℕ → ℕ → Op
  mixed i j = line (in_of (view (op_at t i))) (out_of (view (op_at t i))) (steps_of (view (op_at t j)))

  pub exchanged_places : (x y : Operator) → x ≡ memory (mixed i j) → y ≡ memory (mixed j i) →
      ◌≡◌ {A = Sheet}
      (record { inputs = t.inputs; queues = t.queues; variables = t.variables; count = t.count; operators = set (set t.operators i x) j y })
      (memory_sheet (exchanged (view_sheet t) i j))
  exchanged_places x y e d =
      let os = (view_sheet t).ops in
      let n = ops_many t in
      let r = (ranges_of_accepted t h).count in
      let l = pair.here in
      let b = pair.below in
      let one : set t.operators i x ≡ places (set os i (mixed i j)) =
      ap₂ (λ (u : List Operator) (v : Operator). set u i v) (sym (operators_back t h held)) e
      ∙ set_places os i (mixed i j) (omega arith) (omega arith) in
      let m = length-set os i (mixed i j) in
      let two : set (set t.operators i x) j y ≡ places (set (set os i (mixed i j)) j (mixed j i)) =
      ap₂ (λ (u : List Operator) (v : Operator). set u j v) one d ∙ set_places (set os i (mixed i j)) j (mixed j i) (omega arith) (omega arith) in
      let same : (exchanged (view_sheet t) i j).ops ≡ set (set os i (mixed i j)) j (mixed j i) =
      ap₂ (λ (u v : Op). set (set os i (line (in_of u) (out_of u) (steps_of v))) j (line (in_of v) (out_of v) (steps_of u)))
      (ops_at t i l) (ops_at t j b) in
      sheet_eq refl refl refl (sym (ap length same ∙ length-set (set os i (mixed i j)) j (mixed j i) ∙ m ∙ n)) (two ∙ ap places (sym same))
