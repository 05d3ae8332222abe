-- Two lines that become one: the refusals in order, and the sheet in memory that comes of it.
-- Assumes nothing.
use mathlib.Core.Path.{◌≡◌, refl, sym, ap, ap₂, ◌∙◌}
use mathlib.Core.Bool.{Bool, true, false, cond}
use mathlib.Core.List.{List, ◌++◌, map}
use Prim.Native.Nat.{ℕ, ◌+◌, ◌-◌, ◌<◌, ◌≤◌}
use native.Mathlib.Omega.{arith}
use lib.Dec.{leb}
use lib.ListN.{length, get_or, set, take, length-set, length-map}
use borrow.Author.Tests.{le-leb, lt-leb}
use Rattle.std.specs.Prelude.{Err}
use Rattle.base_refusal.specs.declared.Reason.{Reason}
use Rattle.base_refusal.specs.Refusal.{number_of}
use Rattle.base_lists.specs.Lists.{pad}
use Rattle.base_lists.proofs.Pad.{pad_take}
use Rattle.sheet_operator.specs.Op.{Op, line, double}
use Rattle.sheet_operator.specs.Memory.{PLACES, view, memory, no_operator}
use Rattle.sheet_operator.specs.declared.Operator.{Operator}
use Rattle.base_bounds.specs.Bounds.{OPERATORS}
use Rattle.sheet.specs.declared.Sheet.{Sheet}
use Rattle.sheet.specs.Answer.{accepted}
use Rattle.sheet.specs.Sheet.{op_at, view_sheet, memory_sheet, HeldSheet}
use Rattle.sheet.specs.Check.{check_of}
use Rattle.sheet.proofs.Accepted.{ranges_of_accepted}
use Rattle.sheet.proofs.Placed.{ops_many, ops_at, places}
use Rattle.sheet.proofs.InMemory.{sheet_eq, operators_back}
use Rattle.rewrite_rules.specs.Rewrite.{Remade, refuse, rewritten, in_of, out_of, steps_of, at, next_of, lowered, fused, fuse}
use Rattle.rewrite_rules.specs.Working.{Pair, Follows}
use Rattle.rewrite_fuse.specs.Working.{without, lowered_in}
use Rattle.rewrite_rules.proofs.Lines.{line_out, line_length, set_places}
use Rattle.rewrite_rules.proofs.Pairs.{not_two_lines, two_lines_there}
use Rattle.rewrite_fuse.proofs.Falling.{all_lowered, without_length, map_without}

-- the refusals of fuse
module _ (t : Sheet) (i : ℕ) where
  abbrev steps : ℕ
  steps = length (steps_of (at (view_sheet t) i)) + length (steps_of (at (view_sheet t) (next_of (view_sheet t) i)))

  abbrev fits : Bool → Remade
  fits b = cond b (rewritten (fused (view_sheet t) i (next_of (view_sheet t) i))) (refuse 16)

  pub fuse_refused : (k : Reason) → Follows t i (Err k) → fuse (view_sheet t) i ≡ refuse (number_of k)
  unfolding fuse
  fuse_refused k f = not_two_lines t i k f (fits (leb steps PLACES))

  module _ (j : ℕ) (pair : Pair t i j) where
    fuse_by : (b : Bool) → leb steps PLACES ≡ b → fuse (view_sheet t) i ≡ fits b
    unfolding fuse
    fuse_by b e = two_lines_there t i j pair (fits (leb steps PLACES)) ∙ ap fits e

    counted : steps ≡ (op_at t i).count + (op_at t j).count
    counted =
        ap (λ (k : ℕ). length (steps_of (at (view_sheet t) i)) + length (steps_of (at (view_sheet t) k))) (sym pair.next)
        ∙ ap₂ (λ (x y : Op). length (steps_of x) + length (steps_of y)) (ops_at t i pair.here) (ops_at t j pair.below)
        ∙ ap₂ (λ (m n : ℕ). m + n) (line_length (op_at t i) pair.first) (line_length (op_at t j) pair.second)

    pub fuse_long : PLACES < (op_at t i).count + (op_at t j).count → fuse (view_sheet t) i ≡ refuse 16
    fuse_long e = fuse_by false (lt-leb steps PLACES (omega (arith, counted)))

    pub fuse_done : (op_at t i).count + (op_at t j).count ≤ PLACES → fuse (view_sheet t) i ≡ rewritten (fused (view_sheet t) i j)
    fuse_done e =
        fuse_by true (le-leb steps PLACES (omega (arith, counted)))
        ∙ ap (λ (k : ℕ). rewritten (fused (view_sheet t) i k)) (sym pair.next)

-- the places of the first operators, without one of them and without a queue
closed_places : (os : List Op) (m j n : ℕ) → length os ≡ n → n ≤ OPERATORS → j < n →
    pad OPERATORS no_operator (map (lowered_in m) (without j (take n (places os)))) ≡ places (map (lowered m) (without j os))
closed_places os m j n e b h =
    let len = length-map os memory in
    let front : take n (places os) ≡ map memory os =
    ap (λ (k : ℕ). take k (places os)) (sym (len ∙ e)) ∙ pad_take OPERATORS no_operator (map memory os) (omega arith) in
    ap (λ (l : List Operator). pad OPERATORS no_operator (map (lowered_in m) (without j l))) front
    ∙ ap (λ (l : List Operator). pad OPERATORS no_operator (map (lowered_in m) l)) (sym (map_without memory os j (double 0 0 0) (omega arith)))
    ∙ ap (pad OPERATORS no_operator) (all_lowered m (without j os))

-- the sheet in memory
module _ (t : Sheet) (h : check_of t ≡ accepted) (held : HeldSheet t) (i j : ℕ) (pair : Pair t i j) where
  -- the fused line
  abbrev one : Op
  one = line (in_of (view (op_at t i))) (out_of (view (op_at t j))) (steps_of (view (op_at t i)) ++ steps_of (view (op_at t j)))

  pub fused_places : (x : Operator) (os : List Operator) → x ≡ memory one →
      os ≡ pad OPERATORS no_operator (map (lowered_in (get_or (op_at t i).outs 0 0)) (without j (take t.count (set t.operators i x)))) →
      ◌≡◌ {A = Sheet}
      (record { inputs = t.inputs; queues = t.queues - 1; variables = t.variables; count = t.count - 1; operators = os })
      (memory_sheet (fused (view_sheet t) i j))
  fused_places x os e d =
      let vs = (view_sheet t).ops in
      let n = ops_many t in
      let r = (ranges_of_accepted t h).count in
      let l = pair.here in
      let b = pair.below in
      let m = get_or (op_at t i).outs 0 0 in
      let len = length-set vs i one in
      let put : set t.operators i x ≡ places (set vs i one) =
      ap₂ (λ (u : List Operator) (v : Operator). set u i v) (sym (operators_back t h held)) e ∙ set_places vs i one (omega arith) (omega arith) in
      let all : os ≡ places (map (lowered m) (without j (set vs i one))) =
      d ∙ ap (λ (u : List Operator). pad OPERATORS no_operator (map (lowered_in m) (without j (take t.count u)))) put
      ∙ closed_places (set vs i one) m j t.count (len ∙ n) r b in
      let same : (fused (view_sheet t) i j).ops ≡ map (lowered m) (without j (set vs i one)) =
      ap₂ (λ (u v : Op). map (lowered (out_of u)) (without j (set vs i (line (in_of u) (out_of v) (steps_of u ++ steps_of v)))))
      (ops_at t i l) (ops_at t j b)
      ∙ ap (λ (k : ℕ). map (lowered k) (without j (set vs i one))) (line_out (op_at t i) pair.first) in
      let many : length (fused (view_sheet t) i j).ops ≡ t.count - 1 =
      ap length same ∙ length-map (without j (set vs i one)) (lowered m)
      ∙ without_length (set vs i one) j (t.count - 1) (double 0 0 0) (omega arith) (omega arith) in
      sheet_eq refl refl refl (sym many) (all ∙ ap places (sym same))
