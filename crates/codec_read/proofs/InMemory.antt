-- A list of operators and the sheet in memory that holds it: the sheet is accepted exactly where the operators follow each other, and their numbers fit.
-- Assumes nothing.
use mathlib.Core.Path.{◌≡◌, ap, ◌∙◌}
use mathlib.Core.Bool.{true}
use mathlib.Core.List.{List}
use Prim.Native.Nat.{ℕ, ◌<◌, ◌≤◌}
use native.Mathlib.Omega.{arith}
use lib.ListN.{length}
use Rattle.base_lists.proofs.Build.{take_of_build}
use Rattle.sheet_operator.specs.Op.{Op, double, Abstract}
use Rattle.sheet_operator.specs.Memory.{view}
use Rattle.sheet_operator.proofs.ViewLaws.{small_view}
use Rattle.sheet_judge.specs.Judge.{known, judge, whole}
use Rattle.sheet_format.specs.Head.{head_good}
use Rattle.base_bounds.specs.Bounds.{OPERATORS}
use Rattle.sheet_format.proofs.Sizes.{FitsOp}
use Rattle.sheet_format.proofs.Heads.{ranges_of_good}
use Rattle.sheet_format.proofs.Read.{fits_as}
use Rattle.sheet.specs.declared.Sheet.{Sheet}
use Rattle.sheet.specs.Sheet.{op_at, view_to, view_sheet, memory_sheet, HeldSheet}
use Rattle.sheet.proofs.Accepted.{Accepted}
use Rattle.sheet.proofs.Placed.{nth, cut_to, ops_many, ops_at, accepted_placed}
use Rattle.codec_read.proofs.Follow.{with_all, Follow}

-- operators that follow each other after a good head, and that define every queue, make an accepted sheet
pub accepted_memory : (b : Abstract) → head_good b.inputs b.queues b.variables (length b.ops) ≡ true → Follow (cut_to b 0) b.ops →
    whole b.queues (known b) ≡ true → Accepted (memory_sheet b)
accepted_memory b good f w =
    accepted_placed b (ranges_of_good b.inputs b.queues b.variables (length b.ops) good).count f.small good f.judged w

module _ (t : Sheet) (good : Accepted t) where
  within : (k : ℕ) → k < length (view_sheet t).ops → k < t.count
  within k l = rw (ops_many t) at l

  -- the operators of an accepted sheet follow each other
  pub follow_view : Follow (view_to t 0) (view_sheet t).ops
  follow_view =
      record {
        judged =
            λ k l.
            let m = within k l in
            ap (λ (os : List Op). judge (with_all (view_to t 0) os) (nth (view_sheet t).ops k))
            (take_of_build t.count k (λ (j : ℕ). view (op_at t j)) (double 0 0 0) (omega arith))
            ∙ ap (judge (view_to t k)) (ops_at t k m) ∙ good.judged k m;
        small = λ k l. let m = within k l in rw (ops_at t k m) (small_view (op_at t k) (good.shaped k m));
      }

  count_room : t.count ≤ OPERATORS
  count_room = (ranges_of_good t.inputs t.queues t.variables t.count good.head).count

  module _ (held : HeldSheet t) where
    pub fits_view : (k : ℕ) → k < length (view_sheet t).ops → FitsOp (nth (view_sheet t).ops k)
    fits_view k l = let m = within k l in rw (ops_at t k m) (fits_as (op_at t k).kind (op_at t k) (held.each k (omega (arith, count_room))))
