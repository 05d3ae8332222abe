-- Operators in memory, place by place: a sheet's operators are read back from their places, and the sheet is accepted where each is kept after those before it.
-- Assumes nothing.
use mathlib.Core.Path.{◌≡◌, ap, ◌∙◌}
use mathlib.Core.Bool.{true}
use mathlib.Core.List.{List, map}
use Prim.Native.Nat.{ℕ, ◌<◌, ◌≤◌}
use native.Mathlib.Omega.{arith}
use lib.ListN.{length, get_or, take, length-map, get_or-eq_default, get_or-map}
use lib.Seq.{take-length}
use Rattle.base_lists.specs.Lists.{pad}
use Rattle.base_lists.proofs.Build.{build_length, build_get_or, build_ext, take_build}
use Rattle.base_lists.proofs.Pad.{pad_length, pad_get_or}
use Rattle.base_lists.proofs.Places.{get_d_any}
use Rattle.sheet_operator.specs.Op.{Op, double, Abstract}
use Rattle.sheet_operator.specs.declared.Operator.{Operator}
use Rattle.sheet_operator.specs.Memory.{view, memory, memory_number, vacant, no_operator}
use Rattle.sheet_operator.proofs.ViewLaws.{Small, view_memory, number_memory, vacant_no_operator}
use Rattle.sheet_judge.specs.Judge.{known, judge, whole}
use Rattle.sheet_format.specs.Head.{head_good}
use Rattle.base_bounds.specs.Bounds.{OPERATORS}
use Rattle.sheet.specs.declared.Sheet.{Sheet}
use Rattle.sheet.specs.Sheet.{missing, op_at, view_to, view_sheet, memory_sheet}
use Rattle.sheet.proofs.Accepted.{Accepted}

-- the operator at a place of the list, and the first operators of a sheet
abbrev pub nth : List Op → ℕ → Op
nth os k = get_or os k (double 0 0 0)

abbrev pub cut_to : Abstract → ℕ → Abstract
cut_to b i = record { inputs = b.inputs; queues = b.queues; variables = b.variables; ops = take i b.ops }

-- the sheet's operators by their places
pub ops_many : (t : Sheet) → length (view_sheet t).ops ≡ t.count
ops_many t = build_length t.count (λ (k : ℕ). view (op_at t k))

pub ops_at : (t : Sheet) (i : ℕ) → i < t.count → nth (view_sheet t).ops i ≡ view (op_at t i)
ops_at t i l = build_get_or t.count (λ (k : ℕ). view (op_at t k)) (double 0 0 0) i l

-- the places of a list of operators
abbrev pub places : List Op → List Operator
places os = pad OPERATORS no_operator (map memory os)

place : (os : List Op) (i : ℕ) → i < OPERATORS → get_or (places os) i missing ≡ get_or (map memory os) i no_operator
place os i l =
    let n = pad_length OPERATORS no_operator (map memory os) in
    get_d_any (places os) i missing no_operator (omega arith) ∙ pad_get_or OPERATORS no_operator (map memory os) i l

pub place_used : (os : List Op) (i : ℕ) → i < OPERATORS → i < length os → get_or (places os) i missing ≡ memory (nth os i)
place_used os i b l =
    let n = length-map os memory in
    place os i b ∙ get_d_any (map memory os) i no_operator (memory (double 0 0 0)) (omega arith) ∙ get_or-map memory os i (double 0 0 0)

pub place_past : (os : List Op) (i : ℕ) → i < OPERATORS → length os ≤ i → get_or (places os) i missing ≡ no_operator
place_past os i b l =
    let n = length-map os memory in
    place os i b ∙ get_or-eq_default (map memory os) no_operator {n = i} (omega arith)

module _ (b : Abstract) (room : length b.ops ≤ OPERATORS) (small : (k : ℕ) → k < length b.ops → Small (nth b.ops k)) where
  view_place : (i : ℕ) → i < length b.ops → view (op_at (memory_sheet b) i) ≡ nth b.ops i
  view_place i l = ap view (place_used b.ops i (omega arith) l) ∙ view_memory (nth b.ops i) (small i l)

  view_first : (i : ℕ) → i ≤ length b.ops → view_to (memory_sheet b) i ≡ cut_to b i
  view_first i l =
      ap (λ (os : List Op). record { inputs = b.inputs; queues = b.queues; variables = b.variables; ops = os })
      (build_ext i (λ (k : ℕ). view (op_at (memory_sheet b) k)) (nth b.ops) (λ k h. view_place k (omega arith))
      ∙ take_build i b.ops (double 0 0 0) l)

  -- the sheet in memory stands for the list
  pub view_back : view_sheet (memory_sheet b) ≡ b
  view_back =
      view_first (length b.ops) (omega arith)
      ∙ ap (λ (os : List Op). record { inputs = b.inputs; queues = b.queues; variables = b.variables; ops = os }) (take-length b.ops)

  -- and it is accepted where the judge keeps each operator after those before it, and every queue is defined
  pub accepted_placed : head_good b.inputs b.queues b.variables (length b.ops) ≡ true →
      ((i : ℕ) → i < length b.ops → judge (cut_to b i) (nth b.ops i) ≡ 0) → whole b.queues (known b) ≡ true → Accepted (memory_sheet b)
  accepted_placed good judged w =
      record {
        head = good;
        shaped = λ i l. ap memory_number (place_used b.ops i (omega arith) l) ∙ number_memory (nth b.ops i) (small i l);
        judged =
            λ i l.
            ap (λ (a : Abstract). judge a (view (op_at (memory_sheet b) i))) (view_first i (omega arith))
            ∙ ap (judge (cut_to b i)) (view_place i l) ∙ judged i l;
        vacant = λ i l h. ap vacant (place_past b.ops i h l) ∙ vacant_no_operator;
        defined = ap (λ (a : Abstract). whole b.queues (known a)) view_back ∙ w;
      }
