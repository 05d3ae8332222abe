-- An accepted sheet that the program holds is the places of the sheet that it stands for, operator by operator and as a whole.
-- Assumes nothing.
use mathlib.Core.Path.{◌≡◌, refl, ap, ◌∙◌, sym}
use mathlib.Core.Logic.{⊎_elim}
use mathlib.Core.List.{List, map}
use Prim.Native.Nat.{ℕ, ◌<◌, ◌≤◌}
use native.Mathlib.Omega.{arith}
use lib.ListN.{get_or}
use lib.Seq.{ext_get_or}
use mir.Val.{Val}
use Rattle.base_lists.proofs.Build.{order}
use Rattle.base_lists.proofs.Pad.{pad_length}
use Rattle.sheet_operator.specs.declared.Operator.{Operator}
use Rattle.sheet_operator.specs.Memory.{view, memory, no_operator}
use Rattle.sheet_operator.proofs.ViewLaws.{memory_view, vacant_is}
use Rattle.sheet_operator.proofs.Held.{Owned, held_row}
use Rattle.base_bounds.specs.Bounds.{OPERATORS}
use Rattle.sheet.specs.declared.Sheet.{Sheet}
use Rattle.sheet.specs.Answer.{accepted}
use Rattle.sheet.specs.Sheet.{missing, op_at, view_sheet, memory_sheet, HeldSheet}
use Rattle.sheet.specs.Check.{check_of}
use Rattle.sheet.proofs.Accepted.{accepted_facts, ranges_of_accepted}
use Rattle.sheet.proofs.Placed.{ops_many, ops_at, places, place_used, place_past}
use Rattle.sheet.specs.contracts.Sheet as sheet

-- what owning a sheet tells of it
pub held_sheet : (t : Sheet) (vs : List Val) → Owned sheet.the_field t vs → HeldSheet t
held_sheet t vs p =
    let ops = held_row OPERATORS t.operators _ p.1.1.1.1.1.1.0 in
    record { full = ops.0; each = λ i l. ops.1 i missing l }

pub sheet_eq : {i i' q q' v v' n n' : ℕ} {os os' : List Operator} → i ≡ i' → q ≡ q' → v ≡ v' → n ≡ n' → os ≡ os' →
    ◌≡◌ {A = Sheet} (record { inputs = i; queues = q; variables = v; count = n; operators = os })
    (record { inputs = i'; queues = q'; variables = v'; count = n'; operators = os' })
sheet_eq a b c d e = cc

module _ (t : Sheet) (h : check_of t ≡ accepted) (held : HeldSheet t) where
  pub operator_back : (i : ℕ) → i < t.count → memory (view (op_at t i)) ≡ op_at t i
  operator_back i l =
      memory_view (op_at t i) (held.each i (omega (arith, (ranges_of_accepted t h).count))) ((accepted_facts t h).shaped i l)

  same_place : (i : ℕ) → i < OPERATORS → get_or (places (view_sheet t).ops) i missing ≡ op_at t i
  same_place i b =
      ⊎_elim
      (λ (l : i < t.count).
      place_used (view_sheet t).ops i b (omega (arith, ops_many t)) ∙ ap memory (ops_at t i l) ∙ operator_back i l)
      (λ (l : t.count ≤ i).
      place_past (view_sheet t).ops i b (omega (arith, ops_many t)) ∙ sym (vacant_is (op_at t i) (held.each i b) ((accepted_facts t h).vacant i l b)))
      (order i t.count)

  pub operators_back : places (view_sheet t).ops ≡ t.operators
  operators_back =
      let n = pad_length OPERATORS no_operator (map memory (view_sheet t).ops) in
      ext_get_or missing (places (view_sheet t).ops) t.operators (n ∙ sym held.full) (λ i l. same_place i (rw n at l))

  pub memory_back : memory_sheet (view_sheet t) ≡ t
  memory_back = sheet_eq refl refl refl (ops_many t) operators_back
