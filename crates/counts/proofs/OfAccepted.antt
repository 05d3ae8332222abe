-- What the loops over an accepted sheet's operators need of each of them: its sizes, and names that have flags.
-- Assumes nothing.
use mathlib.Core.Path.{◌≡◌}
use mathlib.Core.Bool.{true}
use Prim.Native.Nat.{ℕ, ◌<◌}
use native.Mathlib.Omega.{arith}
use lib.Dec.{ltb}
use borrow.Author.Tests.{lt-ltb}
use Rattle.base_lists.specs.Lists.{all}
use Rattle.base_lists.proofs.Members.{all_of_members}
use Rattle.sheet_operator.specs.Op.{names}
use Rattle.sheet_operator.specs.Memory.{view, Ready}
use Rattle.sheet_operator.proofs.ViewLaws.{ready_of_number, Small, small_view}
use Rattle.sheet_sets.specs.Sets.{FLAGS}
use Rattle.sheet.specs.Answer.{accepted}
use Rattle.sheet.specs.Check.{check_of}
use Rattle.sheet.specs.Sheet.{op_at}
use Rattle.sheet.specs.declared.Sheet.{Sheet}
use Rattle.sheet.proofs.Accepted.{accepted_facts, ranges_of_accepted}
use Rattle.sheet.proofs.Laws.{variable_below}

module _ (t : Sheet) (h : check_of t ≡ accepted) where
  pub operator_ready : (i : ℕ) → i < t.count → Ready (op_at t i)
  operator_ready i l = ready_of_number (op_at t i) ((accepted_facts t h).shaped i l)

  pub operator_small : (i : ℕ) → i < t.count → Small (view (op_at t i))
  operator_small i l = small_view (op_at t i) ((accepted_facts t h).shaped i l)

  pub names_have_flags : (i : ℕ) → i < t.count → all (λ (v : ℕ). ltb v FLAGS) (names (view (op_at t i))) ≡ true
  names_have_flags i l =
      all_of_members (λ (v : ℕ). ltb v FLAGS) (names (view (op_at t i)))
      (λ v m. lt-ltb v FLAGS (omega (arith, ranges_of_accepted t h, variable_below t h i v l m)))
