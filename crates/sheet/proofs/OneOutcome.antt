-- The check of a sheet has one outcome: two answers that meet its contract are equal.
-- Assumes nothing.
use mathlib.Core.Path.{◌≡◌, ◌∙◌, sym}
use Rattle.std.specs.Prelude.{Result}
use Rattle.base_refusal.specs.declared.Refusal.{Refusal}
use Rattle.sheet.specs.declared.Sheet.{Sheet}
use Rattle.sheet.specs.Answer.{paper}
use Rattle.sheet.specs.Check.{check_of}
use Rattle.sheet.proofs.AnswerLaws.{paper_injective}

pub check_one : (t : Sheet) (r r' : Result (Unit {0}) Refusal) → paper r ≡ check_of t → paper r' ≡ check_of t → r ≡ r'
check_one t r r' e d = paper_injective r r' (e ∙ sym d)
