-- What a rewriting answers: the new sheet in memory, or the refusal.
use Rattle.std.specs.Prelude.{◌≡◌, Result}
use Rattle.std.specs.Result.{result_unwrap_or}
use Rattle.base_refusal.specs.declared.Refusal.{Refusal}
use Rattle.sheet.specs.declared.Sheet.{Sheet}
use Rattle.sheet.specs.Answer.{Paper, accepted, refused, paper}
use Rattle.sheet.specs.Sheet.{memory_sheet, no_sheet}
use Rattle.rewrite_rules.specs.Rewrite.{Remade, refuse, rewritten}

-- the new sheet; on a refusal the one fixed sheet
pub record Rewriting : Type 0 where
  pub answer : Paper
  pub sheet : Sheet

abbrev pub not_rewritten : Paper → Rewriting
not_rewritten p = record { answer = p; sheet = no_sheet }

abbrev pub answering : Remade → Rewriting
answering (refuse k) = not_rewritten (refused k)
answering (rewritten a) = record { answer = accepted; sheet = memory_sheet a }

-- answer and sheet are the rewriting's
pub record Rewrites (c : Rewriting) (r : Result Sheet Refusal) : Type 0 where
  pub answered : paper r ≡ c.answer
  pub made : result_unwrap_or r no_sheet ≡ c.sheet
