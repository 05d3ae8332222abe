-- What an answer of the code is against a rewriting: without a sheet, and with one.
-- Assumes nothing.
use mathlib.Core.Path.{◌≡◌, refl, ap}
use Rattle.std.specs.Prelude.{Ok, Err, None}
use Rattle.base_refusal.specs.declared.Reason.{Reason}
use Rattle.base_refusal.specs.declared.Refusal.{Refusal}
use Rattle.base_refusal.specs.Refusal.{number_of, refusal}
use Rattle.sheet_operator.specs.Op.{Abstract}
use Rattle.sheet.specs.declared.Sheet.{Sheet}
use Rattle.sheet.specs.Answer.{refused_for}
use Rattle.sheet.specs.Sheet.{memory_sheet}
use Rattle.rewrite_rules.specs.Rewrite.{Remade, refuse, rewritten}
use Rattle.rewrite_rules.specs.Answers.{Rewriting, not_rewritten, answering, Rewrites}

pub rewrites_refused : (c : Rewriting) (e : Refusal) → c ≡ not_rewritten (refused_for e.reason e.spot) → Rewrites c (Err e)
rewrites_refused c e h = rw h (record { answered = refl; made = refl })

pub rewrites_no : (r : Remade) (reason : Reason) → r ≡ refuse (number_of reason) → Rewrites (answering r) (Err (refusal reason None))
rewrites_no r reason e = rewrites_refused (answering r) (refusal reason None) (ap answering e)

pub rewrites_done : (r : Remade) (b : Abstract) (u : Sheet) → r ≡ rewritten b → u ≡ memory_sheet b → Rewrites (answering r) (Ok u)
rewrites_done r b u e h = rw e (record { answered = refl; made = h })
