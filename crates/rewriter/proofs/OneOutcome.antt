-- Two outcomes that meet the same contract are equal: the answers of fuse, split and reorder.
-- Assumes nothing.
use mathlib.Core.Path.{◌≡◌, sym, ◌∙◌}
use Prim.Native.Nat.{ℕ}
use Rattle.std.specs.Prelude.{Result}
use Rattle.base_refusal.specs.declared.Refusal.{Refusal}
use Rattle.sheet.specs.declared.Sheet.{Sheet}
use Rattle.sheet.specs.Sheet.{no_sheet}
use Rattle.sheet.proofs.AnswerLaws.{answer_injective}
use Rattle.rewrite_rules.specs.Answers.{Rewriting, Rewrites}
use Rattle.rewriter.specs.Calls.{fuse_of, split_of, reorder_of}

pub rewrites_one : {c : Rewriting} {r r' : Result Sheet Refusal} → Rewrites c r → Rewrites c r' → r ≡ r'
rewrites_one {r = r} {r' = r'} h k = answer_injective r r' no_sheet (h.answered ∙ sym k.answered) (h.made ∙ sym k.made)

pub fuse_one : (t : Sheet) (a : ℕ) (r r' : Result Sheet Refusal) → Rewrites (fuse_of t a) r → Rewrites (fuse_of t a) r' → r ≡ r'
fuse_one t a r r' h k = rewrites_one h k

pub split_one : (t : Sheet) (a n : ℕ) (r r' : Result Sheet Refusal) → Rewrites (split_of t a n) r → Rewrites (split_of t a n) r' → r ≡ r'
split_one t a n r r' h k = rewrites_one h k

pub reorder_one : (t : Sheet) (a : ℕ) (r r' : Result Sheet Refusal) → Rewrites (reorder_of t a) r → Rewrites (reorder_of t a) r' → r ≡ r'
reorder_one t a r r' h k = rewrites_one h k
