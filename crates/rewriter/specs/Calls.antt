-- What each rewriting answers on any sheet in memory: the sheet's own refusal, 13 where it is not calm, then its own.
use Rattle.std.specs.Prelude.{ℕ, cond}
use Rattle.sheet.specs.declared.Sheet.{Sheet}
use Rattle.sheet.specs.Answer.{Paper, accepted, refused, is_accepted}
use Rattle.sheet.specs.Sheet.{view_sheet}
use Rattle.sheet.specs.Check.{check_of}
use Rattle.counts.specs.Calm.{is_calm}
use Rattle.rewrite_rules.specs.Rewrite.{Remade, fuse, split, reorder}
use Rattle.rewrite_rules.specs.Answers.{Rewriting, not_rewritten, answering}

abbrev pub calm_stands : Sheet → Paper
calm_stands t = cond (is_accepted (check_of t)) (cond (is_calm (view_sheet t)) accepted (refused 13)) (check_of t)

abbrev pub if_calm : Sheet → Remade → Rewriting
if_calm t r = cond (is_accepted (calm_stands t)) (answering r) (not_rewritten (calm_stands t))

unfoldable pub fuse_of : Sheet → ℕ → Rewriting
fuse_of t i = if_calm t (fuse (view_sheet t) i)

unfoldable pub split_of : Sheet → ℕ → ℕ → Rewriting
split_of t i k = if_calm t (split (view_sheet t) i k)

unfoldable pub reorder_of : Sheet → ℕ → Rewriting
reorder_of t i = if_calm t (reorder (view_sheet t) i)
