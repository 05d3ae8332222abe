-- From the test of a sheet, accepted and calm, to what a rewriting of it answers.
-- Assumes nothing.
use mathlib.Core.Path.{◌≡◌, ap, ◌∙◌, sym, subst}
use mathlib.Core.Bool.{Bool, cond}
use Rattle.std.specs.Prelude.{Result, Err}
use Rattle.base_refusal.specs.declared.Refusal.{Refusal}
use Rattle.sheet.specs.declared.Sheet.{Sheet}
use Rattle.sheet.specs.Answer.{Paper, accepted, refused_for, is_accepted}
use Rattle.sheet.proofs.AnswerLaws.{refusal_refuses}
use Rattle.rewrite_rules.specs.Rewrite.{Remade}
use Rattle.rewrite_rules.specs.Answers.{not_rewritten, answering, Rewrites}
use Rattle.rewrite_rules.proofs.Answers.{rewrites_refused}
use Rattle.rewriter.specs.Calls.{calm_stands, if_calm}

module _ (t : Sheet) (r : Remade) where
  -- the inner call's answer, where the test accepts
  pub calm_answers : {x : Result Sheet Refusal} → accepted ≡ calm_stands t → Rewrites (answering r) x → Rewrites (if_calm t r) x
  calm_answers {x} e w = subst (λ (p : Paper). Rewrites (cond (is_accepted p) (answering r) (not_rewritten p)) x) e w

  -- and the test's refusal, where it refuses
  pub calm_refuses : (f : Refusal) → refused_for f.reason f.spot ≡ calm_stands t → Rewrites (if_calm t r) (Err f)
  calm_refuses f e =
      let p = refused_for f.reason f.spot in
      rewrites_refused (if_calm t r) f
      (ap (λ (q : Paper). cond (is_accepted q) (answering r) (not_rewritten q)) (sym e)
      ∙ ap (λ (b : Bool). cond b (answering r) (not_rewritten p)) (refusal_refuses f.reason f.spot))
