-- A step by its function, and a line one step at a time.
-- Assumes nothing.
use mathlib.Core.Path.{◌≡◌, refl, sym, ap, ◌∙◌}
use mathlib.Core.Bool.{Bool, false, cond, not}
use mathlib.Core.List.{List, [], ◌∷◌, ◌++◌}
use Prim.Native.Nat.{ℕ, ◌+◌}
use borrow.Author.Tests.{not-false}
use Rattle.base_lists.specs.Lists.{build}
use Rattle.base_lists.proofs.Build.{build_snoc}
use Rattle.sheet_step.specs.declared.Func.{Func}
use Rattle.sheet_step.specs.declared.Step.{Step}
use Rattle.run_effect.specs.declared.Flow.{Flow}
use Rattle.run_effect.specs.Flow.{does, stepped, lined}

pub step_of : (s : Step) (x : Flow) (k : Func) (y : Flow) → not x.kept ≡ false → s.func ≡ k → y ≡ does k s x → y ≡ stepped s x
unfolding stepped
step_of s x k y h e f = f ∙ sym (ap (λ (b : Bool). cond b (does s.func s x) x) (not-false x.kept h) ∙ ap (λ (j : Func). does j s x) e)

pub step_of_dropped : (s : Step) (x : Flow) → x.kept ≡ false → x ≡ stepped s x
unfolding stepped
step_of_dropped s x h = sym (ap (λ (b : Bool). cond b (does s.func s x) x) h)

-- one step more
pub lined_append : (ss ts : List Step) (x : Flow) → lined (ss ++ ts) x ≡ lined ts (lined ss x)
lined_append [] ts x = refl
lined_append (s ∷ ss) ts x = lined_append ss ts (stepped s x)

pub lined_more : (i : ℕ) (f : ℕ → Step) (x y z : Flow) → y ≡ lined (build i f) x → z ≡ stepped (f i) y → z ≡ lined (build (i + 1) f) x
lined_more i f x y z e g = g ∙ ap (stepped (f i)) e ∙ sym (ap (λ (ss : List Step). lined ss x) (build_snoc i f) ∙ lined_append (build i f) (f i ∷ []) x)
