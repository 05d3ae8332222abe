-- What a step and a line keep to: the lengths of the item and of the variables, and every variable that they do not name.
-- Assumes nothing.
use mathlib.Core.Path.{◌≡◌, refl, sym, ap, ◌∙◌}
use mathlib.Core.Bool.{Bool, true, false, cond}
use mathlib.Core.List.{List, [], ◌∷◌}
use Prim.Native.Nat.{ℕ}
use lib.ListN.{length, get_or, length-set}
use lib.Seq.{get_or-set_other}
use lib.IntN.{ℤ, pos}
use Rattle.base_number.specs.Number.{between}
use Rattle.base_lists.specs.Lists.{member, chain}
use Rattle.base_lists.proofs.Tests.{neither, member_append}
use Rattle.base_lists.proofs.Members.{not_only}
use Rattle.sheet_step.specs.Step.{row_of, step_names}
use Rattle.sheet_step.specs.declared.Func.{Func}
use Rattle.sheet_step.specs.declared.Func.TheVariants.{None, Keep, Add, Copy, Count, Stamp}
use Rattle.sheet_step.specs.declared.Step.{Step}
use Rattle.run_effect.specs.declared.Flow.{Flow}
use Rattle.run_effect.specs.Flow.{field_of, with_field, with_var, dropped, does, stepped, lined}

-- what a step can do: nothing, drop the item, store one field, or count
module _ (P : Flow → Type 0) (s : Step) (x : Flow) (same : P x) (drop : P (dropped x)) (field : (p : ℕ) (z : ℤ) → P (with_field x p z))
    (counts : s.func ≡ Count → (z w : ℤ) → P (with_field (with_var x s.variable z) s.p w)) where
  keep_by : (b : Bool) → P (cond b x (dropped x))
  keep_by true = same
  keep_by false = drop

  does_by : (k : Func) → s.func ≡ k → P (does k s x)
  unfolding does
  does_by None e = same
  does_by Keep e = keep_by (between s.low (field_of x s.p) s.high)
  does_by Add e = field _ _
  does_by Copy e = field _ _
  does_by Count e = counts e _ _
  does_by Stamp e = field _ _

  step_by : (b : Bool) → P (cond b (does s.func s x) x)
  step_by true = does_by s.func refl
  step_by false = same

  pub stepped_keeps : P (stepped s x)
  unfolding stepped
  stepped_keeps = step_by x.kept

stepped_vars_length : (s : Step) (x : Flow) → length (stepped s x).vars ≡ length x.vars
stepped_vars_length s x =
    stepped_keeps (λ (y : Flow). length y.vars ≡ length x.vars) s x refl refl (λ p z. refl) (λ e z w. length-set x.vars s.variable z)

stepped_item_length : (s : Step) (x : Flow) → length (stepped s x).item.f ≡ length x.item.f
stepped_item_length s x =
    stepped_keeps (λ (y : Flow). length y.item.f ≡ length x.item.f) s x refl refl (λ p z. length-set x.item.f p z)
    (λ e z w. length-set x.item.f s.p w)

-- only Count writes a variable, the one that its step names
count_names : (s : Step) (v : ℕ) → s.func ≡ Count → member v (step_names s) ≡ false → v ≡ s.variable → ⊥
unfolding step_names
count_names s v e h = not_only v s.variable (ap (λ (f : Func). member v (cond (row_of f).variable (s.variable ∷ []) [])) (sym e) ∙ h)

stepped_frame : (s : Step) (x : Flow) (v : ℕ) → member v (step_names s) ≡ false → get_or (stepped s x).vars v (pos 0) ≡ get_or x.vars v (pos 0)
stepped_frame s x v h =
    stepped_keeps (λ (y : Flow). get_or y.vars v (pos 0) ≡ get_or x.vars v (pos 0)) s x refl refl (λ p z. refl)
    (λ e z w. get_or-set_other x.vars s.variable v z (pos 0) (count_names s v e h))

pub lined_vars_length : (ss : List Step) (x : Flow) → length (lined ss x).vars ≡ length x.vars
lined_vars_length [] x = refl
lined_vars_length (s ∷ ss) x = lined_vars_length ss (stepped s x) ∙ stepped_vars_length s x

pub lined_item_length : (ss : List Step) (x : Flow) → length (lined ss x).item.f ≡ length x.item.f
lined_item_length [] x = refl
lined_item_length (s ∷ ss) x = lined_item_length ss (stepped s x) ∙ stepped_item_length s x

pub lined_frame : (ss : List Step) (x : Flow) (v : ℕ) → member v (chain step_names ss) ≡ false → get_or (lined ss x).vars v (pos 0) ≡ get_or x.vars v (pos 0)
lined_frame [] x v h = refl
lined_frame (s ∷ ss) x v h =
    let n = neither (member v (step_names s)) (member v (chain step_names ss)) (sym (member_append v (step_names s) (chain step_names ss)) ∙ h) in
    lined_frame ss (stepped s x) v n.1 ∙ stepped_frame s x v n.0
