-- The steps of a line do to an item and to the variables what the theory's steps do.
-- Assumes nothing.
use mathlib.Core.Path.{◌≡◌, refl, sym, ap, ◌∙◌, fun_ext}
use mathlib.Core.Option.{Option, some, none}
use mathlib.Core.Bool.{Bool, true, false, cond}
use mathlib.Core.List.{List, [], ◌∷◌, map}
use mathlib.Core.Logic.{⊎_elim}
use Prim.Native.Nat.{ℕ, ◌<◌}
use lib.Dec.{ltb}
use lib.ListN.{length, get_or, set}
use lib.Seq.{get_or-set_same, get_or-set_other, set-get_or}
use lib.IntN.{ℤ, pos}
use borrow.Author.Tests.{eq-eqb, ne_eqb, ltb-true}
use Rattle.base_number.specs.Number.{between}
use Rattle.base_lists.specs.Lists.{all, chain}
use Rattle.base_lists.proofs.Build.{same_or}
use Rattle.base_lists.proofs.Tests.{both, all_append}
use Rattle.sheet_step.specs.Step.{row_of, step_names}
use Rattle.sheet_step.specs.declared.Func.{Func}
use Rattle.sheet_step.specs.declared.Func.TheVariants.{None, Keep, Add, Copy, Count, Stamp}
use Rattle.sheet_step.specs.declared.Step.{Step}
use Rattle.run_store.specs.declared.Item.{Item}
use Rattle.run_effect.specs.declared.Flow.{Flow}
use Rattle.run_effect.specs.Flow.{field_of, var_of, count_of, dropped, does, stepped, lined}
use Rattle.run_effect.proofs.FlowLaws.{lined_vars_length}
use Rattle.order_theory.proofs.Trace.{mark}
use Rattle.order_theory.proofs.Steps.{upd, one, then, runs, plus, tick}
use Rattle.order.proofs.Model.{TItem, step_by, step_as}

abbrev pub vars_as : List ℤ → ℕ → ℤ
vars_as vs k = get_or vs k (pos 0)

-- a variable written
pub set_as : (vs : List ℤ) (v : ℕ) (z : ℤ) → v < length vs → upd v z (vars_as vs) ≡ vars_as (set vs v z)
set_as vs v z l = fun_ext each
  where
    each : (k : ℕ) → upd v z (vars_as vs) k ≡ vars_as (set vs v z) k
    each k =
        ⊎_elim (λ (e : k ≡ v). rw (eq-eqb k v e, e) (sym (get_or-set_same vs v z (pos 0) l)))
        (λ (n : k ≡ v → ⊥). rw (ne_eqb k v n) (sym (get_or-set_other vs v k z (pos 0) n)))
        (same_or k v)

-- an item on its way, as the theory's steps leave it
abbrev pub Left : Type 0
Left = Option TItem × (ℕ → ℤ)

abbrev pub flow_as : Flow → Left
flow_as x = (mark x.kept x.item.f, vars_as x.vars)

kept_as : (x : Flow) (b : Bool) → x.kept ≡ true →
    ◌≡◌ {A = Left} (cond b (some x.item.f) none, vars_as x.vars) (flow_as (cond b x (dropped x)))
kept_as x true e = rw e
kept_as x false e = refl

-- the variables that a step names are among those there are
abbrev pub Known : List ℤ → List ℕ → Type 0
Known vs ns = all (λ (v : ℕ). ltb v (length vs)) ns ≡ true

counted_below : (s : Step) (vs : List ℤ) → s.func ≡ Count → Known vs (step_names s) → s.variable < length vs
unfolding step_names
counted_below s vs e h =
    ltb-true s.variable (length vs)
    (both (ltb s.variable (length vs)) true
    (sym (ap (λ (f : Func). all (λ (v : ℕ). ltb v (length vs)) (cond (row_of f).variable (s.variable ∷ []) [])) e) ∙ h)).0

one_by : (f : Func) (s : Step) (x : Flow) → s.func ≡ f → x.kept ≡ true → Known x.vars (step_names s) →
    one (step_by f s) x.item.f (vars_as x.vars) ≡ flow_as (does f s x)
unfolding one does plus tick
one_by None s x e k h = rw (k, set-get_or x.item.f s.p (pos 0))
one_by Keep s x e k h = kept_as x (between s.low (field_of x s.p) s.high) k
one_by Add s x e k h = rw k
one_by Copy s x e k h = rw k
one_by Count s x e k h =
    rw (k, set_as x.vars s.variable (count_of (var_of x s.variable)) (counted_below s x.vars e h))
one_by Stamp s x e k h = rw k

-- a dropped item passes every step
lined_dropped : (ss : List Step) (x : Flow) → x.kept ≡ false → lined ss x ≡ x
unfolding stepped
lined_dropped [] x k = refl
lined_dropped (s ∷ ss) x k = let e : stepped s x ≡ x = rw k in ap (lined ss) e ∙ lined_dropped ss x k

abbrev onward : List Step → Left → Left
onward ss r = then r.0 r.1 (runs (map step_as ss))

pub lined_as : (ss : List Step) (x : Flow) → Known x.vars (chain step_names ss) → onward ss (flow_as x) ≡ flow_as (lined ss x)
unfolding runs stepped
lined_as [] x h = go x.kept
  where
    go : (b : Bool) → onward [] (mark b x.item.f, vars_as x.vars) ≡ (mark b x.item.f, vars_as x.vars)
    go true = refl
    go false = refl
lined_as (s ∷ ss) x h = go x.kept refl (lined_as ss (stepped s x) left)
  where
    names : (Known x.vars (step_names s)) × (Known x.vars (chain step_names ss))
    names = both _ _ (sym (all_append (λ (v : ℕ). ltb v (length x.vars)) (step_names s) (chain step_names ss)) ∙ h)

    left : Known (stepped s x).vars (chain step_names ss)
    left = rw (lined_vars_length (s ∷ []) x) names.1

    go : (b : Bool) → x.kept ≡ b → onward ss (flow_as (stepped s x)) ≡ flow_as (lined ss (stepped s x)) →
        onward (s ∷ ss) (mark b x.item.f, vars_as x.vars) ≡ flow_as (lined ss (stepped s x))
    go true k ih =
        let e : one (step_as s) x.item.f (vars_as x.vars) ≡ flow_as (stepped s x) = one_by s.func s x refl k names.0 ∙ rw k in
        ap (onward ss) e ∙ ih
    go false k ih = sym (ap flow_as (lined_dropped (s ∷ ss) x k) ∙ rw k)

-- a whole line
pub line_as : (ss : List Step) (x : Item) (vs : List ℤ) → Known vs (chain step_names ss) →
    runs (map step_as ss) x.f (vars_as vs) ≡ flow_as (lined ss (record { kept = true; item = x; vars = vs }))
line_as ss x vs h = lined_as ss (record { kept = true; item = x; vars = vs }) h
