-- An operator's body by its kind: how long it is, and that writing it is writing what its kind says.
-- Assumes nothing.
use mathlib.Core.Path.{◌≡◌, ap, ◌∙◌}
use mathlib.Core.List.{List, [], ◌∷◌}
use Prim.Native.Nat.{ℕ, ◌+◌, ◌*◌}
use native.Mathlib.Omega.{arith}
use native.Mathlib.Numerals.{towards_suc}
use lib.ListN.{length, get_or, set}
use lib.Seq.{sets}
use Rattle.base_lists.proofs.Build.{build_length}
use Rattle.sheet_step.specs.Step.{no_step, STEP_BYTES}
use Rattle.sheet_operator.specs.Memory.{view, view_as, steps_in}
use Rattle.sheet_operator.specs.declared.Kind.{Kind}
use Rattle.sheet_operator.specs.declared.Kind.TheVariants.{Line, Latest, Double, Deal, Gather}
use Rattle.sheet_operator.specs.declared.Operator.{Operator}
use Rattle.sheet_format.specs.Record.{body_bytes}
use Rattle.sheet_format.proofs.Sizes.{length_steps_bytes}

-- the body of an operator of a known kind
pub body_of_kind : {k : Kind} (o : Operator) → o.kind ≡ k → body_bytes (view o) ≡ body_bytes (view_as k o)
body_of_kind o e = ap (λ (j : Kind). body_bytes (view_as j o)) e

pub length_of_line : (o : Operator) → o.kind ≡ Line → length (body_bytes (view o)) ≡ 2 + STEP_BYTES * o.count
length_of_line o e =
    let steps = steps_in o.count o.steps in
    ap length (body_of_kind o e)
    ∙ omega (arith, length_steps_bytes steps, build_length o.count (λ (k : ℕ). get_or o.steps k no_step))

pub length_of_latest : (o : Operator) → o.kind ≡ Latest → length (body_bytes (view o)) ≡ 3
length_of_latest o e = ap length (body_of_kind o e)

pub length_of_double : (o : Operator) → o.kind ≡ Double → length (body_bytes (view o)) ≡ 3
length_of_double o e = ap length (body_of_kind o e)

pub length_of_deal : (o : Operator) → o.kind ≡ Deal → length (body_bytes (view o)) ≡ 2 + o.count
length_of_deal o e = ap length (body_of_kind o e) ∙ omega (arith, build_length o.count (λ (k : ℕ). get_or o.outs k 0))

pub length_of_gather : (o : Operator) → o.kind ≡ Gather → length (body_bytes (view o)) ≡ 2 + o.count
length_of_gather o e = ap length (body_of_kind o e) ∙ omega (arith, build_length o.count (λ (k : ℕ). get_or o.ins k 0))

-- what was written is the body of the kind, so it is the operator's
pub writes_kind : {k : Kind} (o : Operator) (s t : List ℕ) (at : ℕ) → o.kind ≡ k → t ≡ sets s at (body_bytes (view_as k o)) → t ≡ sets s at (body_bytes (view o))
writes_kind o s t at e h = rw (body_of_kind o e) h

-- straight-line stores
pub sets_three : (s : List ℕ) (at a b d : ℕ) → set (set (set s at a) (at + 1) b) (at + 2) d ≡ sets s at (a ∷ b ∷ d ∷ [])
sets_three s at a b d = simp towards_suc

pub sets_two_and : (s t : List ℕ) (at a b : ℕ) (l : List ℕ) → t ≡ sets (set (set s at a) (at + 1) b) (at + 2) l → t ≡ sets s at (a ∷ b ∷ l)
sets_two_and s t at a b l h = simp towards_suc at h
