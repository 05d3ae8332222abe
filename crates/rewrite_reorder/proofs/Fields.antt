-- The fields that steps read and write, step by step: the test of two lists is the test of each pair of their steps.
-- Assumes nothing.
use mathlib.Core.Path.{◌≡◌, refl, ap, ◌∙◌, fun_ext}
use mathlib.Core.Bool.{Bool, true, false, not, ◌&&◌, ◌||◌}
use mathlib.Core.List.{List, [], ◌∷◌}
use Prim.Native.Nat.{ℕ}
use Rattle.base_lists.specs.Lists.{all, member}
use Rattle.base_lists.proofs.Tests.{all_and, all_chain, member_append}
use Rattle.sheet_step.specs.Step.{row_of}
use Rattle.sheet_step.specs.declared.Step.{Step}
use Rattle.rewrite_rules.specs.Rewrite.{masked, fields_read, fields_written, leaves}
use Rattle.rewrite_reorder.specs.Working.{touched, step_leaves}

all_true : (l : List ℕ) → all (λ (f : ℕ). true) l ≡ true
all_true [] = refl
all_true (x ∷ l) = all_true l

-- neither of four, in two pairs
neither_pair : (a b c d : Bool) → not (a || b || (c || d)) ≡ (not (a || c) && not (b || d))
neither_pair true b c d = refl
neither_pair false true true d = refl
neither_pair false true false d = refl
neither_pair false false true d = refl
neither_pair false false false d = refl

abbrev untouched : List Step → ℕ → Bool
untouched ts f = not (member f (fields_read ts) || member f (fields_written ts))

untouched_cons : (t : Step) (ts : List Step) (f : ℕ) → untouched (t ∷ ts) f ≡ (not (touched t f) && untouched ts f)
untouched_cons t ts f =
    let a = masked (row_of t.func).reads t in
    let b = masked (row_of t.func).writes t in
    rw (member_append f a (fields_read ts), member_append f b (fields_written ts))
    (neither_pair (member f a) (member f (fields_read ts)) (member f b) (member f (fields_written ts)))

-- the fields of one list of fields, against each step
left_each : (l : List ℕ) (ts : List Step) → all (untouched ts) l ≡ all (λ (t : Step). all (λ (f : ℕ). not (touched t f)) l) ts
left_each l [] = all_true l
left_each l (t ∷ ts) =
    ap (λ (g : ℕ → Bool). all g l) (fun_ext (untouched_cons t ts))
    ∙ all_and (λ (f : ℕ). not (touched t f)) (untouched ts) l
    ∙ ap (λ (b : Bool). all (λ (f : ℕ). not (touched t f)) l && b) (left_each l ts)

pub leaves_each : (ss ts : List Step) → leaves ss ts ≡ all (λ (s : Step). all (step_leaves s) ts) ss
leaves_each ss ts =
    all_chain (untouched ts) (λ (s : Step). masked (row_of s.func).writes s) ss
    ∙ ap (λ (g : Step → Bool). all g ss) (fun_ext (λ (s : Step). left_each (masked (row_of s.func).writes s) ts))
