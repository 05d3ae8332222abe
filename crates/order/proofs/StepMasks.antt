-- What the table's masks say of translated steps: no variable touched, an item always kept, and step lists that commute.
-- Assumes nothing.
use mathlib.Core.Path.{◌≡◌, refl, sym, ◌∙◌}
use mathlib.Core.Bool.{true, false, not, ◌&&◌, ◌||◌}
use mathlib.Core.List.{List, [], ◌∷◌, ◌++◌, map}
use Prim.Native.Nat.{ℕ}
use lib.Dec.{eqb}
use borrow.Author.Tests.{not-true}
use Rattle.base_lists.specs.Lists.{all, member}
use Rattle.base_lists.proofs.Build.{never}
use Rattle.base_lists.proofs.Tests.{both, both_of, neither, all_implies, all_member, member_append, or_left, or_right}
use Rattle.sheet_step.specs.Step.{row_of, known_func, step_places}
use Rattle.sheet_step.specs.declared.Func.{Func}
use Rattle.sheet_step.specs.declared.Func.TheVariants.{None, Keep, Add, Copy, Count, Stamp}
use Rattle.sheet_step.specs.declared.Step.{Step}
use Rattle.sheet_format.proofs.Sizes.{known_steps}
use Rattle.rewrite_rules.specs.Rewrite.{touches_none, writes_some, masked, fields_read, fields_written, leaves}
use Rattle.order_theory.proofs.Equations.{pure1, pure, total1, total, Free, Frees, Freed}
use Rattle.order.proofs.Model.{step_by, step_as}
use Rattle.order.proofs.KindLaws.{or_none}

-- steps that touch no variable
pure_by : (f : Func) (s : Step) → not (row_of f).variable ≡ true → pure1 (step_by f s) ≡ true
pure_by None s h = refl
pure_by Keep s h = refl
pure_by Add s h = refl
pure_by Copy s h = refl
pure_by Count s h = never h
pure_by Stamp s h = never h

pub pure_steps : (ss : List Step) → all touches_none ss ≡ true → pure (map step_as ss) ≡ true
unfolding pure
pure_steps [] h = refl
pure_steps (s ∷ ss) h =
    let p = both (touches_none s) (all touches_none ss) h in
    both_of (pure1 (step_as s)) (pure (map step_as ss)) (pure_by s.func s p.0) (pure_steps ss p.1)

-- and that write some field: they drop no item
total_by : (f : Func) (s : Step) → (not (row_of f).variable && not (eqb (row_of f).writes 0)) ≡ true → total1 (step_by f s) ≡ true
total_by None s h = never h
total_by Keep s h = never h
total_by Add s h = refl
total_by Copy s h = refl
total_by Count s h = never h
total_by Stamp s h = never h

pub total_steps : (ss : List Step) → all (λ (t : Step). touches_none t && writes_some t) ss ≡ true → total (map step_as ss) ≡ true
unfolding total
total_steps [] h = refl
total_steps (s ∷ ss) h =
    let p = both (touches_none s && writes_some s) (all (λ (t : Step). touches_none t && writes_some t) ss) h in
    both_of (total1 (step_as s)) (total (map step_as ss)) (total_by s.func s p.0) (total_steps ss p.1)

-- a step's fields by the table are those of its translation
abbrev read_by : Func → Step → List ℕ
read_by f s = masked (row_of f).reads s

abbrev written_by : Func → Step → List ℕ
written_by f s = masked (row_of f).writes s

reads_by : (f : Func) (s : Step) (k : ℕ) → known_func f ≡ true → Rattle.order_theory.proofs.Equations.reads (step_by f s) k ≡ member k (read_by f s)
reads_by None s k h = never h
reads_by Keep s k h = or_none (eqb k s.p)
reads_by Add s k h = or_none (eqb k s.p)
reads_by Copy s k h = or_none (eqb k s.p)
reads_by Count s k h = refl
reads_by Stamp s k h = refl

writes_by : (f : Func) (s : Step) (k : ℕ) → known_func f ≡ true → Rattle.order_theory.proofs.Equations.writes (step_by f s) k ≡ member k (written_by f s)
writes_by None s k h = never h
writes_by Keep s k h = refl
writes_by Add s k h = or_none (eqb k s.p)
writes_by Copy s k h = or_none (eqb k s.r)
writes_by Count s k h = or_none (eqb k s.p)
writes_by Stamp s k h = or_none (eqb k s.p)

-- what is written here is neither read nor written there
abbrev Off : List ℕ → List ℕ → List ℕ → Type 0
Off ws rs vs = (f : ℕ) → member f ws ≡ true → (member f rs ≡ false) × (member f vs ≡ false)

off_front : (ws us rs vs : List ℕ) → Off (ws ++ us) rs vs → Off ws rs vs
off_front ws us rs vs h f m = h f (member_append f ws us ∙ or_left (member f ws) (member f us) m)

off_back : (ws us rs vs : List ℕ) → Off (ws ++ us) rs vs → Off us rs vs
off_back ws us rs vs h f m = h f (member_append f ws us ∙ or_right (member f ws) (member f us) m)

off_both : (ws rs ps vs qs : List ℕ) → Off ws (rs ++ ps) (vs ++ qs) → Off ws rs vs × Off ws ps qs
off_both ws rs ps vs qs h = ((λ f m. ((parts f m).0.0, (parts f m).1.0)), λ f m. ((parts f m).0.1, (parts f m).1.1))
  where
    parts : (f : ℕ) → member f ws ≡ true →
        ((member f rs ≡ false) × (member f ps ≡ false)) × ((member f vs ≡ false) × (member f qs ≡ false))
    parts f m = (
      neither (member f rs) (member f ps) (sym (member_append f rs ps) ∙ (h f m).0),
      neither (member f vs) (member f qs) (sym (member_append f vs qs) ∙ (h f m).1),
    )

leaves_off : (ss ts : List Step) → leaves ss ts ≡ true → Off (fields_written ss) (fields_read ts) (fields_written ts)
leaves_off ss ts h f m =
    neither (member f (fields_read ts)) (member f (fields_written ts))
    (not-true _ (all_member (λ (k : ℕ). not (member k (fields_read ts) || member k (fields_written ts))) (fields_written ss) h f m))

free_steps : (s t : Step) → known_func s.func ≡ true → known_func t.func ≡ true →
    Off (written_by s.func s) (read_by t.func t) (written_by t.func t) → Free (step_as s) (step_as t)
free_steps s t ks kt h f w =
    let o = h f (sym (writes_by s.func s f ks) ∙ w) in
    (reads_by t.func t f kt ∙ o.0, writes_by t.func t f kt ∙ o.1)

frees_steps : (s : Step) (ts : List Step) → known_func s.func ≡ true → known_steps ts ≡ true → all touches_none ts ≡ true →
    Off (written_by s.func s) (fields_read ts) (fields_written ts) → Off (fields_written ts) (read_by s.func s) (written_by s.func s) →
    Frees (step_as s) (map step_as ts)
frees_steps s [] ks kt n h g = tt
frees_steps s (t ∷ ts) ks kt n h g =
    let k = both (known_func t.func) (known_steps ts) kt in
    let p = both (touches_none t) (all touches_none ts) n in
    let o = off_both (written_by s.func s) (read_by t.func t) (fields_read ts) (written_by t.func t) (fields_written ts) h in (
      free_steps s t ks k.0 o.0,
      free_steps t s k.0 ks (off_front (written_by t.func t) (fields_written ts) (read_by s.func s) (written_by s.func s) g),
      pure_by t.func t p.0,
      frees_steps s ts ks k.1 p.1 o.1
          (off_back (written_by t.func t) (fields_written ts) (read_by s.func s) (written_by s.func s) g),
    )

freed_off : (ss ts : List Step) → known_steps ss ≡ true → known_steps ts ≡ true → all touches_none ss ≡ true → all touches_none ts ≡ true →
    Off (fields_written ss) (fields_read ts) (fields_written ts) → Off (fields_written ts) (fields_read ss) (fields_written ss) →
    Freed (map step_as ss) (map step_as ts)
freed_off [] ts ks kt ns nt h g = tt
freed_off (s ∷ ss) ts ks kt ns nt h g =
    let k = both (known_func s.func) (known_steps ss) ks in
    let p = both (touches_none s) (all touches_none ss) ns in
    let o = off_both (fields_written ts) (read_by s.func s) (fields_read ss) (written_by s.func s) (fields_written ss) g in (
      pure_by s.func s p.0,
      frees_steps s ts k.0 kt nt (off_front (written_by s.func s) (fields_written ss) (fields_read ts) (fields_written ts) h) o.0,
      freed_off ss ts k.1 kt p.1 nt (off_back (written_by s.func s) (fields_written ss) (fields_read ts) (fields_written ts) h) o.1,
    )

known_places : (ss : List Step) → all step_places ss ≡ true → known_steps ss ≡ true
unfolding step_places
known_places ss h = all_implies step_places (λ (t : Step). known_func t.func) ss (λ t p. (both (known_func t.func) _ p).0) h

-- what a reorder asks of the two step lists
pub freed_steps : (ss ts : List Step) → all step_places ss ≡ true → all step_places ts ≡ true → all touches_none ss ≡ true →
    all touches_none ts ≡ true → leaves ss ts ≡ true → leaves ts ss ≡ true → Freed (map step_as ss) (map step_as ts)
freed_steps ss ts ps pt ns nt h g = freed_off ss ts (known_places ss ps) (known_places ts pt) ns nt (leaves_off ss ts h) (leaves_off ts ss g)
