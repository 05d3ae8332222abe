-- A calm sheet is one where no two operators name the same variable.
-- Assumes nothing.
use mathlib.Core.Path.{◌≡◌, refl, ◌∙◌, sym}
use mathlib.Core.Logic.{⊎_elim}
use mathlib.Core.Bool.{Bool, true, false, not, ◌||◌}
use mathlib.Core.List.{List, [], ◌∷◌}
use Prim.Native.Nat.{ℕ, zero, suc, ◌<◌, ◌≤◌}
use native.Mathlib.Omega.{arith}
use lib.ListN.{length, get_or}
use borrow.Author.Tests.{not-true}
use Rattle.base_lists.specs.Lists.{all, member}
use Rattle.base_lists.proofs.Build.{never, order}
use Rattle.base_lists.proofs.Tests.{both, both_of, neither, neither_of, all_member}
use Rattle.base_lists.proofs.Members.{all_of_members}
use Rattle.sheet_operator.specs.Op.{Op, Abstract, names}
use Rattle.counts.specs.Calm.{calm_from, is_calm}

-- no operator names a variable of d
named_apart : (d : ℕ → Bool) (os : List Op) (o : Op) (i v : ℕ) → calm_from d os ≡ true → i < length os → member v (names (get_or os i o)) ≡ true → d v ≡ false
named_apart d [] o i v h l m = absurd (omega arith)
named_apart d (x ∷ os) o zero v h l m =
    not-true (d v) (all_member (λ (k : ℕ). not (d k)) (names x) (both (all (λ (k : ℕ). not (d k)) (names x)) _ h).0 v m)
named_apart d (x ∷ os) o (suc i) v h l m =
    (neither (member v (names x)) (d v)
    (named_apart (λ (k : ℕ). member k (names x) || d k) os o i v (both (all (λ (k : ℕ). not (d k)) (names x)) _ h).1 (omega arith) m)).1

-- nor one that an operator before it names
calm_before : (d : ℕ → Bool) (os : List Op) (o : Op) (i j v : ℕ) → calm_from d os ≡ true → i < j → j < length os → member v (names (get_or os j o)) ≡ true →
    member v (names (get_or os i o)) ≡ false
calm_before d [] o i j v h b l m = absurd (omega arith)
calm_before d (x ∷ os) o i zero v h b l m = absurd (omega arith)
calm_before d (x ∷ os) o zero (suc j) v h b l m =
    (neither (member v (names x)) (d v)
    (named_apart (λ (k : ℕ). member k (names x) || d k) os o j v (both (all (λ (k : ℕ). not (d k)) (names x)) _ h).1 (omega arith) m)).0
calm_before d (x ∷ os) o (suc i) (suc j) v h b l m =
    calm_before (λ (k : ℕ). member k (names x) || d k) os o i j v (both (all (λ (k : ℕ). not (d k)) (names x)) _ h).1 (omega arith) (omega arith) m

-- no two operators of the list name the same variable
abbrev pub Apart : List Op → Op → Type 0
Apart os d = (i j v : ℕ) → i < length os → j < length os → (i ≡ j → ⊥) → member v (names (get_or os i d)) ≡ true → member v (names (get_or os j d)) ≡ false

pub calm_apart : (a : Abstract) (d : Op) → is_calm a ≡ true → Apart a.ops d
calm_apart a d h i j v l k ne m =
    ⊎_elim (λ (b : j < i). calm_before (λ (v : ℕ). false) a.ops d j i v h b l m)
    (λ (b : i ≤ j). later (member v (names (get_or a.ops j d))) refl (omega arith))
    (order j i)
  where
    later : (b : Bool) → member v (names (get_or a.ops j d)) ≡ b → i < j → b ≡ false
    later false e b = refl
    later true e b = never (sym (calm_before (λ (v : ℕ). false) a.ops d i j v h b k e) ∙ m)

-- and that is all
apart_from : (known : ℕ → Bool) (os : List Op) (d : Op) → ((i v : ℕ) → i < length os → member v (names (get_or os i d)) ≡ true → known v ≡ false) →
    Apart os d → calm_from known os ≡ true
apart_from known [] d n h = refl
apart_from known (x ∷ os) d n h =
    both_of (all (λ (v : ℕ). not (known v)) (names x)) _ (all_of_members (λ (v : ℕ). not (known v)) (names x) (λ v m. rw (n 0 v (omega arith) m)))
    (apart_from (λ (v : ℕ). member v (names x) || known v) os d
    (λ i v l m. neither_of (member v (names x)) (known v) (h (suc i) 0 v (omega arith) (omega arith) (λ e. omega arith) m) (n (suc i) v (omega arith) m))
    (λ i j v l k ne m. h (suc i) (suc j) v (omega arith) (omega arith) (λ e. ne (omega arith)) m))

pub apart_calm : (a : Abstract) (d : Op) → Apart a.ops d → is_calm a ≡ true
apart_calm a d h = apart_from (λ (v : ℕ). false) a.ops d (λ i v l m. refl) h
