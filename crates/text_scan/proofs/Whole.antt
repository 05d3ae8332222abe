-- Exactness of a whole text: it is a text, or the beginning of one and a byte after which none goes on, or the beginning of one and nothing more.
-- Assumes nothing.
use Prim.Native.Nat.{ℕ, zero, suc, ◌<◌}
use mathlib.Core.Path.{◌≡◌, refl, ap, ◌∙◌, sym}
use mathlib.Core.Logic.{⊎_elim}
use mathlib.Core.Bool.{Bool, true, false, cond}
use mathlib.Core.List.{List, [], ◌∷◌, ◌++◌, append_assoc}
use native.Mathlib.Omega.{arith}
use lib.ListN.{length}
use Rattle.base_lists.specs.Lists.{all}
use Rattle.text_scan.specs.Reader.{Res, got, lost, Reader, bind, ◌>>=◌, is_blank, series, to_end}
use Rattle.text_scan.proofs.Exact.{Viable, View, whole, broken, short, Exact, shrinks, either}

-- u can be carried on to a text
pub record Carries {A : Type 0} (F : Reader A) (u : List ℕ) : Type 0 where
  pub end : List ℕ
  pub value : A
  pub reads : F (u ++ end) ≡ got value []

pub data Whole {A : Type 0} (F : Reader A) (s : List ℕ) : Type 0 where
  text : (a : A) → F s ≡ got a [] → Whole F s
  dead : (u : List ℕ) (b : ℕ) (t : List ℕ) → s ≡ u ++ (b ∷ t) → Carries F u → ((x : List ℕ) → F (u ++ (b ∷ x)) ≡ lost (b ∷ x)) → Whole F s
  cut : Carries F s → F s ≡ lost [] → Whole F s

module _ {A B : Type 0} (P : Reader A) (Q : A → Reader B) where
  carries_then : ((a : A) → Carries (Q a) []) → {u : List ℕ} → Viable P u → Carries (P >>= Q) u
  carries_then some {u} v =
      let w = some v.value in
      record { end = v.end ++ w.end; value = w.value; reads = ap (λ (x : Res A). bind x Q) (v.reads w.end) ∙ w.reads }

  module _ (u : List ℕ) (a : A) (r : (x : List ℕ) → P (u ++ x) ≡ got a x) where
    after : (y x : List ℕ) → (P >>= Q) ((u ++ y) ++ x) ≡ Q a (y ++ x)
    after y x = ap (P >>= Q) (append_assoc u y x) ∙ ap (λ (z : Res A). bind z Q) (r (y ++ x))

    carries_after : {y : List ℕ} → Carries (Q a) y → Carries (P >>= Q) (u ++ y)
    carries_after {y} v = record { end = v.end; value = v.value; reads = after y v.end ∙ v.reads }

    second : (s t : List ℕ) → s ≡ u ++ t → Whole (Q a) t → Whole (P >>= Q) s
    second s t e (text c g) = text c (ap (P >>= Q) e ∙ ap (λ (z : Res A). bind z Q) (r t) ∙ g)
    second s t e (dead y b z f v d) =
        dead (u ++ y) b z (e ∙ ap (λ (l : List ℕ). u ++ l) f ∙ sym (append_assoc u y (b ∷ z))) (carries_after v)
        (λ x. after y (b ∷ x) ∙ d x)
    second s t e (cut v d) = rw e (cut (carries_after v) (ap (λ (z : Res A). bind z Q) (r t) ∙ d))

  pub whole_bind : (s : List ℕ) → View P s → ((a : A) → Carries (Q a) []) → ((a : A) (t : List ℕ) → P s ≡ got a t → Whole (Q a) t) →
      Whole (P >>= Q) s
  whole_bind s (whole u t a e r) some q = second u a r s t e (q a t (ap P e ∙ r t))
  whole_bind s (broken u b t e v d) some q = dead u b t e (carries_then some v) (λ x. ap (λ (z : Res A). bind z Q) (d x))
  whole_bind s (short v d) some q = cut (carries_then some v) (ap (λ (z : Res A). bind z Q) d)

module _ {A : Type 0} (P : A → Reader A) (p : (a : A) → Exact (P a)) (blank : (a : A) (s : List ℕ) → all is_blank s ≡ true → P a s ≡ lost []) where
  pub smaller : (a : A) (s : List ℕ) (b : A) (t : List ℕ) → P a s ≡ got b t → length t < length s
  smaller a s b t e = shrinks (P a) (blank a [] refl) (p a) s b t e

  same_next : (F G : A → Reader A) (a : A) (s : List ℕ) → ((b : A) (t : List ℕ) → length t < length s → F b t ≡ G b t) →
      (x : Res A) → P a s ≡ x → bind x F ≡ bind x G
  same_next F G a s h (got b t) e = h b t (smaller a s b t e)
  same_next F G a s h (lost t) e = refl

  any_fuel : (n m : ℕ) (a : A) (s : List ℕ) → length s < n → length s < m → series n P a s ≡ series m P a s
  unfolding series
  any_fuel zero m a s h k = absurd (omega arith)
  any_fuel (suc n) zero a s h k = absurd (omega arith)
  any_fuel (suc n) (suc m) a s h k =
      ap (cond (all is_blank s) (got a []))
      (same_next (series n P) (series m P) a s (λ b t l. any_fuel n m b t (omega arith) (omega arith)) (P a s) refl)

  -- the equation of reading to the end
  pub to_end_lem : (a : A) (s : List ℕ) → to_end P a s ≡ cond (all is_blank s) (got a []) ((P a >>= to_end P) s)
  unfolding to_end series
  to_end_lem a s =
      ap (cond (all is_blank s) (got a []))
      (same_next (series (length s) P) (to_end P) a s (λ b t l. any_fuel (length s) (suc (length t)) b t l (omega arith)) (P a s) refl)

  pub ended : (a : A) (s : List ℕ) → all is_blank s ≡ true → to_end P a s ≡ got a []
  ended a s h = to_end_lem a s ∙ ap (λ (c : Bool). cond c (got a []) ((P a >>= to_end P) s)) h

  pub goes_on : (a : A) (s : List ℕ) → all is_blank s ≡ false → to_end P a s ≡ (P a >>= to_end P) s
  goes_on a s h = to_end_lem a s ∙ ap (λ (c : Bool). cond c (got a []) ((P a >>= to_end P) s)) h

  pub at_end_lem : (a : A) → Carries (to_end P a) []
  at_end_lem a = record { end = []; value = a; reads = ended a [] refl }

  carry : (a : A) {u : List ℕ} → Carries (P a >>= to_end P) u → Carries (to_end P a) u
  carry a {u} v =
      ⊎_elim (λ h. record { end = v.end; value = a; reads = ended a (u ++ v.end) h })
      (λ h. record { end = v.end; value = v.value; reads = goes_on a (u ++ v.end) h ∙ v.reads })
      (either (all is_blank (u ++ v.end)))

  pass : (a : A) (y : List ℕ) (b : ℕ) (x : List ℕ) → (P a >>= to_end P) y ≡ lost (b ∷ x) → to_end P a y ≡ lost (b ∷ x)
  pass a y b x d =
      ⊎_elim (λ h. let f = ap (λ (z : Res A). bind z (to_end P)) (blank a y h) in absurd (let z : ◌≡◌ {A = ℕ} 0 1 = cc in omega arith))
      (λ h. goes_on a y h ∙ d)
      (either (all is_blank y))

  lift : (a : A) (s : List ℕ) → all is_blank s ≡ false → Whole (P a >>= to_end P) s → Whole (to_end P a) s
  lift a s h (text c g) = text c (goes_on a s h ∙ g)
  lift a s h (dead u b t e v d) = dead u b t e (carry a v) (λ x. pass a (u ++ (b ∷ x)) b x (d x))
  lift a s h (cut v d) = cut (carry a v) (goes_on a s h ∙ d)

  whole_in : (n : ℕ) (a : A) (s : List ℕ) → length s < n → Whole (to_end P a) s
  whole_in zero a s l = absurd (omega arith)
  whole_in (suc n) a s l =
      ⊎_elim (λ h. text a (ended a s h))
      (λ h. lift a s h
      (whole_bind (P a) (to_end P) s (p a s) at_end_lem (λ b t e. whole_in n b t (let m = smaller a s b t e in omega arith))))
      (either (all is_blank s))

  pub whole_to_end : (a : A) (s : List ℕ) → Whole (to_end P a) s
  whole_to_end a s = whole_in (suc (length s)) a s (omega arith)
