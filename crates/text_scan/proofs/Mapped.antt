-- What is kept of what is read: a loop that keeps h of the value reads the same as the loop itself.
-- Assumes nothing.
use Prim.Native.Nat.{ℕ, zero, suc, ◌<◌}
use mathlib.Core.Path.{◌≡◌, refl, ap, ◌∙◌, sym}
use mathlib.Core.Logic.{⊎_elim}
use mathlib.Core.Bool.{true}
use mathlib.Core.List.{List, []}
use native.Mathlib.Omega.{arith}
use lib.ListN.{length}
use Rattle.base_lists.specs.Lists.{all}
use Rattle.text_scan.specs.Reader.{Res, got, lost, Reader, bind, Turn, again, last, turn, repeat, is_blank, to_end}
use Rattle.text_scan.proofs.Exact.{Exact, repeat_turn, either}
use Rattle.text_scan.proofs.Whole.{ended, goes_on, smaller}

abbrev pub map_turn : {A B C D : Type 0} → (A → C) → (B → D) → Turn A B → Turn C D
map_turn h k (again a) = again (h a)
map_turn h k (last b) = last (k b)

module _ {A B C D : Type 0} (h : A → C) (k : B → D)
    (P : A → Reader (Turn A B)) (less : (a : A) (s : List ℕ) (x : Turn A B) (t : List ℕ) → P a s ≡ got x t → length t < length s)
    (Q : C → Reader (Turn C D)) (less' : (a : C) (s : List ℕ) (x : Turn C D) (t : List ℕ) → Q a s ≡ got x t → length t < length s)
    (e : (a : A) (s : List ℕ) → Q (h a) s ≡ bind (P a s) (λ (x : Turn A B). got (map_turn h k x))) where
  by_turn : (a : A) (s : List ℕ) → ((b : A) (t : List ℕ) → length t < length s → repeat Q (h b) t ≡ bind (repeat P b t) (λ (x : B). got (k x))) →
      (x : Res (Turn A B)) → P a s ≡ x →
      bind (bind x (λ (x : Turn A B). got (map_turn h k x))) (turn (repeat Q)) ≡ bind (bind x (turn (repeat P))) (λ (x : B). got (k x))
  by_turn a s f (got (again b) t) g = f b t (less a s (again b) t g)
  by_turn a s f (got (last b) t) g = refl
  by_turn a s f (lost t) g = refl

  mapped_in : (n : ℕ) (a : A) (s : List ℕ) → length s < n → repeat Q (h a) s ≡ bind (repeat P a s) (λ (x : B). got (k x))
  mapped_in zero a s l = absurd (omega arith)
  mapped_in (suc n) a s l =
      repeat_turn Q less' (h a) s ∙ ap (λ (x : Res (Turn C D)). bind x (turn (repeat Q))) (e a s)
      ∙ by_turn a s (λ b t m. mapped_in n b t (omega arith)) (P a s) refl
      ∙ ap (λ (x : Res B). bind x (λ (x : B). got (k x))) (sym (repeat_turn P less a s))

  pub repeat_mapped : (a : A) (s : List ℕ) → repeat Q (h a) s ≡ bind (repeat P a s) (λ (x : B). got (k x))
  repeat_mapped a s = mapped_in (suc (length s)) a s (omega arith)

module _ {A C : Type 0} (h : A → C)
    (P : A → Reader A) (p : (a : A) → Exact (P a)) (blank : (a : A) (s : List ℕ) → all is_blank s ≡ true → P a s ≡ lost [])
    (Q : C → Reader C) (q : (a : C) → Exact (Q a)) (blank' : (a : C) (s : List ℕ) → all is_blank s ≡ true → Q a s ≡ lost [])
    (e : (a : A) (s : List ℕ) → Q (h a) s ≡ bind (P a s) (λ (x : A). got (h x))) where
  by_item : (a : A) (s : List ℕ) → ((b : A) (t : List ℕ) → length t < length s → to_end Q (h b) t ≡ bind (to_end P b t) (λ (x : A). got (h x))) →
      (x : Res A) → P a s ≡ x → bind (bind x (λ (x : A). got (h x))) (to_end Q) ≡ bind (bind x (to_end P)) (λ (x : A). got (h x))
  by_item a s f (got b t) g = f b t (smaller P p blank a s b t g)
  by_item a s f (lost t) g = refl

  series_in : (n : ℕ) (a : A) (s : List ℕ) → length s < n → to_end Q (h a) s ≡ bind (to_end P a s) (λ (x : A). got (h x))
  series_in zero a s l = absurd (omega arith)
  series_in (suc n) a s l =
      ⊎_elim
      (λ b. ended Q q blank' (h a) s b ∙ sym (ap (λ (x : Res A). bind x (λ (x : A). got (h x))) (ended P p blank a s b)))
      (λ b. goes_on Q q blank' (h a) s b ∙ ap (λ (x : Res C). bind x (to_end Q)) (e a s)
      ∙ by_item a s (λ c t m. series_in n c t (omega arith)) (P a s) refl
      ∙ sym (ap (λ (x : Res A). bind x (λ (x : A). got (h x))) (goes_on P p blank a s b)))
      (either (all is_blank s))

  pub end_mapped : (a : A) (s : List ℕ) → to_end Q (h a) s ≡ bind (to_end P a s) (λ (x : A). got (h x))
  end_mapped a s = series_in (suc (length s)) a s (omega arith)
