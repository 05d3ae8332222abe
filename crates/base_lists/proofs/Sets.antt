-- Writes compose: one run of stores after another is the one of both, and a run from the start replaces the front.
-- Assumes nothing.
use mathlib.Core.Path.{◌≡◌, ◌∙◌, sym, ap}
use mathlib.Core.List.{List, [], ◌∷◌, ◌++◌, append_assoc}
use Prim.Native.Nat.{ℕ, suc, ◌+◌, ◌≤◌}
use native.Mathlib.Nat.{add-zero, zero-add}
use native.Mathlib.Omega.{arith}
use lib.ListN.{length, set, take, drop}
use lib.Seq.{sets, sets-eq, drop-drop}
use borrow.Rule.Slice.PartMut.{put_mid}
use Rattle.base_lists.specs.Lists.{build}
use Rattle.base_lists.proofs.Build.{build_length, build_snoc}

module _ {A : Type 0} where
  pub sets_append : (a b l : List A) (i : ℕ) → sets (sets l i a) (i + length a) b ≡ sets l i (a ++ b)
  sets_append [] b l i = rw add-zero
  sets_append (x ∷ a) b l i = let e : i + suc (length a) ≡ suc i + length a = omega arith in rw e (sets_append a b (set l i x) (suc i))

  pub sets_front : (v l : List A) → length v ≤ length l → sets l 0 v ≡ v ++ drop (length v) l
  sets_front v l h = sets-eq v l 0 (rw zero-add h) ∙ rw zero-add

  -- one run after another, where the second starts at the end of the first
  pub sets_after : (s₀ s t : List A) (at n : ℕ) (a b : List A) → length a ≡ n → s ≡ sets s₀ at a → t ≡ sets s (at + n) b → t ≡ sets s₀ at (a ++ b)
  sets_after s₀ s t at n a b e p q = rw (q, p, ← e) (sets_append a b s₀ at)

  -- one element more
  pub sets_more : (s₀ s t : List A) (at i : ℕ) (g : ℕ → A) → s ≡ sets s₀ at (build i g) → t ≡ set s (at + i) (g i) → t ≡ sets s₀ at (build (i + 1) g)
  sets_more s₀ s t at i g p q = rw build_snoc (sets_after s₀ s t at i (build i g) (g i ∷ []) (build_length i g) p q)

  -- a part that is copied over is one run
  pub put_part : (at n : ℕ) (s part : List A) → n ≡ length part → at + n ≤ length s → put_mid at n s part ≡ sets s at part
  put_part at n s part e h =
      let f : drop n (drop at s) ≡ drop (at + length part) s = drop-drop n at s ∙ ap (λ (k : ℕ). drop (at + k) s) e in
      ap (λ (l : List A). take at s ++ (part ++ l)) f ∙ sym (append_assoc (take at s) part (drop (at + length part) s))
      ∙ sym (sets-eq part s at (omega arith))
