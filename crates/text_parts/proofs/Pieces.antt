-- Pieces of text with a bound on their length: one piece, one after another, within a larger bound.
-- Assumes nothing.
use mathlib.Core.Path.{◌≡◌, refl, ◌∙◌, sym, subst}
use mathlib.Core.List.{List, [], ◌++◌}
use Prim.Native.Nat.{ℕ, ◌+◌, ◌*◌, ◌≤◌, ◌<◌}
use native.Mathlib.Omega.{arith}
use lib.ListN.{length}
use Rattle.sheet_step.specs.declared.Func.{Func}
use Rattle.sheet_step.specs.declared.Step.{Step}
use Rattle.base_words.specs.Text.{natural, PutsText}
use Rattle.base_words.proofs.Digits.{length_natural}
use Rattle.base_words.proofs.Putting.{puts_none, puts_then, puts_length}
use Rattle.text_grammar.specs.Tokens.{printed, step_tokens}
use Rattle.text_parts.specs.Put.{PutsUpTo, BYTE_TEXT}

pub piece : (k : ℕ) {xs s t : List ℕ} {at end : ℕ} → length xs ≤ k → PutsText xs s at t end → PutsUpTo k xs s at t end
piece k h p = record { puts = p; most = omega (arith, p.past) }

-- one piece, and the next from where it ended
pub then : {m n : ℕ} {xs ys s t u : List ℕ} {at mid end : ℕ} → PutsUpTo m xs s at t mid → PutsUpTo n ys t mid u end →
    PutsUpTo (m + n) (xs ++ ys) s at u end
then p q = record { puts = puts_then p.puts q.puts; most = omega (arith, p.most, q.most) }

pub within : {m : ℕ} (n : ℕ) {xs s t : List ℕ} {at end : ℕ} → m ≤ n → PutsUpTo m xs s at t end → PutsUpTo n xs s at t end
within n h p = record { puts = p.puts; most = omega (arith, p.most) }

-- the same bytes
pub spelt : {k : ℕ} {xs ys s t : List ℕ} {at end : ℕ} → xs ≡ ys → PutsUpTo k ys s at t end → PutsUpTo k xs s at t end
spelt {k} {s = s} {t = t} {at = at} {end = end} e p = subst (λ (l : List ℕ). PutsUpTo k l s at t end) (sym e) p

pub nothing : (k : ℕ) (s : List ℕ) (at : ℕ) → PutsUpTo k [] s at s at
nothing k s at = record { puts = puts_none s at; most = omega arith }

pub byte_short : (n : ℕ) → n < 256 → length (natural n) ≤ BYTE_TEXT
byte_short n h = length_natural 2 n (omega arith)

-- a step, by its function
pub step_by : {k : ℕ} {s u : List ℕ} {at end : ℕ} (t : Step) (f : Func) → t.func ≡ f → PutsUpTo k (printed (step_tokens f t)) s at u end →
    PutsUpTo k (printed (step_tokens t.func t)) s at u end
step_by {k} {s} {u} {at} {end} t f e p = subst (λ (g : Func). PutsUpTo k (printed (step_tokens g t)) s at u end) (sym e) p

-- ---- a loop that puts pieces of at most k bytes each: the first i of n are put, and `text i` is what they come to

pub record Putting (k : ℕ) (text : ℕ → List ℕ) (s₀ : List ℕ) (at n : ℕ) (s : List ℕ) (end i : ℕ) : Type 0 where
  pub within : i ≤ n
  pub puts : PutsText (text i) s₀ at s end
  pub most : end ≤ at + k * i
  pub size : length s ≡ length s₀

pub putting_starts : {k : ℕ} {text : ℕ → List ℕ} {s : List ℕ} {at n : ℕ} → text 0 ≡ [] → Putting k text s at n s at 0
putting_starts {s = s} {at = at} e = record { within = omega arith; puts = rw e (puts_none s at); most = omega arith; size = refl }

pub putting_goes_on : {k : ℕ} {text : ℕ → List ℕ} {s₀ : List ℕ} {at n : ℕ} {s : List ℕ} {end i : ℕ} {ys u : List ℕ} {e : ℕ} →
    Putting k text s₀ at n s end i → i < n → PutsUpTo k ys s end u e → text (i + 1) ≡ text i ++ ys → Putting k text s₀ at n u e (i + 1)
putting_goes_on p l q h =
    record {
      within = omega arith;
      puts = rw h (puts_then p.puts q.puts);
      most = omega (arith, p.most, q.most);
      size = puts_length q.puts ∙ p.size;
    }

pub putting_ends : {k : ℕ} {text : ℕ → List ℕ} {s₀ : List ℕ} {at n : ℕ} {s : List ℕ} {end i : ℕ} → Putting k text s₀ at n s end i → n ≤ i →
    PutsUpTo (k * n) (text n) s₀ at s end
putting_ends {k} {text} {s₀} {at} {n} {s} {end} {i} p l =
    let e : i ≡ n = omega arith in
    record {
      puts = subst (λ (j : ℕ). PutsText (text j) s₀ at s end) e p.puts;
      most = subst (λ (j : ℕ). end ≤ at + k * j) e p.most;
    }
