-- A piece of text that was put, with a bound on its length: one piece after another, and a loop that puts pieces.
-- Assumes nothing.
use mathlib.Core.Path.{◌≡◌, refl, ◌∙◌, sym, subst}
use mathlib.Core.List.{List, [], ◌∷◌, ◌++◌}
use Prim.Native.Nat.{ℕ, ◌+◌, ◌*◌, ◌≤◌}
use native.Mathlib.Omega.{arith}
use lib.ListN.{length, set}
use Rattle.base_words.specs.Text.{PutsText}
use Rattle.base_words.proofs.Putting.{puts_none, puts_then, puts_length, puts_byte}

pub record Piece (n : ℕ) (xs s : List ℕ) (at : ℕ) (t : List ℕ) (end : ℕ) : Type 0 where
  pub puts : PutsText xs s at t end
  pub most : end ≤ at + n
  pub size : length t ≡ length s

pub piece : (n : ℕ) {xs s t : List ℕ} {at end : ℕ} → length xs ≤ n → PutsText xs s at t end → Piece n xs s at t end
piece n h p = record { puts = p; most = omega (arith, p.past); size = puts_length p }

pub piece_of : {n : ℕ} {xs s t : List ℕ} {at end : ℕ} → PutsText xs s at t end × (end ≤ at + n) → Piece n xs s at t end
piece_of p = record { puts = p.0; most = p.1; size = puts_length p.0 }

pub byte : (b : ℕ) (s : List ℕ) (at : ℕ) → Piece 1 (b ∷ []) s at (set s at b) (at + 1)
byte b s at = piece 1 (omega arith) (puts_byte s at b)

-- one piece, and the next from where it ended
pub then : {m n : ℕ} {xs ys s t u : List ℕ} {at mid end : ℕ} → Piece m xs s at t mid → Piece n ys t mid u end →
    Piece (m + n) (xs ++ ys) s at u end
then p q = record { puts = puts_then p.puts q.puts; most = omega (arith, p.most, q.most); size = q.size ∙ p.size }

-- the whole, within a bound
pub whole : {m : ℕ} (n : ℕ) {xs s t : List ℕ} {at end : ℕ} → m ≤ n → Piece m xs s at t end → PutsText xs s at t end × (end ≤ at + n)
whole n h p = (p.puts, omega (arith, p.most))

-- i pieces of at most n bytes each, and one more
pub pieces_none : (n : ℕ) (s : List ℕ) (at : ℕ) → Piece (n * 0) [] s at s at
pieces_none n s at = record { puts = puts_none s at; most = omega arith; size = refl }

pub pieces_more : (n i : ℕ) {xs ys s t u : List ℕ} {at mid end : ℕ} (zs : List ℕ) → Piece (n * i) xs s at t mid → Piece n ys t mid u end →
    zs ≡ xs ++ ys →
    Piece (n * (i + 1)) zs s at u end
pieces_more n i {s = s} {u = u} {at = at} {end = end} zs p q e =
    let r = then p q in
    let m : n * i + n ≡ n * (i + 1) = omega arith in
    subst (λ (k : ℕ). Piece k zs s at u end) m (subst (λ (l : List ℕ). Piece (n * i + n) l s at u end) (sym e) r)

pub pieces_all : (n i k : ℕ) {xs ys s t : List ℕ} {at end : ℕ} → i ≡ k → xs ≡ ys → Piece (n * i) xs s at t end →
    PutsText ys s at t end × (end ≤ at + n * k)
pieces_all n i k {s = s} {t = t} {at = at} {end = end} e d p =
    (subst (λ (l : List ℕ). PutsText l s at t end) d p.puts, subst (λ (j : ℕ). end ≤ at + n * j) e p.most)
