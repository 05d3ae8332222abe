-- The place of a byte: what the walk over the bytes before it keeps, what line and column come to, and how they are put.
-- Assumes nothing.
use mathlib.Core.Path.{◌≡◌, refl, ap, ◌∙◌, sym}
use mathlib.Core.Bool.{Bool, true, false, cond}
use mathlib.Core.List.{List, [], ◌∷◌, ◌++◌}
use Prim.Native.Nat.{ℕ, suc, ◌+◌, ◌<◌, ◌≤◌}
use native.Mathlib.Omega.{arith}
use native.Mathlib.Numerals.{add-one}
use lib.Dec.{eqb}
use lib.ListN.{length, get_or, drop}
use lib.Seq.{drop-cons, drop-length}
use borrow.Author.Tests.{eq-eqb, ne_eqb}
use Rattle.base_words.specs.Text.{word, digits, natural}
use Rattle.text_places.specs.declared.Place.{Place}
use Rattle.text_places.specs.Places.{past_byte, place_after, outside_line}
use Rattle.text_places.specs.Put.{placed}

-- ---- one byte

abbrev at : ℕ → ℕ → ℕ × ℕ
at line column = (line, column)

pub past_feed : (p : Place) (x : ℕ) → x ≡ 10 → placed (record { line = p.line + 1; column = 1 }) ≡ past_byte (placed p) x
past_feed p x e =
    ap (λ (n : ℕ). at n 1) (add-one p.line) ∙ sym (ap (λ (b : Bool). cond b (at (suc p.line) 1) (at p.line (suc p.column))) (eq-eqb x 10 e))

pub past_other : (p : Place) (x : ℕ) → (x ≡ 10 → ⊥) → placed (record { line = p.line; column = p.column + 1 }) ≡ past_byte (placed p) x
past_other p x n =
    ap (at p.line) (add-one p.column) ∙ sym (ap (λ (b : Bool). cond b (at (suc p.line) 1) (at p.line (suc p.column))) (ne_eqb x 10 n))

past_line : (b : Bool) (line column : ℕ) → (cond b (at (suc line) 1) (at line (suc column))).0 ≤ suc line
past_line true line column = omega arith
past_line false line column = omega arith

past_column : (b : Bool) (line column : ℕ) → (cond b (at (suc line) 1) (at line (suc column))).1 ≤ suc column
past_column true line column = omega arith
past_column false line column = omega arith

-- ---- the walk: what is left of the bytes leads from where it stands to where it shall end

pub record Walking (s : List ℕ) (p : Place) (i : ℕ) : Type 0 where
  pub within : i ≤ length s
  pub line : p.line ≤ i + 1
  pub column : p.column ≤ i + 1
  pub left : place_after (placed p) (drop i s) ≡ place_after (1, 1) s

pub walking_starts : (s : List ℕ) → Walking s (record { line = 1; column = 1 }) 0
walking_starts s = record { within = omega arith; line = omega arith; column = omega arith; left = refl }

after_more : (s : List ℕ) (i : ℕ) (p : ℕ × ℕ) → i < length s → place_after p (drop i s) ≡ place_after (past_byte p (get_or s i 0)) (drop (i + 1) s)
unfolding place_after
after_more s i p h = ap (place_after p) (drop-cons s i 0 h) ∙ ap (λ (k : ℕ). place_after (past_byte p (get_or s i 0)) (drop k s)) (sym (add-one i))

module _ {s : List ℕ} {p : Place} {i : ℕ} (w : Walking s p i) where
  pub walking_goes_on : (q : Place) → i < length s → placed q ≡ past_byte (placed p) (get_or s i 0) → Walking s q (i + 1)
  walking_goes_on q h e =
      let b = eqb (get_or s i 0) 10 in
      let m = past_line b p.line p.column in
      let n = past_column b p.line p.column in
      let d = ap (λ (x : ℕ × ℕ). x.0) e in
      let f = ap (λ (x : ℕ × ℕ). x.1) e in
      record {
        within = omega arith;
        line = omega (arith, w.line);
        column = omega (arith, w.column);
        left = ap (λ (x : ℕ × ℕ). place_after x (drop (i + 1) s)) e ∙ sym (after_more s i (placed p) h) ∙ w.left;
      }

  pub walking_ends : length s ≤ i → placed p ≡ place_after (1, 1) s
  unfolding place_after
  walking_ends h =
      let e : i ≡ length s = omega (arith, w.within) in
      sym (ap (place_after (placed p)) (ap (λ (k : ℕ). drop k s) e ∙ drop-length s)) ∙ w.left

-- ---- the line is one more than the line feeds before it, and the column one more than the bytes since the last of them

abbrev pub feeds : List ℕ → ℕ
feeds [] = 0
feeds (x ∷ xs) = cond (eqb x 10) (suc (feeds xs)) (feeds xs)

line_by : (b : Bool) (p : ℕ × ℕ) (n : ℕ) → (cond b (at (suc p.0) 1) (at p.0 (suc p.1))).0 + n ≡ p.0 + cond b (suc n) n
line_by true p n = omega arith
line_by false p n = refl

pub line_counts_feeds : (p : ℕ × ℕ) (s : List ℕ) → (place_after p s).0 ≡ p.0 + feeds s
unfolding place_after
line_counts_feeds p [] = omega arith
line_counts_feeds p (x ∷ s) = line_counts_feeds (past_byte p x) s ∙ line_by (eqb x 10) p (feeds s)

-- without a line feed the column goes on
step_by : (b : Bool) (p : ℕ × ℕ) (n : ℕ) → cond b (suc n) n ≡ 0 → (cond b (at (suc p.0) 1) (at p.0 (suc p.1)) ≡ at p.0 (suc p.1)) × (n ≡ 0)
step_by true p n h = absurd (omega arith)
step_by false p n h = (refl, h)

pub column_counts_bytes : (p : ℕ × ℕ) (s : List ℕ) → feeds s ≡ 0 → (place_after p s).1 ≡ p.1 + length s
unfolding place_after
column_counts_bytes p [] h = omega arith
column_counts_bytes p (x ∷ s) h =
    let g = step_by (eqb x 10) p (feeds s) h in
    ap (λ (q : ℕ × ℕ). (place_after q s).1) g.0 ∙ column_counts_bytes (at p.0 (suc p.1)) s g.1 ∙ omega arith

after_append : (p : ℕ × ℕ) (s t : List ℕ) → place_after p (s ++ t) ≡ place_after (place_after p s) t
unfolding place_after
after_append p [] t = refl
after_append p (x ∷ s) t = after_append (past_byte p x) s t

pub column_since_feed : (p : ℕ × ℕ) (s t : List ℕ) → feeds t ≡ 0 → (place_after p (s ++ (10 ∷ t))).1 ≡ 1 + length t
unfolding place_after
column_since_feed p s t h =
    ap (λ (q : ℕ × ℕ). q.1) (after_append p s (10 ∷ t)) ∙ column_counts_bytes (at (suc (place_after p s).0) 1) t h

-- ---- the line of 19 in the pieces in which it is put

pub outside_line_lem : (byte : ℕ) (place : ℕ × ℕ) → outside_line 19 byte place
    ≡ (word "refused 19 at byte " ++ natural byte) ++ ((word ", line " ++ natural place.0) ++ ((word " column " ++ natural place.1) ++ word "\n"))
unfolding outside_line natural digits
outside_line_lem byte place = refl
