-- The steps of a line, and a line over a whole list of items.
-- Assumes nothing.
use mathlib.Core.Path.{◌≡◌, refl, ap, ◌∙◌}
use mathlib.Core.Bool.{Bool, true, false, cond, ◌&&◌, ◌||◌}
use mathlib.Core.Option.{Option, some, none}
use mathlib.Core.List.{List, [], ◌∷◌, ◌++◌}
use Prim.Native.Nat.{ℕ}
use lib.ListN.{get_or, set}
use lib.Dec.{eqb}
use lib.IntN.{ℤ, pos}
use lib.Signed.{le_z}
use borrow.Author.Tests.{eq-eqb}
use Rattle.base_lists.proofs.Tests.{or_left, or_right, neither}
use Rattle.run_effect.specs.Flow.{add_of, count_of}
use Rattle.order_theory.proofs.Model.{Op, Local}
use Rattle.order_theory.proofs.Trace.{cons?, tv, tput, ttake}

abbrev pub Item : Type 0
Item = List ℤ

pub data Step : Type 0 where
  keep : ℕ → ℤ → ℤ → Step
  add : ℕ → ℤ → Step
  copy : ℕ → ℕ → Step
  count : ℕ → ℕ → Step
  stamp : ℕ → ℕ → Step

-- shut: what follows holds for any sum that Add and any next number that Count might use
unfoldable pub plus : ℤ → ℤ → ℤ
plus a b = add_of a b

unfoldable pub tick : ℤ → ℤ
tick a = count_of a

abbrev pub upd : ℕ → ℤ → (ℕ → ℤ) → ℕ → ℤ
upd k y v i = cond (eqb i k) y (v i)

abbrev pub Res : Type 0
Res = Option Item × (ℕ → ℤ)

unfoldable pub one : Step → Item → (ℕ → ℤ) → Res
one (keep p lo hi) x v = (cond (le_z lo (get_or x p (pos 0)) && le_z (get_or x p (pos 0)) hi) (some x) none, v)
one (add p lo) x v = (some (set x p (plus (get_or x p (pos 0)) lo)), v)
one (copy p r) x v = (some (set x r (get_or x p (pos 0))), v)
one (count k p) x v = let c = tick (v k) in (some (set x p c), upd k c v)
one (stamp k p) x v = (some (set x p (v k)), v)

abbrev pub then : Option Item → (ℕ → ℤ) → (Item → (ℕ → ℤ) → Res) → Res
then none v f = (none, v)
then (some x) v f = f x v

unfoldable pub runs : List Step → Item → (ℕ → ℤ) → Res
runs [] x v = (some x, v)
runs (s ∷ ss) x v = then (one s x v).0 (one s x v).1 (λ y w. runs ss y w)

pub runs_append : (a b : List Step) (x : Item) (v : ℕ → ℤ) → runs (a ++ b) x v ≡ then (runs a x v).0 (runs a x v).1 (runs b)
unfolding runs
runs_append [] b x v = refl
runs_append (s ∷ a) b x v = go (one s x v).0 (one s x v).1 (λ y w. runs_append a b y w)
  where
    go : (o : Option Item) (w : ℕ → ℤ) → ((y : Item) (w : ℕ → ℤ) → runs (a ++ b) y w ≡ then (runs a y w).0 (runs a y w).1 (runs b))
        → then o w (λ y w. runs (a ++ b) y w) ≡ then (then o w (λ y w. runs a y w)).0 (then o w (λ y w. runs a y w)).1 (runs b)
    go none w ih = refl
    go (some y) w ih = ih y w

-- the variables that steps name
abbrev pub named : Step → ℕ → Bool
named (keep p lo hi) k = false
named (add p lo) k = false
named (copy p r) k = false
named (count v p) k = eqb k v
named (stamp v p) k = eqb k v

unfoldable pub names : List Step → ℕ → Bool
names [] k = false
names (s ∷ ss) k = named s k || names ss k

abbrev pub Alike : (ℕ → Bool) → (ℕ → ℤ) → (ℕ → ℤ) → Type 0
Alike own v w = (i : ℕ) → own i ≡ true → v i ≡ w i

-- steps see and change only the variables that they name
pub one_frame : (s : Step) (x : Item) (v : ℕ → ℤ) (i : ℕ) → named s i ≡ false → (one s x v).1 i ≡ v i
unfolding one
one_frame (keep p lo hi) x v i h = refl
one_frame (add p lo) x v i h = refl
one_frame (copy p r) x v i h = refl
one_frame (count k p) x v i h = rw h
one_frame (stamp k p) x v i h = refl

pub one_item : (s : Step) (x : Item) (v w : ℕ → ℤ) → Alike (named s) v w → (one s x v).0 ≡ (one s x w).0
unfolding one
one_item (keep p lo hi) x v w h = refl
one_item (add p lo) x v w h = refl
one_item (copy p r) x v w h = refl
one_item (count k p) x v w h = rw (h k (eq-eqb k k refl))
one_item (stamp k p) x v w h = rw (h k (eq-eqb k k refl))

pub one_vars : (s : Step) (x : Item) (v w : ℕ → ℤ) (i : ℕ) → Alike (named s) v w → v i ≡ w i → (one s x v).1 i ≡ (one s x w).1 i
unfolding one
one_vars (keep p lo hi) x v w i h e = e
one_vars (add p lo) x v w i h e = e
one_vars (copy p r) x v w i h e = e
one_vars (count k p) x v w i h e = rw (h k (eq-eqb k k refl), e)
one_vars (stamp k p) x v w i h e = e

pub runs_frame : (ss : List Step) (x : Item) (v : ℕ → ℤ) (i : ℕ) → names ss i ≡ false → (runs ss x v).1 i ≡ v i
unfolding runs names
runs_frame [] x v i h = refl
runs_frame (s ∷ ss) x v i h =
    go (one s x v).0 (one s x v).1 (one_frame s x v i (neither (named s i) (names ss i) h).0)
    (λ y w. runs_frame ss y w i (neither (named s i) (names ss i) h).1)
  where
    go : (o : Option Item) (w : ℕ → ℤ) → w i ≡ v i → ((y : Item) (w : ℕ → ℤ) → (runs ss y w).1 i ≡ w i)
        → (then o w (λ y w. runs ss y w)).1 i ≡ v i
    go none w e ih = e
    go (some y) w e ih = ih y w ∙ e

pub runs_item : (ss : List Step) (x : Item) (v w : ℕ → ℤ) → Alike (names ss) v w → (runs ss x v).0 ≡ (runs ss x w).0
unfolding runs names
runs_item [] x v w h = refl
runs_item (s ∷ ss) x v w h =
    rw (one_item s x v w (λ i e. h i (or_left (named s i) (names ss i) e)))
    (go (one s x w).0 (one s x v).1 (one s x w).1
    (λ i e. one_vars s x v w i (λ i e. h i (or_left (named s i) (names ss i) e)) (h i (or_right (named s i) (names ss i) e)))
    (λ y v w h. runs_item ss y v w h))
  where
    go : (o : Option Item) (v w : ℕ → ℤ) → Alike (names ss) v w
        → ((y : Item) (v w : ℕ → ℤ) → Alike (names ss) v w → (runs ss y v).0 ≡ (runs ss y w).0)
        → (then o v (λ y w. runs ss y w)).0 ≡ (then o w (λ y w. runs ss y w)).0
    go none v w h ih = refl
    go (some y) v w h ih = ih y v w h

pub runs_vars : (ss : List Step) (x : Item) (v w : ℕ → ℤ) (i : ℕ) → Alike (names ss) v w → v i ≡ w i → (runs ss x v).1 i ≡ (runs ss x w).1 i
unfolding runs names
runs_vars [] x v w i h d = d
runs_vars (s ∷ ss) x v w i h d =
    rw (one_item s x v w (λ i e. h i (or_left (named s i) (names ss i) e)))
    (go (one s x w).0 (one s x v).1 (one s x w).1
    (λ i e. one_vars s x v w i (λ i e. h i (or_left (named s i) (names ss i) e)) (h i (or_right (named s i) (names ss i) e)))
    (one_vars s x v w i (λ i e. h i (or_left (named s i) (names ss i) e)) d)
    (λ y v w h d. runs_vars ss y v w i h d))
  where
    go : (o : Option Item) (v w : ℕ → ℤ) → Alike (names ss) v w → v i ≡ w i
        → ((y : Item) (v w : ℕ → ℤ) → Alike (names ss) v w → v i ≡ w i → (runs ss y v).1 i ≡ (runs ss y w).1 i)
        → (then o v (λ y w. runs ss y w)).1 i ≡ (then o w (λ y w. runs ss y w)).1 i
    go none v w h d ih = d
    go (some y) v w h d ih = ih y v w h d

-- a line as an operator
unfoldable pub line_op : ℕ → ℕ → List Step → Op Item ℤ
line_op p o ss = record {
  outs = λ q. eqb q o;
  own = names ss;
  sel = λ v. p;
  puts = λ x v q. cond (eqb q o) (runs ss x v).0 none;
  next = λ x v. (runs ss x v).1;
}

pub line_local : (p o : ℕ) (ss : List Step) → Local Item ℤ (line_op p o ss)
unfolding line_op
line_local p o ss = record {
  sel_local = λ v w h. refl;
  puts_local = λ x v w h q. ap (λ (r : Option Item). cond (eqb q o) r none) (runs_item ss x v w h);
  puts_out = λ x v q e. rw e;
  next_local = λ x v w h i e. runs_vars ss x v w i h (h i e);
  next_frame = λ x v i e. runs_frame ss x v i e;
}

-- a line over all that it is given
unfoldable pub lout : List Step → (ℕ → ℤ) → List Item → List Item
lout ss v [] = []
lout ss v (x ∷ xs) = cons? (runs ss x v).0 (lout ss (runs ss x v).1 xs)

unfoldable pub lvars : List Step → (ℕ → ℤ) → List Item → ℕ → ℤ
lvars ss v [] = v
lvars ss v (x ∷ xs) = lvars ss (runs ss x v).1 xs

pub line_put : (p o : ℕ) (ss : List Step) (v : ℕ → ℤ) (xs : List Item) → tput (line_op p o ss) v o xs ≡ lout ss v xs
unfolding line_op tput lout
line_put p o ss v [] = refl
line_put p o ss v (x ∷ xs) = rw (eq-eqb o o refl) (ap (cons? (runs ss x v).0) (line_put p o ss (runs ss x v).1 xs))

pub line_var : (p o : ℕ) (ss : List Step) (v : ℕ → ℤ) (xs : List Item) → tv (line_op p o ss) v xs ≡ lvars ss v xs
unfolding line_op tv lvars
line_var p o ss v [] = refl
line_var p o ss v (x ∷ xs) = line_var p o ss (runs ss x v).1 xs

pub line_take : (p o : ℕ) (ss : List Step) (v : ℕ → ℤ) (xs : List Item) → ttake (line_op p o ss) v p xs ≡ xs
unfolding line_op ttake
line_take p o ss v [] = refl
line_take p o ss v (x ∷ xs) = rw (eq-eqb p p refl) (ap (λ (l : List Item). x ∷ l) (line_take p o ss (runs ss x v).1 xs))

-- fuse: two lines one after the other are the line of both step lists
module _ (a b : List Step) (ab : (i : ℕ) → names a i ≡ true → names b i ≡ false) (ba : (i : ℕ) → names b i ≡ true → names a i ≡ false) where
  pub record Fused (u va vb : ℕ → ℤ) (xs : List Item) : Type 0 where
    pub out : lout (a ++ b) u xs ≡ lout b vb (lout a va xs)
    pub first : Alike (names a) (lvars (a ++ b) u xs) (lvars a va xs)
    pub second : Alike (names b) (lvars (a ++ b) u xs) (lvars b vb (lout a va xs))

  pub fuse : (xs : List Item) (u va vb : ℕ → ℤ) → Alike (names a) u va → Alike (names b) u vb → Fused u va vb xs
  unfolding lout lvars
  fuse [] u va vb ha hb = record { out = refl; first = ha; second = hb }
  fuse (x ∷ xs) u va vb ha hb = go (runs a x va).0 refl (runs_item a x u va ha) (λ u va vb ha hb. fuse xs u va vb ha hb)
    where
      u₁ : ℕ → ℤ
      u₁ = (runs a x u).1

      va₁ : ℕ → ℤ
      va₁ = (runs a x va).1

      ha₁ : Alike (names a) u₁ va₁
      ha₁ i e = runs_vars a x u va i ha (ha i e)

      hb₁ : Alike (names b) u₁ vb
      hb₁ i e = runs_frame a x u i (ba i e) ∙ hb i e

      go : (o : Option Item) → (runs a x va).0 ≡ o → (runs a x u).0 ≡ (runs a x va).0
          → ((u va vb : ℕ → ℤ) → Alike (names a) u va → Alike (names b) u vb → Fused u va vb xs) → Fused u va vb (x ∷ xs)
      go none e d ih =
          let f = ih u₁ va₁ vb ha₁ hb₁ in
          record {
            out = rw (runs_append a b x u, d, e) f.out;
            first = rw (runs_append a b x u, d, e) f.first;
            second = rw
                (runs_append a b x u, d, e) f.second;
          }
      go (some y) e d ih =
          let ha₂ : Alike (names a) (runs b y u₁).1 va₁ = λ i h. runs_frame b y u₁ i (ab i h) ∙ ha₁ i h in
          let hb₂ : Alike (names b) (runs b y u₁).1 (runs b y vb).1 = λ i h. runs_vars b y u₁ vb i hb₁ (hb₁ i h) in
          let f = ih (runs b y u₁).1 va₁ (runs b y vb).1 ha₂ hb₂ in
          let g = runs_item b y u₁ vb hb₁ in
          record {
            out = rw (runs_append a b x u, d, e) (rw (g, f.out));
            first = rw (runs_append a b x u, d, e)
                f.first;
            second = rw (runs_append a b x u, d, e) f.second;
          }
