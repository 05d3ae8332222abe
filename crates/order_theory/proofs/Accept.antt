-- Acceptance by counting: how often each queue is defined and read and each variable held; what a rewriting does to the counts is a sum.
-- Assumes nothing.
use mathlib.Core.Path.{◌≡◌, refl}
use mathlib.Core.Bool.{Bool, true, false, ◌||◌}
use mathlib.Core.Option.{none}
use mathlib.Core.List.{List, [], ◌∷◌, ◌++◌}
use Prim.Native.Nat.{ℕ, zero, suc, ◌+◌, ◌≤◌, ◌<◌}
use native.Mathlib.Omega.{arith}
use lib.ListN.{length, get_or}
use lib.Dec.{eqb, ltb}
use borrow.Author.Tests.{ltb-true, ltb-false, eq-eqb}
use Rattle.base_lists.specs.Lists.{bit, times}
use Rattle.base_lists.proofs.Bits.{bit_one}
use Rattle.base_lists.proofs.Times.{times_member, member_times}
use Rattle.order_theory.proofs.Steps.{line_op}
use Rattle.order_theory.proofs.Deal.{Once, deal_op, gather_op}
use Rattle.order_theory.proofs.Equations.{Kind, line, latest, double, deal, gather, Ways}
use Rattle.order_theory.proofs.Denote.{denote, takes_from, Good, latest_op, double_op}
use Rattle.order_theory.proofs.Sheets.{Accepted, gives, holds, blank, find, find_none}
use Rattle.order_theory.proofs.Rewrites.{All, all_at}

module _ {A : Type 0} (f : A → ℕ) where
  unfoldable pub tot : List A → ℕ
  tot [] = 0
  tot (x ∷ xs) = f x + tot xs

  pub tot_append : (xs ys : List A) → tot (xs ++ ys) ≡ tot xs + tot ys
  unfolding tot
  tot_append [] ys = omega arith
  tot_append (x ∷ xs) ys = rw (tot_append xs ys) (omega arith)

  pub tot_at : (xs : List A) (i : ℕ) (d : A) → i < length xs → f (get_or xs i d) ≤ tot xs
  unfolding tot
  tot_at [] i d h = absurd (omega arith)
  tot_at (x ∷ xs) zero d h = omega arith
  tot_at (x ∷ xs) (suc i) d h = omega (arith, tot_at xs i d (omega arith))

  pub tot_two : (xs : List A) (i j : ℕ) (d : A) → i < j → j < length xs → f (get_or xs i d) + f (get_or xs j d) ≤ tot xs
  unfolding tot
  tot_two [] i j d l h = absurd (omega arith)
  tot_two (x ∷ xs) zero zero d l h = absurd (omega arith)
  tot_two (x ∷ xs) zero (suc j) d l h = omega (arith, tot_at xs j d (omega arith))
  tot_two (x ∷ xs) (suc i) zero d l h = absurd (omega arith)
  tot_two (x ∷ xs) (suc i) (suc j) d l h = omega (arith, tot_two xs i j d (omega arith) (omega arith))

  -- at most one in all: at one place only
  pub tot_once : (xs : List A) (d : A) → tot xs ≤ 1 → (i j : ℕ) → i < length xs → j < length xs → 1 ≤ f (get_or xs i d)
      → 1 ≤ f (get_or xs j d) → i ≡ j
  tot_once xs d t i j hi hj a b = go (ltb i j) refl (ltb j i) refl
    where
      go : (x : Bool) → ltb i j ≡ x → (y : Bool) → ltb j i ≡ y → i ≡ j
      go true e y e' = absurd (omega (arith, tot_two xs i j d (ltb-true i j e) hj))
      go false e true e' = absurd (omega (arith, tot_two xs j i d (ltb-true j i e') hi))
      go false e false e' = omega (arith, ltb-false i j e, ltb-false j i e')

  pub tot_none : (xs : List A) (d : A) → ((i : ℕ) → i < length xs → f (get_or xs i d) ≡ 0) → tot xs ≡ 0
  unfolding tot
  tot_none [] d z = refl
  tot_none (x ∷ xs) d z = omega (arith, z 0 (omega arith), tot_none xs d (λ i h. z (suc i) (omega arith)))

-- how often a queue stands in a list
tot_times : (q : ℕ) (l : List ℕ) → tot (λ r. bit (eqb q r)) l ≡ times q l
unfolding tot
tot_times q [] = refl
tot_times q (r ∷ l) = rw (tot_times q l)

pub times_at : (q : ℕ) (l : List ℕ) (j : ℕ) → j < length l → bit (eqb q (get_or l j 0)) ≤ times q l
times_at q l j h = omega (arith, tot_at (λ r. bit (eqb q r)) l j 0 h, tot_times q l)

unfoldable pub gives_n : ℕ → Kind → ℕ
gives_n q (line p o ss) = bit (eqb q o)
gives_n q (latest p k f) = 0
gives_n q (double p o o') = bit (eqb q o) + bit (eqb q o')
gives_n q (deal c p os) = times q os
gives_n q (gather c o is) = bit (eqb q o)

unfoldable pub reads_n : ℕ → Kind → ℕ
reads_n q (line p o ss) = bit (eqb q p)
reads_n q (latest p k f) = bit (eqb q p)
reads_n q (double p o o') = bit (eqb q p)
reads_n q (deal c p os) = bit (eqb q p)
reads_n q (gather c o is) = times q is

abbrev pub holds_n : ℕ → Kind → ℕ
holds_n k κ = bit (holds κ k)

-- nothing reads what it defines itself or what is defined later
pub data Ord : List Kind → Type 0 where
  ord_end : Ord []
  ord_on : {κ : Kind} {κs : List Kind} → ((q : ℕ) → 1 ≤ reads_n q κ → gives_n q κ + tot (gives_n q) κs ≡ 0) → Ord κs → Ord (κ ∷ κs)

pub ord_head : {κ : Kind} {κs : List Kind} → Ord (κ ∷ κs) → (q : ℕ) → 1 ≤ reads_n q κ → gives_n q κ + tot (gives_n q) κs ≡ 0
ord_head (ord_on h o) = h

pub ord_rest : {κ : Kind} {κs : List Kind} → Ord (κ ∷ κs) → Ord κs
ord_rest (ord_on h o) = o

pub record Acc (I Q : ℕ) (ops : List Kind) : Type 0 where
  pub fit : I ≤ Q
  pub defs : (q : ℕ) → q < Q → tot (gives_n q) ops + bit (ltb q I) ≡ 1
  pub defs_out : (q : ℕ) → Q ≤ q → tot (gives_n q) ops ≡ 0
  pub reads : (q : ℕ) → tot (reads_n q) ops ≤ 1
  pub reads_out : (q : ℕ) → Q ≤ q → tot (reads_n q) ops ≡ 0
  pub calm : (k : ℕ) → tot (holds_n k) ops ≤ 1
  pub ways : All Ways ops
  pub ord : Ord ops

pub reads_one : (κ : Kind) (q : ℕ) → takes_from κ q ≡ true → 1 ≤ reads_n q κ
unfolding takes_from reads_n
reads_one (line p o ss) q h = bit_one (eqb q p) h
reads_one (latest p k f) q h = bit_one (eqb q p) h
reads_one (double p o o') q h = bit_one (eqb q p) h
reads_one (deal c p os) q h = bit_one (eqb q p) h
reads_one (gather c o is) q h = times_member q is h

pub gives_one : (κ : Kind) (q : ℕ) → gives κ q ≡ true → 1 ≤ gives_n q κ
unfolding denote gives_n line_op latest_op double_op deal_op gather_op
gives_one (line p o ss) q h = bit_one (eqb q o) h
gives_one (latest p k f) q h = let z : ◌≡◌ {A = ℕ} 0 1 = cc in absurd (omega arith)
gives_one (double p o o') q h = go (eqb q o) (eqb q o') h
  where
    go : (a b : Bool) → (a || b) ≡ true → 1 ≤ bit a + bit b
    go true b h = omega arith
    go false b h = omega (arith, bit_one b h)
gives_one (deal c p os) q h = times_member q os h
gives_one (gather c o is) q h = bit_one (eqb q o) h

pub not_gives : (κ : Kind) (q : ℕ) → gives κ q ≡ false → gives_n q κ ≡ 0
unfolding denote gives_n line_op latest_op double_op deal_op gather_op
not_gives (line p o ss) q h = rw h
not_gives (latest p k f) q h = refl
not_gives (double p o o') q h = go (eqb q o) (eqb q o') h
  where
    go : (a b : Bool) → (a || b) ≡ false → bit a + bit b ≡ 0
    go true b h = let z : ◌≡◌ {A = ℕ} 0 1 = cc in absurd (omega arith)
    go false b h = rw h
not_gives (deal c p os) q h = member_times q os h
not_gives (gather c o is) q h = rw h

once_of : (l : List ℕ) → ((q : ℕ) → times q l ≤ 1) → Once l
once_of l h i j hi hj e = tot_once (λ r. bit (eqb (get_or l i 0) r)) l 0 (omega (arith, tot_times (get_or l i 0) l, h (get_or l i 0))) i j hi hj
    (bit_one (eqb (get_or l i 0) (get_or l i 0)) (eq-eqb (get_or l i 0) (get_or l i 0) refl))
    (bit_one (eqb (get_or l i 0) (get_or l j 0)) (eq-eqb (get_or l i 0) (get_or l j 0) e))

good_of : (κ : Kind) → Ways κ → ((q : ℕ) → gives_n q κ ≤ 1) → ((q : ℕ) → reads_n q κ ≤ 1) → Good κ
unfolding Ways Good gives_n reads_n
good_of (line p o ss) w g r = tt
good_of (latest p k f) w g r = tt
good_of (double p o o') w g r = tt
good_of (deal c p os) w g r = (w, once_of os g)
good_of (gather c o is) w g r = (w, once_of is r)

ord_at : {ops : List Kind} → Ord ops → (i j q : ℕ) → i ≤ j → j < length ops → 1 ≤ reads_n q (get_or ops i blank)
    → gives_n q (get_or ops j blank) ≡ 0
unfolding tot
ord_at ord_end i j q l h r = absurd (omega arith)
ord_at (ord_on {κs} f o) zero zero q l h r = omega (arith, f q r)
ord_at (ord_on {κs} f o) zero (suc j) q l h r = omega (arith, f q r, tot_at (gives_n q) κs j blank (omega arith))
ord_at (ord_on {κs} f o) (suc i) zero q l h r = absurd (omega arith)
ord_at (ord_on {κs} f o) (suc i) (suc j) q l h r = ord_at o i j q (omega arith) (omega arith) r

module _ (I Q : ℕ) (ops : List Kind) (a : Acc I Q ops) where
  pub defs_le : (q : ℕ) → tot (gives_n q) ops ≤ 1
  defs_le q = go (ltb q Q) refl
    where
      go : (b : Bool) → ltb q Q ≡ b → tot (gives_n q) ops ≤ 1
      go true e = omega (arith, a.defs q (ltb-true q Q e))
      go false e = omega (arith, a.defs_out q (ltb-false q Q e))

  pub not_input : (q : ℕ) → 1 ≤ tot (gives_n q) ops → (I ≤ q) × (q < Q)
  not_input q h = go (ltb q Q) refl (ltb q I) refl
    where
      go : (b : Bool) → ltb q Q ≡ b → (c : Bool) → ltb q I ≡ c → (I ≤ q) × (q < Q)
      go true e true e' = absurd (omega (arith, rw e' at (a.defs q (ltb-true q Q e))))
      go true e false e' = (ltb-false q I e', ltb-true q Q e)
      go false e c e' = absurd (omega (arith, a.defs_out q (ltb-false q Q e)))

  pub accepted : Accepted I Q ops
  accepted = record {
    def_once = λ i j q hi hj x y.
        tot_once (gives_n q) ops blank (defs_le q) i j hi hj (gives_one (get_or ops i blank) q x) (gives_one (get_or ops j blank) q y);
    read_once = λ i j q hi hj x y.
        tot_once (reads_n q) ops blank (a.reads q) i j hi hj (reads_one (get_or ops i blank) q x) (reads_one (get_or ops j blank) q y);
    apart = λ i j k hi hj x y.
        tot_once (holds_n k) ops blank (a.calm k) i j hi hj (bit_one (holds (get_or ops i blank) k) x)
        (bit_one (holds (get_or ops j blank) k) y);
    order = λ i j q hi hj x y. order i j q hj (reads_one (get_or ops i blank) q x) (gives_one (get_or ops j blank) q y) (ltb j i) refl;
    good = λ i hi.
        good_of (get_or ops i blank) (all_at a.ways i blank hi) (λ q. omega (arith, tot_at (gives_n q) ops i blank hi, defs_le q))
        (λ q. omega (arith, tot_at (reads_n q) ops i blank hi, a.reads q));
    low = λ i q hi x. low i q hi (reads_one (get_or ops i blank) q x) (ltb q Q) refl;
    fit = a.fit;
    defined = λ q h e. defined q h e (ltb q I) refl;
    inputs = λ i q hi x. (not_input q (omega (arith, tot_at (gives_n q) ops i blank hi, gives_one (get_or ops i blank) q x))).0;
  }
    where
      order : (i j q : ℕ) → j < length ops → 1 ≤ reads_n q (get_or ops i blank) → 1 ≤ gives_n q (get_or ops j blank) → (b : Bool)
          → ltb j i ≡ b → j < i
      order i j q hj x y true e = ltb-true j i e
      order i j q hj x y false e = absurd (omega (arith, ord_at a.ord i j q (ltb-false j i e) hj x))

      low : (i q : ℕ) → i < length ops → 1 ≤ reads_n q (get_or ops i blank) → (b : Bool) → ltb q Q ≡ b → q < Q
      low i q hi x true e = ltb-true q Q e
      low i q hi x false e = absurd (omega (arith, a.reads_out q (ltb-false q Q e), tot_at (reads_n q) ops i blank hi))

      defined : (q : ℕ) → q < Q → find (λ κ. gives κ q) ops ≡ none → (b : Bool) → ltb q I ≡ b → q < I
      defined q h e true e' = ltb-true q I e'
      defined q h e false e' =
          let z = tot_none (gives_n q) ops blank (λ i hi. not_gives (get_or ops i blank) q (find_none (λ κ. gives κ q) ops i blank e hi)) in
          absurd (omega (arith, rw e' at (a.defs q h)))

pub not_reads : (κ : Kind) (q : ℕ) → takes_from κ q ≡ false → reads_n q κ ≡ 0
unfolding takes_from reads_n
not_reads (line p o ss) q h = rw h
not_reads (latest p k f) q h = rw h
not_reads (double p o o') q h = rw h
not_reads (deal c p os) q h = rw h
not_reads (gather c o is) q h = member_times q is h
