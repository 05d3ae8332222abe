-- The kinds of operators, the equations between the whole contents of queues that each stands for,
-- and step lists that commute or drop nothing.
-- Assumes nothing.
use mathlib.Core.Path.{◌≡◌, refl, ap, sym, ◌∙◌, fun_ext}
use mathlib.Core.Bool.{Bool, true, false, cond, ◌&&◌, ◌||◌, or_assoc}
use mathlib.Core.Option.{Option, some, none}
use mathlib.Core.Logic.{◌≢◌}
use mathlib.Core.List.{List, [], ◌∷◌, ◌++◌, map}
use Prim.Native.Nat.{ℕ, ◌<◌}
use native.Mathlib.Omega.{arith}
use lib.ListN.{length, get_or, set}
use lib.Dec.{eqb}
use lib.IntN.{ℤ, pos}
use lib.Signed.{le_z}
use lib.Seq.{get_or-set_other, set_comm}
use borrow.Author.Tests.{eqb-false, eq-eqb}
use Rattle.base_lists.proofs.Build.{never}
use Rattle.base_lists.proofs.Tests.{both}
use Rattle.order_theory.proofs.Trace.{cons?}
use Rattle.order_theory.proofs.Steps.{Item, Step, keep, add, copy, count, stamp, one, then, named, plus, names, runs, lout, lvars}
use Rattle.order_theory.proofs.Deal.{share_of, turn}

pub data Kind : Type 0 where
  line : ℕ → ℕ → List Step → Kind
  latest : ℕ → ℕ → ℕ → Kind
  double : ℕ → ℕ → ℕ → Kind
  deal : ℕ → ℕ → List ℕ → Kind
  gather : ℕ → ℕ → List ℕ → Kind

abbrev pub nought : ℕ → ℤ
nought k = pos 0

unfoldable pub last_of : ℤ → ℕ → List Item → ℤ
last_of y f [] = y
last_of y f (x ∷ xs) = last_of (get_or x f (pos 0)) f xs

abbrev pub Whole : Type 0
Whole = ℕ → List Item

unfoldable pub Eq : Kind → Whole → (ℕ → ℤ) → Type 0
Eq (line p o ss) H u = (H o ≡ lout ss nought (H p)) × ((k : ℕ) → names ss k ≡ true → u k ≡ lvars ss nought (H p) k)
Eq (latest p k f) H u = u k ≡ last_of (pos 0) f (H p)
Eq (double p o o') H u = (H o ≡ H p) × (H o' ≡ H p)
Eq (deal c p os) H u = ((j : ℕ) → j < length os → H (get_or os j 0) ≡ share_of (length os) j 0 (H p)) × (u c ≡ pos (turn (length os) 0 (H p)))
Eq (gather c o is) H u = ((j : ℕ) → j < length is → (r : List Item) × (share_of (length is) j 0 (H o) ++ r ≡ H (get_or is j 0)))
    × (share_of (length is) (turn (length is) 0 (H o)) 0 (H o) ≡ H (get_or is (turn (length is) 0 (H o)) 0)) ×
    (u c ≡ pos (turn (length is) 0 (H o)))

-- a property of each queue, and of each variable, that an operator names
unfoldable pub Queues : Kind → (ℕ → Type 0) → Type 0
Queues (line p o ss) P = P p × P o
Queues (latest p k f) P = P p
Queues (double p o o') P = P p × P o × P o'
Queues (deal c p os) P = P p × ((j : ℕ) → j < length os → P (get_or os j 0))
Queues (gather c o is) P = P o × ((j : ℕ) → j < length is → P (get_or is j 0))

unfoldable pub Variables : Kind → (ℕ → Type 0) → Type 0
Variables (line p o ss) P = (k : ℕ) → names ss k ≡ true → P k
Variables (latest p k f) P = P k
Variables (double p o o') P = Unit
Variables (deal c p os) P = P c
Variables (gather c o is) P = P c

unfoldable pub ren : (ℕ → ℕ) → Kind → Kind
ren ρ (line p o ss) = line (ρ p) (ρ o) ss
ren ρ (latest p k f) = latest (ρ p) k f
ren ρ (double p o o') = double (ρ p) (ρ o) (ρ o')
ren ρ (deal c p os) = deal c (ρ p) (map ρ os)
ren ρ (gather c o is) = gather c (ρ o) (map ρ is)

unfoldable pub Ways : Kind → Type 0
Ways (line p o ss) = Unit
Ways (latest p k f) = Unit
Ways (double p o o') = Unit
Ways (deal c p os) = 0 < length os
Ways (gather c o is) = 0 < length is

-- the variables of two step lists, one after the other
pub names_append : (a b : List Step) (k : ℕ) → names (a ++ b) k ≡ (names a k || names b k)
unfolding names
names_append [] b k = refl
names_append (s ∷ a) b k = rw (names_append a b k) (sym (or_assoc (named s k) (names a k) (names b k)))

-- steps that touch no variable
abbrev pub bind_o : Option Item → (Item → Option Item) → Option Item
bind_o none f = none
bind_o (some x) f = f x

abbrev pub pure1 : Step → Bool
pure1 (keep p lo hi) = true
pure1 (add p lo) = true
pure1 (copy p r) = true
pure1 (count k p) = false
pure1 (stamp k p) = false

unfoldable pub pure : List Step → Bool
pure [] = true
pure (s ∷ ss) = pure1 s && pure ss

abbrev pub p1 : Step → Item → Option Item
p1 s x = (one s x nought).0

unfoldable pub pruns : List Step → Item → Option Item
pruns [] x = some x
pruns (s ∷ ss) x = bind_o (p1 s x) (λ y. pruns ss y)

unfoldable pub sift : (Item → Option Item) → List Item → List Item
sift f [] = []
sift f (x ∷ xs) = cons? (f x) (sift f xs)

one_pure : (s : Step) (x : Item) (v : ℕ → ℤ) → pure1 s ≡ true → one s x v ≡ (p1 s x, v)
unfolding one
one_pure (keep p lo hi) x v h = refl
one_pure (add p lo) x v h = refl
one_pure (copy p r) x v h = refl
one_pure (count k p) x v h = let z : ◌≡◌ {A = ℕ} 0 1 = cc in absurd (omega arith)
one_pure (stamp k p) x v h = let z : ◌≡◌ {A = ℕ} 0 1 = cc in absurd (omega arith)

runs_pure : (ss : List Step) (x : Item) (v : ℕ → ℤ) → pure ss ≡ true → runs ss x v ≡ (pruns ss x, v)
unfolding runs pure pruns
runs_pure [] x v h = refl
runs_pure (s ∷ ss) x v h =
    rw (one_pure s x v (both (pure1 s) (pure ss) h).0) (go (p1 s x) (λ y. runs_pure ss y v (both (pure1 s) (pure ss) h).1))
  where
    go : (o : Option Item) → ((y : Item) → runs ss y v ≡ (pruns ss y, v)) → then o v (λ y w. runs ss y w) ≡ (bind_o o (λ y. pruns ss y), v)
    go none ih = refl
    go (some y) ih = ih y

pub lout_pure : (ss : List Step) (v : ℕ → ℤ) (xs : List Item) → pure ss ≡ true → lout ss v xs ≡ sift (pruns ss) xs
unfolding lout sift
lout_pure ss v [] h = refl
lout_pure ss v (x ∷ xs) h = rw (runs_pure ss x v h) (ap (cons? (pruns ss x)) (lout_pure ss v xs h))

pub pure_names : (ss : List Step) (k : ℕ) → pure ss ≡ true → names ss k ≡ false
unfolding pure names
pure_names [] k h = refl
pure_names (s ∷ ss) k h = go s (both (pure1 s) (pure ss) h).0 (pure_names ss k (both (pure1 s) (pure ss) h).1)
  where
    go : (s : Step) → pure1 s ≡ true → names ss k ≡ false → (named s k || names ss k) ≡ false
    go (keep p lo hi) h ih = ih
    go (add p lo) h ih = ih
    go (copy p r) h ih = ih
    go (count k p) h ih = let z : ◌≡◌ {A = ℕ} 0 1 = cc in absurd (omega arith)
    go (stamp k p) h ih = let z : ◌≡◌ {A = ℕ} 0 1 = cc in absurd (omega arith)

pub sift_sift : (f g : Item → Option Item) (xs : List Item) → sift g (sift f xs) ≡ sift (λ x. bind_o (f x) g) xs
unfolding sift
sift_sift f g [] = refl
sift_sift f g (x ∷ xs) = go (f x) (sift_sift f g xs)
  where
    go : (o : Option Item) → sift g (sift f xs) ≡ sift (λ x. bind_o (f x) g) xs
        → sift g (cons? o (sift f xs)) ≡ cons? (bind_o o g) (sift (λ x. bind_o (f x) g) xs)
    go none ih = ih
    go (some y) ih = ap (cons? (g y)) ih

-- two step lists commute item by item where no field that either writes is read or written by the other
abbrev pub reads : Step → ℕ → Bool
reads (keep p lo hi) f = eqb f p
reads (add p lo) f = eqb f p
reads (copy p r) f = eqb f p
reads (count k p) f = false
reads (stamp k p) f = false

abbrev pub writes : Step → ℕ → Bool
writes (keep p lo hi) f = false
writes (add p lo) f = eqb f p
writes (copy p r) f = eqb f r
writes (count k p) f = eqb f p
writes (stamp k p) f = eqb f p

abbrev pub Free : Step → Step → Type 0
Free s t = (f : ℕ) → writes s f ≡ true → (reads t f ≡ false) × (writes t f ≡ false)

abbrev kept : ℕ → ℤ → ℤ → Item → Option Item
kept p lo hi x = cond (le_z lo (get_or x p (pos 0)) && le_z (get_or x p (pos 0)) hi) (some x) none

keep_keep : (p q : ℕ) (lo hi lo' hi' : ℤ) (x : Item) → bind_o (kept p lo hi x) (kept q lo' hi') ≡ bind_o (kept q lo' hi' x) (kept p lo hi)
keep_keep p q lo hi lo' hi' x =
    go (le_z lo (get_or x p (pos 0)) && le_z (get_or x p (pos 0)) hi) refl (le_z lo' (get_or x q (pos 0)) && le_z (get_or x q (pos 0)) hi') refl
  where
    go : (a : Bool) → (le_z lo (get_or x p (pos 0)) && le_z (get_or x p (pos 0)) hi) ≡ a → (b : Bool)
        → (le_z lo' (get_or x q (pos 0)) && le_z (get_or x q (pos 0)) hi') ≡ b
        → bind_o (cond a (some x) none) (kept q lo' hi') ≡ bind_o (cond b (some x) none) (kept p lo hi)
    go true ea true eb = rw (ea, eb)
    go true ea false eb = rw eb
    go false ea true eb = rw ea
    go false ea false eb = refl

keep_put : (p r : ℕ) (lo hi : ℤ) (val : Item → ℤ) → p ≢ r → (x : Item)
    → bind_o (kept p lo hi x) (λ y. some (set y r (val y))) ≡ kept p lo hi (set x r (val x))
keep_put p r lo hi val n x = rw (get_or-set_other x r p (val x) (pos 0) n) (go (le_z lo (get_or x p (pos 0)) && le_z (get_or x p (pos 0)) hi))
  where
    go : (b : Bool) → bind_o (cond b (some x) none) (λ y. some (set y r (val y))) ≡ cond b (some (set x r (val x))) none
    go true = refl
    go false = refl

put_put : (r s : ℕ) (f g : Item → ℤ) (x : Item) → r ≢ s → g (set x r (f x)) ≡ g x → f (set x s (g x)) ≡ f x
    → some (set (set x r (f x)) s (g (set x r (f x)))) ≡ some (set (set x s (g x)) r (f (set x s (g x))))
put_put r s f g x n hg hf = rw (hg, hf) (ap {B = Option Item} some (set_comm x r s (f x) (g x) n))

ne : (p r : ℕ) → eqb p r ≡ false → p ≢ r
ne p r e = eqb-false p r e

en : (p r : ℕ) → eqb p r ≡ false → r ≢ p
en p r e h = eqb-false p r e (sym h)

add_copy : (p q r : ℕ) (a : ℤ) → eqb p q ≡ false → eqb p r ≡ false → (x : Item)
    → bind_o (p1 (add p a) x) (p1 (copy q r)) ≡ bind_o (p1 (copy q r) x) (p1 (add p a))
unfolding one
add_copy p q r a hq hr x = put_put p r (λ y. plus (get_or y p (pos 0)) a) (λ y. get_or y q (pos 0)) x (ne p r hr)
    (get_or-set_other x p q (plus (get_or x p (pos 0)) a) (pos 0) (en p q hq))
    (ap (λ (z : ℤ). plus z a) (get_or-set_other x r p (get_or x q (pos 0)) (pos 0) (ne p r hr)))

pub commute1 : (s t : Step) → pure1 s ≡ true → pure1 t ≡ true → Free s t → Free t s → (x : Item)
    → bind_o (p1 s x) (p1 t) ≡ bind_o (p1 t x) (p1 s)
unfolding one
commute1 (keep p lo hi) (keep q lo' hi') hs ht f g x = keep_keep p q lo hi lo' hi' x
commute1 (keep p lo hi) (add q a) hs ht f g x = keep_put p q lo hi (λ y. plus (get_or y q (pos 0)) a) (en q p (g q (eq-eqb q q refl)).0) x
commute1 (keep p lo hi) (copy q r) hs ht f g x = keep_put p r lo hi (λ y. get_or y q (pos 0)) (en r p (g r (eq-eqb r r refl)).0) x
commute1 (add q a) (keep p lo hi) hs ht f g x =
    sym (keep_put p q lo hi (λ y. plus (get_or y q (pos 0)) a) (en q p (f q (eq-eqb q q refl)).0) x)
commute1 (copy q r) (keep p lo hi) hs ht f g x = sym (keep_put p r lo hi (λ y. get_or y q (pos 0)) (en r p (f r (eq-eqb r r refl)).0) x)
commute1 (add p a) (add q b) hs ht f g x =
    put_put p q (λ y. plus (get_or y p (pos 0)) a) (λ y. plus (get_or y q (pos 0)) b) x (ne p q (f p (eq-eqb p p refl)).0)
    (ap (λ (z : ℤ). plus z b) (get_or-set_other x p q (plus (get_or x p (pos 0)) a) (pos 0) (en p q (f p (eq-eqb p p refl)).0)))
    (ap (λ (z : ℤ). plus z a) (get_or-set_other x q p (plus (get_or x q (pos 0)) b) (pos 0) (en q p (g q (eq-eqb q q refl)).0)))
commute1 (add p a) (copy q r) hs ht f g x = add_copy p q r a (f p (eq-eqb p p refl)).0 (f p (eq-eqb p p refl)).1 x
commute1 (copy q r) (add p a) hs ht f g x = sym (add_copy p q r a (g p (eq-eqb p p refl)).0 (g p (eq-eqb p p refl)).1 x)
commute1 (copy p r) (copy q s) hs ht f g x =
    put_put r s (λ y. get_or y p (pos 0)) (λ y. get_or y q (pos 0)) x (ne r s (f r (eq-eqb r r refl)).1)
    (get_or-set_other x r q (get_or x p (pos 0)) (pos 0) (en r q (f r (eq-eqb r r refl)).0))
    (get_or-set_other x s p (get_or x q (pos 0)) (pos 0) (en s p (g s (eq-eqb s s refl)).0))
commute1 (keep p lo hi) (count k r) hs ht f g x = never ht
commute1 (keep p lo hi) (stamp k r) hs ht f g x = never ht
commute1 (add p a) (count k r) hs ht f g x = never ht
commute1 (add p a) (stamp k r) hs ht f g x = never ht
commute1 (copy p r) (count k s) hs ht f g x = never ht
commute1 (copy p r) (stamp k s) hs ht f g x = never ht
commute1 (count k p) t hs ht f g x = never hs
commute1 (stamp k p) t hs ht f g x = never hs

-- and so do whole lists of them
abbrev pub Frees : Step → List Step → Type 0
Frees s [] = Unit
Frees s (t ∷ ts) = Free s t × Free t s × (pure1 t ≡ true) × Frees s ts

bind_assoc : (o : Option Item) (f g : Item → Option Item) → bind_o (bind_o o f) g ≡ bind_o o (λ x. bind_o (f x) g)
bind_assoc none f g = refl
bind_assoc (some x) f g = refl

bind_some : (o : Option Item) → bind_o o (λ y. pruns [] y) ≡ o
unfolding pruns
bind_some none = refl
bind_some (some x) = refl

commute_one : (s : Step) (b : List Step) → pure1 s ≡ true → Frees s b → (x : Item) → bind_o (p1 s x) (pruns b) ≡ bind_o (pruns b x) (p1 s)
unfolding pruns
commute_one s [] ps fr x = bind_some (p1 s x)
commute_one s (t ∷ b) ps fr x =
    sym (bind_assoc (p1 s x) (p1 t) (λ y. pruns b y))
    ∙ ap (λ (o : Option Item). bind_o o (λ y. pruns b y)) (commute1 s t ps fr.2 fr.0 fr.1 x)
    ∙ bind_assoc (p1 t x) (p1 s) (λ y. pruns b y) ∙ ap (bind_o (p1 t x)) (fun_ext (λ y. commute_one s b ps fr.3 y))
    ∙ sym (bind_assoc (p1 t x) (λ y. pruns b y) (p1 s))

abbrev pub Freed : List Step → List Step → Type 0
Freed [] b = Unit
Freed (s ∷ a) b = (pure1 s ≡ true) × Frees s b × Freed a b

pub commute : (a b : List Step) → Freed a b → (x : Item) → bind_o (pruns a x) (pruns b) ≡ bind_o (pruns b x) (pruns a)
unfolding pruns
commute [] b fr x = sym (bind_some (pruns b x))
commute (s ∷ a) b fr x =
    bind_assoc (p1 s x) (λ y. pruns a y) (pruns b) ∙ ap (bind_o (p1 s x)) (fun_ext (λ y. commute a b fr.2 y))
    ∙ sym (bind_assoc (p1 s x) (pruns b) (λ y. pruns a y))
    ∙ ap (λ (o : Option Item). bind_o o (λ y. pruns a y)) (commute_one s b fr.0 fr.1 x)
    ∙ bind_assoc (pruns b x) (p1 s) (λ y. pruns a y)

-- split: steps that drop nothing and touch no variable are a function of the item
abbrev pub total1 : Step → Bool
total1 (keep p lo hi) = false
total1 (add p lo) = true
total1 (copy p r) = true
total1 (count k p) = false
total1 (stamp k p) = false

unfoldable pub total : List Step → Bool
total [] = true
total (s ∷ ss) = total1 s && total ss

abbrev pub image1 : Step → Item → Item
image1 (keep p lo hi) x = x
image1 (add p lo) x = set x p (plus (get_or x p (pos 0)) lo)
image1 (copy p r) x = set x r (get_or x p (pos 0))
image1 (count k p) x = x
image1 (stamp k p) x = x

unfoldable pub image : List Step → Item → Item
image [] x = x
image (s ∷ ss) x = image ss (image1 s x)

one_total : (s : Step) (x : Item) (v : ℕ → ℤ) → total1 s ≡ true → one s x v ≡ (some (image1 s x), v)
unfolding one
one_total (keep p lo hi) x v h = never h
one_total (add p lo) x v h = refl
one_total (copy p r) x v h = refl
one_total (count k p) x v h = never h
one_total (stamp k p) x v h = never h

runs_total : (ss : List Step) (x : Item) (v : ℕ → ℤ) → total ss ≡ true → runs ss x v ≡ (some (image ss x), v)
unfolding runs total image
runs_total [] x v h = refl
runs_total (s ∷ ss) x v h =
    rw (one_total s x v (both (total1 s) (total ss) h).0) (runs_total ss (image1 s x) v (both (total1 s) (total ss) h).1)

pub lout_total : (ss : List Step) (v : ℕ → ℤ) (xs : List Item) → total ss ≡ true → lout ss v xs ≡ map (image ss) xs
unfolding lout
lout_total ss v [] h = refl
lout_total ss v (x ∷ xs) h = rw (runs_total ss x v h) (ap (λ (l : List Item). image ss x ∷ l) (lout_total ss v xs h))

pub total_names : (ss : List Step) (k : ℕ) → total ss ≡ true → names ss k ≡ false
unfolding total names
total_names [] k h = refl
total_names (s ∷ ss) k h = go s (both (total1 s) (total ss) h).0 (total_names ss k (both (total1 s) (total ss) h).1)
  where
    go : (s : Step) → total1 s ≡ true → names ss k ≡ false → (named s k || names ss k) ≡ false
    go (keep p lo hi) h ih = never h
    go (add p lo) h ih = ih
    go (copy p r) h ih = ih
    go (count k p) h ih = never h
    go (stamp k p) h ih = never h
