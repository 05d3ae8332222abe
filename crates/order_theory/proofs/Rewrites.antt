-- The rewritings on whole sheets: from a solution of the old sheet to one of the new, with the same outputs.
-- Assumes nothing.
use mathlib.Core.Path.{◌≡◌, refl, ap, sym, ◌∙◌, subst, subst₂}
use mathlib.Core.Bool.{Bool, true, false, cond, ◌||◌, or_assoc}
use mathlib.Core.Logic.{◌≢◌}
use mathlib.Core.List.{List, [], ◌∷◌, ◌++◌, map}
use Prim.Native.Nat.{ℕ, zero, suc, ◌+◌, ◌-◌, ◌≤◌, ◌<◌}
use native.Mathlib.Omega.{arith}
use lib.ListN.{length, get_or}
use lib.Dec.{eqb, ltb}
use lib.IntN.{ℤ, pos}
use borrow.Author.Tests.{eqb-true, eqb-false, ltb-true, ltb-false, lt-ltb, le-ltb, eq-eqb, ne_eqb}
use Rattle.base_lists.specs.Lists.{member}
use Rattle.order_theory.proofs.Steps.{Item, Step, names, lout}
use Rattle.order_theory.proofs.Deal.{share_of, turn}
use Rattle.order_theory.proofs.Equations.{Kind, line, latest, double, deal, gather, nought, Whole, Eq, Queues, Variables, Ways, ren, image, total, pure}
use Rattle.order_theory.proofs.Equations.{pruns}
use Rattle.order_theory.proofs.Equations.{bind_o}
use Rattle.order_theory.proofs.EquationLaws.{eq_ren, fuse_eq, reorder_eq, split_deal, split_line, split_gather}
use Rattle.order_theory.proofs.Denote.{takes_from}

-- a property of each member
pub data All {A : Type 0} (P : A → Type 0) : List A → Type 0 where
  none_left : All P []
  also : {x : A} {xs : List A} → P x → All P xs → All P (x ∷ xs)

module _ {A : Type 0} {P : A → Type 0} where
  pub first : {x : A} {xs : List A} → All P (x ∷ xs) → P x
  first (also p a) = p

  pub rest : {x : A} {xs : List A} → All P (x ∷ xs) → All P xs
  rest (also p a) = a

  pub all_join : {xs ys : List A} → All P xs → All P ys → All P (xs ++ ys)
  all_join none_left b = b
  all_join (also p a) b = also p (all_join a b)

  pub all_left : (xs ys : List A) → All P (xs ++ ys) → All P xs
  all_left [] ys a = none_left
  all_left (x ∷ xs) ys a = also (first a) (all_left xs ys (rest a))

  pub all_right : (xs ys : List A) → All P (xs ++ ys) → All P ys
  all_right [] ys a = a
  all_right (x ∷ xs) ys a = all_right xs ys (rest a)

  pub all_at : {xs : List A} → All P xs → (i : ℕ) (d : A) → i < length xs → P (get_or xs i d)
  all_at none_left i d h = absurd (omega arith)
  all_at (also p a) zero d h = p
  all_at (also p a) (suc i) d h = all_at a i d (omega arith)

  pub all_of : (xs : List A) (d : A) → ((i : ℕ) → i < length xs → P (get_or xs i d)) → All P xs
  all_of [] d f = none_left
  all_of (x ∷ xs) d f = also (f 0 (omega arith)) (all_of xs d (λ i h. f (suc i) (omega arith)))

  pub all_map : {B : Type 0} {Q : B → Type 0} (g : A → B) → ((x : A) → P x → Q (g x)) → {xs : List A} → All P xs → All Q (map g xs)
  all_map g f none_left = none_left
  all_map g f (also p a) = also (f _ p) (all_map g f a)

pub all_both : {A : Type 0} {P Q : A → Type 0} {xs : List A} → All P xs → All Q xs → All (λ x. P x × Q x) xs
all_both none_left b = none_left
all_both (also p a) b = also (p, first b) (all_both a (rest b))

-- queue m goes; higher numbers fall by one
abbrev pub down : ℕ → ℕ → ℕ
down m q = cond (ltb m q) (q - 1) q

abbrev pub up : ℕ → ℕ → ℕ
up m q = cond (ltb q m) q (suc q)

pub up_down : (m q : ℕ) → q ≢ m → up m (down m q) ≡ q
up_down m q n = go (ltb m q) refl
  where
    go : (b : Bool) → ltb m q ≡ b → up m (cond b (q - 1) q) ≡ q
    go true e = let l = ltb-true m q e in let z : suc (q - 1) ≡ q = omega arith in rw (le-ltb (q - 1) m (omega arith)) z
    go false e = let l = ltb-false m q e in rw (lt-ltb q m (omega arith))

abbrev pub Keeps : ℕ → Kind → Type 0
Keeps m κ = Ways κ × Queues κ (λ r. r ≢ m)

queues_map : (κ : Kind) (P Q : ℕ → Type 0) → ((r : ℕ) → P r → Q r) → Queues κ P → Queues κ Q
unfolding Queues
queues_map (line p o ss) P Q f q = (f p q.0, f o q.1)
queues_map (latest p k g) P Q f q = f p q
queues_map (double p o o') P Q f q = (f p q.0, f o q.1, f o' q.2)
queues_map (deal c p os) P Q f q = (f p q.0, λ j h. f (get_or os j 0) (q.1 j h))
queues_map (gather c o is) P Q f q = (f o q.0, λ j h. f (get_or is j 0) (q.1 j h))

vars_map : (κ : Kind) (P Q : ℕ → Type 0) → ((r : ℕ) → P r → Q r) → Variables κ P → Variables κ Q
unfolding Variables
vars_map (line p o ss) P Q f v = λ k h. f k (v k h)
vars_map (latest p k g) P Q f v = f k v
vars_map (double p o o') P Q f v = tt
vars_map (deal c p os) P Q f v = f c v
vars_map (gather c o is) P Q f v = f c v

vars_same : (κ : Kind) (u : ℕ → ℤ) → Variables κ (λ k. u k ≡ u k)
unfolding Variables
vars_same (line p o ss) u = λ k h. refl
vars_same (latest p k g) u = refl
vars_same (double p o o') u = tt
vars_same (deal c p os) u = refl
vars_same (gather c o is) u = refl

module _ (p m o : ℕ) (a b : List Step) (pre mid post : List Kind) (H : Whole) (u : ℕ → ℤ) where
  abbrev pub unfused : List Kind
  unfused = pre ++ (line p m a ∷ (mid ++ (line m o b ∷ post)))

  abbrev pub fused : List Kind
  fused = map (ren (down m)) (pre ++ (line p o (a ++ b) ∷ (mid ++ post)))

  pub fuse_all : ((i : ℕ) → names a i ≡ true → names b i ≡ false) → ((i : ℕ) → names b i ≡ true → names a i ≡ false) → p ≢ m → o ≢ m
      → All (Keeps m) pre → All (Keeps m) mid → All (Keeps m) post → All (λ κ. Eq κ H u) unfused → All (λ κ. Eq κ (λ q. H (up m q)) u) fused
  unfolding Ways Queues
  fuse_all ab ba np nq kpre kmid kpost e =
      let r₁ = all_right pre (line p m a ∷ (mid ++ (line m o b ∷ post))) e in
      let r₂ = all_right mid (line m o b ∷ post) (rest r₁) in
      let e₁ = all_both kpre (all_left pre (line p m a ∷ (mid ++ (line m o b ∷ post))) e) in
      let e₂ = all_both kmid (all_left mid (line m o b ∷ post) (rest r₁)) in
      let e₃ = all_both kpost (rest r₂) in
      let l : Keeps m (line p o (a ++ b)) × Eq (line p o (a ++ b)) H u =
      ((tt, (np, nq)), fuse_eq p m o a b H u ab ba (first r₁) (first r₂)) in
      all_map (ren (down m)) (λ κ h. eq_ren κ (down m) H (λ q. H (up m q)) u u h.0.0
      (queues_map κ (λ r. r ≢ m) (λ r. H (up m (down m r)) ≡ H r) (λ r n. ap H (up_down m r n)) h.0.1) (vars_same κ u) h.1)
      (all_join e₁ (also l (all_join e₂ e₃)))

-- which queues are read
unfoldable pub read_by : List Kind → ℕ → Bool
read_by [] q = false
read_by (κ ∷ κs) q = takes_from κ q || read_by κs q

pub read_append : (xs ys : List Kind) (q : ℕ) → read_by (xs ++ ys) q ≡ (read_by xs q || read_by ys q)
unfolding read_by
read_append [] ys q = refl
read_append (x ∷ xs) ys q = rw (read_append xs ys q) (sym (or_assoc (takes_from x q) (read_by xs q) (read_by ys q)))

down_up : (m q : ℕ) → down m (up m q) ≡ q
down_up m q = go (ltb q m) refl
  where
    go : (b : Bool) → ltb q m ≡ b → down m (cond b q (suc q)) ≡ q
    go true e = let l = ltb-true q m e in rw (le-ltb m q (omega arith))
    go false e = let l = ltb-false q m e in let z : suc q - 1 ≡ q = omega arith in rw (lt-ltb m (suc q) (omega arith)) z

pub up_ne : (m q : ℕ) → up m q ≢ m
up_ne m q = go (ltb q m) refl
  where
    go : (b : Bool) → ltb q m ≡ b → cond b q (suc q) ≢ m
    go true e h = omega (arith, ltb-true q m e)
    go false e h = omega (arith, ltb-false q m e)

eqb_iff : (a b c d : ℕ) → (a ≡ b → c ≡ d) → (c ≡ d → a ≡ b) → eqb a b ≡ eqb c d
eqb_iff a b c d f g = go (eqb a b) refl (eqb c d) refl
  where
    go : (x : Bool) → eqb a b ≡ x → (y : Bool) → eqb c d ≡ y → x ≡ y
    go true h true k = refl
    go true h false k = absurd (eqb-false c d k (f (eqb-true a b h)))
    go false h true k = absurd (eqb-false a b h (g (eqb-true c d k)))
    go false h false k = refl

pub eqb_down : (m p q : ℕ) → p ≢ m → eqb q (down m p) ≡ eqb (up m q) p
eqb_down m p q n = eqb_iff q (down m p) (up m q) p (λ e. ap (up m) e ∙ up_down m p n) (λ e. sym (down_up m q) ∙ ap (down m) e)

member_down : (m : ℕ) (is : List ℕ) (q : ℕ) → ((j : ℕ) → j < length is → get_or is j 0 ≢ m) → member q (map (down m) is) ≡ member (up m q) is
member_down m [] q n = refl
member_down m (i ∷ is) q n = rw (eqb_down m i q (n 0 (omega arith)), member_down m is q (λ j h. n (suc j) (omega arith)))

takes_down : (m : ℕ) (κ : Kind) (q : ℕ) → Keeps m κ → takes_from (ren (down m) κ) q ≡ takes_from κ (up m q)
unfolding takes_from ren Queues
takes_down m (line p o ss) q k = eqb_down m p q k.1.0
takes_down m (latest p i f) q k = eqb_down m p q k.1
takes_down m (double p o o') q k = eqb_down m p q k.1.0
takes_down m (deal c p os) q k = eqb_down m p q k.1.0
takes_down m (gather c o is) q k = member_down m is q k.1.1

read_down : (m : ℕ) {κs : List Kind} (q : ℕ) → All (Keeps m) κs → read_by (map (ren (down m)) κs) q ≡ read_by κs (up m q)
unfolding read_by
read_down m q none_left = refl
read_down m q (also {x = κ} k a) = rw (takes_down m κ q k, read_down m q a)

-- the contents of the queues that nothing reads, by number, n of them from q on
unfoldable pub harvest : (ℕ → Bool) → Whole → ℕ → ℕ → List (List Item)
harvest rd H zero q = []
harvest rd H (suc n) q = cond (rd q) (harvest rd H n (suc q)) (H q ∷ harvest rd H n (suc q))

harvest_past : (rd : ℕ → Bool) (H : Whole) (m n q : ℕ) → m ≤ q → harvest (λ q. rd (up m q)) (λ q. H (up m q)) n q ≡ harvest rd H n (suc q)
unfolding harvest
harvest_past rd H m zero q h = refl
harvest_past rd H m (suc n) q h = rw (le-ltb q m h, harvest_past rd H m n (suc q) (omega arith))

pub harvest_down : (rd : ℕ → Bool) (H : Whole) (m n q : ℕ) → rd m ≡ true → q ≤ m → m ≤ q + n
    → harvest (λ q. rd (up m q)) (λ q. H (up m q)) n q ≡ harvest rd H (suc n) q
unfolding harvest
harvest_down rd H m zero q r h l = let e : q ≡ m = omega arith in let z : rd q ≡ true = rw e r in rw z
harvest_down rd H m (suc n) q r h l = go (eqb q m) refl (λ h l. harvest_down rd H m n (suc q) r h l)
  where
    go : (b : Bool) → eqb q m ≡ b
        → (suc q ≤ m → m ≤ suc q + n → harvest (λ q. rd (up m q)) (λ q. H (up m q)) n (suc q) ≡ harvest rd H (suc n) (suc q))
        → harvest (λ q. rd (up m q)) (λ q. H (up m q)) (suc n) q ≡ harvest rd H (suc (suc n)) q
    go true e ih =
        let k = eqb-true q m e in
        let z : rd q ≡ true = rw k r in
        let y : harvest rd H (suc (suc n)) q ≡ harvest rd H (suc n) (suc q) = rw z in
        harvest_past rd H m (suc n) q (omega arith) ∙ sym y
    go false e ih =
        let k : q ≢ m = eqb-false q m e in
        rw (lt-ltb q m (omega arith), ih (omega arith) (omega arith))

-- fuse: the outputs hold the same, in number order
module _ (p m o : ℕ) (a b : List Step) (pre mid post : List Kind) where
  pub fuse_read : p ≢ m → o ≢ m → All (Keeps m) pre → All (Keeps m) mid → All (Keeps m) post
      → (q : ℕ) → read_by (map (ren (down m)) (pre ++ (line p o (a ++ b) ∷ (mid ++ post)))) q ≡ read_by
      (pre ++ (line p m a ∷ (mid ++ (line m o b ∷ post)))) (up m q)
  unfolding read_by takes_from Ways Queues
  fuse_read np nq kpre kmid kpost q =
      let l : Keeps m (line p o (a ++ b)) = (tt, (np, nq)) in
      read_down m q (all_join kpre (also l (all_join kmid kpost)))
      ∙ read_append pre (line p o (a ++ b) ∷ (mid ++ post)) (up m q)
      ∙ rw (
        read_append mid post (up m q),
        read_append pre (line p m a ∷ (mid ++ (line m o b ∷ post))) (up m q),
        read_append mid
            (line m o b ∷ post) (up m q),
        ne_eqb (up m q) m (up_ne m q),
      )

-- reorder and split keep the old queue numbers
map_id : (l : List ℕ) → map (λ q. q) l ≡ l
map_id [] = refl
map_id (x ∷ l) = ap (λ (t : List ℕ). x ∷ t) (map_id l)

ren_id : (κ : Kind) → ren (λ q. q) κ ≡ κ
unfolding ren
ren_id (line p o ss) = refl
ren_id (latest p k f) = refl
ren_id (double p o o') = refl
ren_id (deal c p os) = ap (deal c p) (map_id os)
ren_id (gather c o is) = ap (gather c o) (map_id is)

eq_frame : (κ : Kind) (H H' : Whole) (u u' : ℕ → ℤ) → Ways κ → Queues κ (λ r. H' r ≡ H r) → Variables κ (λ k. u' k ≡ u k) → Eq κ H u
    → Eq κ H' u'
eq_frame κ H H' u u' w q v e = subst (λ (k : Kind). Eq k H' u') (ren_id κ) (eq_ren κ (λ q. q) H H' u u' w q v e)

all_imp : {A : Type 0} {P Q : A → Type 0} → ((x : A) → P x → Q x) → {xs : List A} → All P xs → All Q xs
all_imp f none_left = none_left
all_imp f (also p a) = also (f _ p) (all_imp f a)

module _ (p m o : ℕ) (a b : List Step) (pre mid post : List Kind) (H : Whole) (u : ℕ → ℤ) where
  abbrev pub swapped : Whole
  swapped q = cond (eqb q m) (lout b nought (H p)) (H q)

  elsewhere : (q : ℕ) → q ≢ m → swapped q ≡ H q
  elsewhere q n = rw (ne_eqb q m n)

  pub reorder_all : pure a ≡ true → pure b ≡ true → ((x : Item) → bind_o (pruns a x) (pruns b) ≡ bind_o (pruns b x) (pruns a)) → p ≢ m → o ≢ m
      → All (Keeps m) pre → All (Keeps m) mid → All (Keeps m) post
      → All (λ κ. Eq κ H u) (pre ++ (line p m a ∷ (mid ++ (line m o b ∷ post))))
      → All (λ κ. Eq κ swapped u) (pre ++ (line p m b ∷ (mid ++ (line m o a ∷ post))))
  reorder_all pa pb c np nq kpre kmid kpost e =
      let r₁ = all_right pre (line p m a ∷ (mid ++ (line m o b ∷ post))) e in
      let r₂ = all_right mid (line m o b ∷ post) (rest r₁) in
      let e₁ = all_both kpre (all_left pre (line p m a ∷ (mid ++ (line m o b ∷ post))) e) in
      let e₂ = all_both kmid (all_left mid (line m o b ∷ post) (rest r₁)) in
      let e₃ = all_both kpost (rest r₂) in
      let z : swapped m ≡ lout b nought (H p) = rw (eq-eqb m m refl) in
      let l = reorder_eq p m o a b H swapped u pa pb c (elsewhere p np) (elsewhere o nq) z (first r₁) (first r₂) in
      all_join (old e₁) (also l.0 (all_join (old e₂) (also l.1 (old e₃))))
    where
      old : {κs : List Kind} → All (λ κ. Keeps m κ × Eq κ H u) κs → All (λ κ. Eq κ swapped u) κs
      old e =
          all_imp (λ κ h. eq_frame κ H swapped u u h.0.0
          (queues_map κ (λ r. r ≢ m) (λ r. swapped r ≡ H r) (λ r n. elsewhere r n) h.0.1) (vars_same κ u) h.1) e

-- split
unfoldable pub range : ℕ → ℕ → List ℕ
range q zero = []
range q (suc n) = q ∷ range (suc q) n

pub length_range : (q n : ℕ) → length (range q n) ≡ n
unfolding range
length_range q zero = refl
length_range q (suc n) = ap suc (length_range (suc q) n)

range_at : (q n j : ℕ) → j < n → get_or (range q n) j 0 ≡ q + j
unfolding range
range_at q zero j h = absurd (omega arith)
range_at q (suc n) zero h = omega arith
range_at q (suc n) (suc j) h = range_at (suc q) n j (omega arith) ∙ omega arith

unfoldable pub lines : ℕ → ℕ → ℕ → List Step → List Kind
lines q r zero ss = []
lines q r (suc n) ss = line q r ss ∷ lines (suc q) (suc r) n ss

all_lines : (P : Kind → Type 0) (q r n : ℕ) (ss : List Step) → ((j : ℕ) → j < n → P (line (q + j) (r + j) ss)) → All P (lines q r n ss)
unfolding lines
all_lines P q r zero ss f = none_left
all_lines P q r (suc n) ss f =
    let z : (k : ℕ) → k + 0 ≡ k = λ k. omega arith in
    let t : (k j : ℕ) → k + suc j ≡ suc k + j = λ k j. omega arith in
    also (subst₂ (λ (x y : ℕ). P (line x y ss)) (z q) (z r) (f 0 (omega arith)))
    (all_lines P (suc q) (suc r) n ss (λ j h. subst₂ (λ (x y : ℕ). P (line x y ss)) (t q j) (t r j) (f (suc j) (omega arith))))

module _ (p o k : ℕ) (Q V' : ℕ) (ss : List Step) (pre post : List Kind) (H : Whole) (u : ℕ → ℤ) where
  abbrev pub dealing : ℕ → List Item
  dealing j = share_of k j 0 (H p)

  abbrev pub split_h : Whole
  split_h q = cond (ltb q Q) (H q) (cond (ltb q (Q + k)) (dealing (q - Q)) (map (image ss) (dealing (q - (Q + k)))))

  abbrev pub split_u : ℕ → ℤ
  split_u i = cond (ltb i V') (u i) (pos (turn k 0 (H p)))

  abbrev pub splitted : List Kind
  splitted = pre ++ (deal V' p (range Q k) ∷ (lines Q (Q + k) k ss ++ (gather (suc V') o (range (Q + k) k) ∷ post)))

  low : (q : ℕ) → q < Q → split_h q ≡ H q
  low q h = rw (lt-ltb q Q h)

  middle : (j : ℕ) → j < k → split_h (Q + j) ≡ dealing j
  middle j h = let e : Q + j - Q ≡ j = omega arith in rw (le-ltb (Q + j) Q (omega arith), lt-ltb (Q + j) (Q + k) (omega arith), e)

  high : (j : ℕ) → j < k → split_h (Q + k + j) ≡ map (image ss) (dealing j)
  high j h =
      let e : Q + k + j - (Q + k) ≡ j = omega arith in rw (le-ltb (Q + k + j) Q (omega arith), le-ltb (Q + k + j) (Q + k) (omega arith), e)

  abbrev pub Below : Kind → Type 0
  Below κ = Ways κ × Queues κ (λ r. r < Q) × Variables κ (λ i. i < V')

  pub split_all : 0 < k → total ss ≡ true → p < Q → o < Q → All Below pre → All Below post
      → All (λ κ. Eq κ H u) (pre ++ (line p o ss ∷ post)) → All (λ κ. Eq κ split_h split_u) splitted
  split_all hk t lp lo bpre bpost e =
      let r = all_right pre (line p o ss ∷ post) e in
      let l = first r in
      all_join (old (all_both bpre (all_left pre (line p o ss ∷ post) e)))
      (also (split_deal p o V' (suc V') os is ss H split_h u split_u t same hp ho hd hm hw uc ud l)
      (all_join (all_lines (λ κ. Eq κ split_h split_u) Q (Q + k) k ss (λ j h.
      subst₂ (λ (x y : ℕ). Eq (line x y ss) split_h split_u) (range_at Q k j h) (range_at (Q + k) k j h)
      (split_line p o V' (suc V') os is ss H split_h u split_u t same hp ho hd hm hw uc ud l j (rw n h))))
      (also (split_gather p o V' (suc V') os is ss H split_h u split_u t same hp ho hd hm hw uc ud l)
      (old (all_both bpost (rest r))))))
    where
      os : List ℕ
      os = range Q k

      is : List ℕ
      is = range (Q + k) k

      n : length os ≡ k
      n = length_range Q k

      same : length is ≡ length os
      same = length_range (Q + k) k ∙ sym n

      hw : 0 < length os
      hw = rw n hk

      hp : split_h p ≡ H p
      hp = low p lp

      ho : split_h o ≡ H o
      ho = low o lo

      hd : (j : ℕ) → j < length os → split_h (get_or os j 0) ≡ share_of (length os) j 0 (H p)
      hd j h = let l : j < k = rw n at h in ap split_h (range_at Q k j l) ∙ middle j l ∙ ap (λ (n : ℕ). share_of n j 0 (H p)) (sym n)

      hm : (j : ℕ) → j < length os → split_h (get_or is j 0) ≡ map (image ss) (share_of (length os) j 0 (H p))
      hm j h =
          let l : j < k = rw n at h in ap split_h (range_at (Q + k) k j l) ∙ high j l
          ∙ ap (λ (n : ℕ). map (image ss) (share_of n j 0 (H p))) (sym n)

      turned : (i : ℕ) → V' ≤ i → split_u i ≡ pos (turn (length os) 0 (H p))
      turned i h = rw (le-ltb i V' h) (ap (λ (n : ℕ). pos (turn n 0 (H p))) (sym n))

      uc : split_u V' ≡ pos (turn (length os) 0 (H p))
      uc = turned V' (omega arith)

      ud : split_u (suc V') ≡ pos (turn (length os) 0 (H p))
      ud = turned (suc V') (omega arith)

      old : {κs : List Kind} → All (λ κ. Below κ × Eq κ H u) κs → All (λ κ. Eq κ split_h split_u) κs
      old e =
          all_imp (λ κ h. eq_frame κ H split_h u split_u h.0.0
          (queues_map κ (λ r. r < Q) (λ r. split_h r ≡ H r) (λ r l. low r l) h.0.1)
          (vars_map κ (λ i. i < V') (λ i. split_u i ≡ u i) (λ i l. rw (lt-ltb i V' l)) h.0.2) h.1) e
