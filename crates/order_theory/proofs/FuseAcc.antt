-- A fused sheet is accepted and calm, and what fuse needs follows from the old sheet's acceptance.
-- Assumes nothing.
use mathlib.Core.Path.{◌≡◌, refl, ap, sym, ◌∙◌}
use mathlib.Core.Bool.{Bool, true, false, cond}
use mathlib.Core.Logic.{◌≢◌}
use mathlib.Core.List.{List, [], ◌∷◌, ◌++◌, map}
use Prim.Native.Nat.{ℕ, suc, pred, ◌+◌, ◌≤◌, ◌<◌}
use native.Mathlib.Omega.{arith}
use lib.ListN.{length, get_or, length-map}
use lib.Dec.{eqb, ltb}
use borrow.Author.Tests.{ltb-false, eq-eqb, le-ltb, ne_eqb}
use Rattle.base_lists.specs.Lists.{bit, times}
use Rattle.base_lists.proofs.Bits.{bit_or, bit_one}
use Rattle.order_theory.proofs.Steps.{Step, names, line_op}
use Rattle.order_theory.proofs.Equations.{Kind, line, latest, double, deal, gather, Queues, Ways, ren, names_append}
use Rattle.order_theory.proofs.Denote.{denote}
use Rattle.order_theory.proofs.Rewrites.{All, none_left, also, first, rest, all_join, all_left, all_right, all_map, Keeps, down, up, up_ne, eqb_down}
use Rattle.order_theory.proofs.Accept.{tot, tot_append, gives_n, reads_n, holds_n, Ord, ord_end, ord_on, times_at, ord_head, ord_rest, Acc, not_input}
use Rattle.order_theory.proofs.Demand.{Refines}
use Rattle.order_theory.proofs.Refine.{fuse_refines, holds_ren}

pub all_zero : {A : Type 0} (f : A → ℕ) (xs : List A) → tot f xs ≡ 0 → All (λ x. f x ≡ 0) xs
unfolding tot
all_zero f [] h = none_left
all_zero f (x ∷ xs) h = also {x = x} (omega arith) (all_zero f xs (omega arith))

pub bit_zero : (a b : ℕ) → bit (eqb a b) ≡ 0 → b ≢ a
bit_zero a b h e = let z : eqb a b ≡ true = eq-eqb a b (sym e) in omega (arith, bit_one (eqb a b) z)

queue_free : (m : ℕ) (κ : Kind) → reads_n m κ ≡ 0 → gives_n m κ ≡ 0 → Queues κ (λ r. r ≢ m)
unfolding reads_n gives_n Queues
queue_free m (line p o ss) r g = (bit_zero m p r, bit_zero m o g)
queue_free m (latest p k f) r g = bit_zero m p r
queue_free m (double p o o') r g = (bit_zero m p r, bit_zero m o (omega arith), bit_zero m o' (omega arith))
queue_free m (deal c p os) r g = (bit_zero m p r, λ j h. bit_zero m (get_or os j 0) (omega (arith, times_at m os j h)))
queue_free m (gather c o is) r g = (bit_zero m o g, λ j h. bit_zero m (get_or is j 0) (omega (arith, times_at m is j h)))

keeps_of : (m : ℕ) {κs : List Kind} → All Ways κs → All (λ κ. reads_n m κ ≡ 0) κs → All (λ κ. gives_n m κ ≡ 0) κs → All (Keeps m) κs
keeps_of m none_left r g = none_left
keeps_of m (also {x = κ} w a) r g = also (w, queue_free m κ (first r) (first g)) (keeps_of m a (rest r) (rest g))

-- counts of renamed operators
times_down : (m : ℕ) (l : List ℕ) (q : ℕ) → ((j : ℕ) → j < length l → get_or l j 0 ≢ m) → times q (map (down m) l) ≡ times (up m q) l
times_down m [] q n = refl
times_down m (r ∷ l) q n = rw (eqb_down m r q (n 0 (omega arith)), times_down m l q (λ j h. n (suc j) (omega arith)))

gives_down : (m q : ℕ) (κ : Kind) → Keeps m κ → gives_n q (ren (down m) κ) ≡ gives_n (up m q) κ
unfolding gives_n ren Queues
gives_down m q (line p o ss) k = ap bit (eqb_down m o q k.1.1)
gives_down m q (latest p i f) k = refl
gives_down m q (double p o o') k = rw (eqb_down m o q k.1.1, eqb_down m o' q k.1.2)
gives_down m q (deal c p os) k = times_down m os q k.1.1
gives_down m q (gather c o is) k = ap bit (eqb_down m o q k.1.0)

reads_down : (m q : ℕ) (κ : Kind) → Keeps m κ → reads_n q (ren (down m) κ) ≡ reads_n (up m q) κ
unfolding reads_n ren Queues
reads_down m q (line p o ss) k = ap bit (eqb_down m p q k.1.0)
reads_down m q (latest p i f) k = ap bit (eqb_down m p q k.1)
reads_down m q (double p o o') k = ap bit (eqb_down m p q k.1.0)
reads_down m q (deal c p os) k = ap bit (eqb_down m p q k.1.0)
reads_down m q (gather c o is) k = times_down m is q k.1.1

tot_ren : (m : ℕ) (f g : Kind → ℕ) → ((κ : Kind) → Keeps m κ → f (ren (down m) κ) ≡ g κ) → {κs : List Kind} → All (Keeps m) κs
    → tot f (map (ren (down m)) κs) ≡ tot g κs
unfolding tot
tot_ren m f g h none_left = refl
tot_ren m f g h (also {x = κ} k a) = rw (h κ k, tot_ren m f g h a)

ways_ren : (m : ℕ) (κ : Kind) → Ways κ → Ways (ren (down m) κ)
unfolding Ways ren
ways_ren m (line p o ss) w = tt
ways_ren m (latest p k f) w = tt
ways_ren m (double p o o') w = tt
ways_ren m (deal c p os) w = rw (length-map os (down m)) w
ways_ren m (gather c o is) w = rw (length-map is (down m)) w

ord_ren : (m : ℕ) {κs : List Kind} → All (Keeps m) κs → Ord κs → Ord (map (ren (down m)) κs)
ord_ren m none_left o = ord_end
ord_ren m (also {x = κ} {xs = κs} k a) o = ord_on {κ = ren (down m) κ} {κs = map (ren (down m)) κs}
    (λ q h. rw (gives_down m q κ k, tot_ren m (gives_n q) (gives_n (up m q)) (λ κ k. gives_down m q κ k) a)
    (ord_head o (up m q) (rw (reads_down m q κ k) at h)))
    (ord_ren m a (ord_rest o))

pub ord_right : (xs ys : List Kind) → Ord (xs ++ ys) → Ord ys
ord_right [] ys o = o
ord_right (x ∷ xs) ys o = ord_right xs ys (ord_rest o)

-- a tail that defines no more
pub ord_swap : (pre xs ys : List Kind) → ((q : ℕ) → tot (gives_n q) ys ≤ tot (gives_n q) xs) → Ord (pre ++ xs) → Ord ys → Ord (pre ++ ys)
ord_swap [] xs ys l o o' = o'
ord_swap (κ ∷ pre) xs ys l o o' = ord_on {κ = κ} {κs = pre ++ ys}
    (λ q h. let e = rw (tot_append (gives_n q) pre xs) at (ord_head o q h) in rw (tot_append (gives_n q) pre ys) (omega (arith, l q)))
    (ord_swap pre xs ys l (ord_rest o) o')

module _ (I Q p m o : ℕ) (a b : List Step) (pre mid post : List Kind) where
  abbrev pub old : List Kind
  old = pre ++ (line p m a ∷ (mid ++ (line m o b ∷ post)))

  abbrev pub bare : List Kind
  bare = pre ++ (line p o (a ++ b) ∷ (mid ++ post))

  abbrev pub new : List Kind
  new = map (ren (down m)) bare

  -- the sums of the two, taken apart
  pub old_tot : (f : Kind → ℕ) → tot f old ≡ tot f pre + (f (line p m a) + (tot f mid + (f (line m o b) + tot f post)))
  unfolding tot
  old_tot f =
      tot_append f pre (line p m a ∷ (mid ++ (line m o b ∷ post)))
      ∙ ap (λ (n : ℕ). tot f pre + (f (line p m a) + n)) (tot_append f mid (line m o b ∷ post))

  bare_tot : (f : Kind → ℕ) → tot f bare ≡ tot f pre + (f (line p o (a ++ b)) + (tot f mid + tot f post))
  unfolding tot
  bare_tot f =
      tot_append f pre (line p o (a ++ b) ∷ (mid ++ post)) ∙ ap (λ (n : ℕ). tot f pre + (f (line p o (a ++ b)) + n)) (tot_append f mid post)

  module _ (acc : Acc I Q old) where
    pub ord_a : Ord (line p m a ∷ (mid ++ (line m o b ∷ post)))
    ord_a = ord_right pre (line p m a ∷ (mid ++ (line m o b ∷ post))) acc.ord

    pub ord_b : Ord (line m o b ∷ post)
    ord_b = ord_right mid (line m o b ∷ post) (ord_rest ord_a)

    reads_here : (q : ℕ) (r : ℕ) (ss : List Step) → 1 ≤ reads_n q (line q r ss)
    unfolding reads_n
    reads_here q r ss = bit_one (eqb q q) (eq-eqb q q refl)

    pub p≢m : p ≢ m
    unfolding gives_n
    p≢m e = bit_zero p m (omega (arith, ord_head ord_a p (reads_here p m a))) (sym e)

    pub o≢m : o ≢ m
    unfolding gives_n
    o≢m = bit_zero m o (omega (arith, ord_head ord_b m (reads_here m o b)))

    gives_m : 1 ≤ gives_n m (line p m a)
    unfolding gives_n
    gives_m = bit_one (eqb m m) (eq-eqb m m refl)

    pub m_in : (I ≤ m) × (m < Q)
    m_in = not_input I Q old acc m (omega (arith, old_tot (gives_n m), gives_m))

    reads_le : tot (reads_n m) pre + (reads_n m (line p m a) + (tot (reads_n m) mid + (reads_n m (line m o b) + tot (reads_n m) post))) ≤ 1
    reads_le = omega (arith, old_tot (reads_n m), acc.reads m)

    gives_le : tot (gives_n m) pre + (gives_n m (line p m a) + (tot (gives_n m) mid + (gives_n m (line m o b) + tot (gives_n m) post))) ≤ 1
    gives_le = omega (arith, old_tot (gives_n m), acc.defs m m_in.1)

    ways_a : All Ways (line p m a ∷ (mid ++ (line m o b ∷ post)))
    ways_a = all_right pre (line p m a ∷ (mid ++ (line m o b ∷ post))) acc.ways

    ways_b : All Ways (line m o b ∷ post)
    ways_b = all_right mid (line m o b ∷ post) (rest ways_a)

    pub keeps_pre : All (Keeps m) pre
    keeps_pre = keeps_of m (all_left pre (line p m a ∷ (mid ++ (line m o b ∷ post))) acc.ways)
        (all_zero (reads_n m) pre (omega (arith, reads_le, reads_here m o b))) (all_zero (gives_n m) pre (omega (arith, gives_le, gives_m)))

    pub keeps_mid : All (Keeps m) mid
    keeps_mid = keeps_of m (all_left mid (line m o b ∷ post) (rest ways_a))
        (all_zero (reads_n m) mid (omega (arith, reads_le, reads_here m o b))) (all_zero (gives_n m) mid (omega (arith, gives_le, gives_m)))

    pub keeps_post : All (Keeps m) post
    keeps_post = keeps_of m (rest ways_b)
        (all_zero (reads_n m) post (omega (arith, reads_le, reads_here m o b))) (all_zero (gives_n m) post (omega (arith, gives_le, gives_m)))

    both_held : (k : ℕ) → bit (names a k) + bit (names b k) ≤ 1
    unfolding denote line_op
    both_held k = omega (arith, old_tot (holds_n k), acc.calm k)

    apart : (x y : Bool) → bit x + bit y ≤ 1 → x ≡ true → y ≡ false
    apart true true h e = absurd (omega arith)
    apart true false h e = refl
    apart false y h e = let z : ◌≡◌ {A = ℕ} 0 1 = cc in absurd (omega arith)

    -- fuse refines, from acceptance alone
    pub fuse_ok : (V' : ℕ) → Refines I Q V' old (pred Q) new
    fuse_ok V' =
        fuse_refines I Q V' p m o a b pre mid post (λ k e. apart (names a k) (names b k) (both_held k) e)
        (λ k e. apart (names b k) (names a k) (omega (arith, both_held k)) e)
        p≢m o≢m m_in.0 m_in.1 keeps_pre keeps_mid keeps_post

    keeps_bare : All (Keeps m) bare
    unfolding Ways Queues
    keeps_bare = all_join keeps_pre (also {x = line p o (a ++ b)} (tt, (p≢m, o≢m)) (all_join keeps_mid keeps_post))

    -- away from m the counts are the old ones
    gives_new : (q : ℕ) → tot (gives_n q) new ≡ tot (gives_n (up m q)) old
    unfolding gives_n
    gives_new q =
        let z : bit (eqb (up m q) m) ≡ 0 = rw (ne_eqb (up m q) m (up_ne m q)) in
        tot_ren m (gives_n q) (gives_n (up m q)) (λ κ k. gives_down m q κ k) keeps_bare
        ∙ omega (arith, old_tot (gives_n (up m q)), bare_tot (gives_n (up m q)))

    reads_new : (q : ℕ) → tot (reads_n q) new ≡ tot (reads_n (up m q)) old
    unfolding reads_n
    reads_new q =
        let z : bit (eqb (up m q) m) ≡ 0 = rw (ne_eqb (up m q) m (up_ne m q)) in
        tot_ren m (reads_n q) (reads_n (up m q)) (λ κ k. reads_down m q κ k) keeps_bare
        ∙ omega (arith, old_tot (reads_n (up m q)), bare_tot (reads_n (up m q)))

    pub held_new : (k : ℕ) → tot (holds_n k) new ≤ tot (holds_n k) old
    unfolding denote line_op
    held_new k =
        let e = tot_ren m (holds_n k) (holds_n k) (λ κ h. ap bit (holds_ren (down m) κ k)) keeps_bare in
        let f : bit (names (a ++ b) k) ≤ bit (names a k) + bit (names b k) = rw (names_append a b k) (bit_or (names a k) (names b k)) in
        omega (arith, old_tot (holds_n k), bare_tot (holds_n k))

    ord_bare : Ord bare
    unfolding gives_n reads_n tot
    ord_bare =
        ord_swap pre (line p m a ∷ (mid ++ (line m o b ∷ post))) (line p o (a ++ b) ∷ (mid ++ post))
        (λ q. omega (arith, tot_append (gives_n q) mid post, tot_append (gives_n q) mid (line m o b ∷ post))) acc.ord
        (ord_on {κ = line p o (a ++ b)} {κs = mid ++ post}
        (λ q h. omega (arith, tot_append (gives_n q) mid post, tot_append (gives_n q) mid (line m o b ∷ post), ord_head ord_a q h))
        (ord_swap mid (line m o b ∷ post) post (λ q. omega arith) (ord_rest ord_a) (ord_rest ord_b)))

    up_lt : (q : ℕ) → q < pred Q → up m q < Q
    up_lt q h = go (ltb q m)
      where
        go : (x : Bool) → cond x q (suc q) < Q
        go true = omega arith
        go false = omega arith

    up_ge : (q : ℕ) → pred Q ≤ q → Q ≤ up m q
    up_ge q h = let z : ltb q m ≡ false = le-ltb q m (omega (arith, m_in.1)) in rw z (omega (arith, m_in.1))

    up_input : (q : ℕ) → ltb (up m q) I ≡ ltb q I
    up_input q = go (ltb q m) refl
      where
        go : (x : Bool) → ltb q m ≡ x → ltb (cond x q (suc q)) I ≡ ltb q I
        go true e = refl
        go false e = let l = ltb-false q m e in le-ltb (suc q) I (omega (arith, m_in.0)) ∙ sym (le-ltb q I (omega (arith, m_in.0)))

    -- the fused sheet is accepted, and calm
    pub fuse_acc : Acc I (pred Q) new
    fuse_acc = record {
      fit = omega (arith, m_in.0, m_in.1);
      defs = λ q h. rw (gives_new q, ← (up_input q)) (acc.defs (up m q) (up_lt q h));
      defs_out = λ q h. gives_new q ∙ acc.defs_out (up m q) (up_ge q h);
      reads = λ q. rw (reads_new q) (acc.reads (up m q));
      reads_out = λ q h. reads_new q ∙ acc.reads_out (up m q) (up_ge q h);
      calm = λ k. omega (arith, held_new k, acc.calm k);
      ways = all_map (ren (down m)) (λ κ k. ways_ren m κ k.0) keeps_bare;
      ord = ord_ren m keeps_bare ord_bare;
    }
