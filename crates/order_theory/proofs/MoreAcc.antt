-- Reordered and split sheets are accepted and calm.
-- Assumes nothing.
use mathlib.Core.Path.{◌≡◌, refl, ap, sym, ◌∙◌}
use mathlib.Core.Bool.{Bool, true, false}
use mathlib.Core.Logic.{◌≢◌}
use mathlib.Core.List.{List, [], ◌∷◌, ◌++◌}
use Prim.Native.Nat.{ℕ, zero, suc, ◌+◌, ◌≤◌, ◌<◌}
use native.Mathlib.Omega.{arith}
use lib.ListN.{get_or}
use lib.Dec.{eqb, ltb}
use lib.IntN.{pos}
use borrow.Author.Tests.{eqb-true, eqb-false, ltb-true, ltb-false, eq-eqb, le-ltb, ne_eqb}
use Rattle.base_lists.specs.Lists.{bit, times}
use Rattle.base_lists.proofs.Bits.{bit_one, one_bit}
use Rattle.order_theory.proofs.Steps.{Item, Step, names, line_op}
use Rattle.order_theory.proofs.Deal.{deal_op, gather_op}
use Rattle.order_theory.proofs.Equations.{Kind, line, latest, double, deal, gather, Queues, Variables, Ways, pure, pruns, bind_o, total, total_names}
use Rattle.order_theory.proofs.Denote.{denote, latest_op, double_op}
use Rattle.order_theory.proofs.Rewrites.{All, none_left, also, first, rest, all_join, all_left, all_right, range, lines, length_range}
use Rattle.order_theory.proofs.Accept.{tot, tot_append, gives_n, reads_n, holds_n, Ord, ord_on, times_at, ord_head, ord_rest, Acc, not_input}
use Rattle.order_theory.proofs.Demand.{Refines}
use Rattle.order_theory.proofs.Refine.{reorder_refines, split_refines}
use Rattle.order_theory.proofs.FuseAcc.{old, old_tot, ord_a, ord_b, ord_right, ord_swap, p≢m, o≢m, m_in, keeps_pre, keeps_mid, keeps_post}

module _ (I Q p m o : ℕ) (a b : List Step) (pre mid post : List Kind) (acc : Acc I Q (old I Q p m o a b pre mid post)) where
  abbrev pub turned : List Kind
  turned = pre ++ (line p m b ∷ (mid ++ (line m o a ∷ post)))

  pub reorder_ok : (V' : ℕ) → pure a ≡ true → pure b ≡ true → ((x : Item) → bind_o (pruns a x) (pruns b) ≡ bind_o (pruns b x) (pruns a))
      → Refines I Q V' (old I Q p m o a b pre mid post) Q turned
  reorder_ok V' pa pb c =
      reorder_refines I Q V' p m o a b pre mid post pa pb c (p≢m I Q p m o a b pre mid post acc) (o≢m I Q p m o a b pre mid post acc)
      (m_in I Q p m o a b pre mid post acc).0
      (keeps_pre I Q p m o a b pre mid post acc) (keeps_mid I Q p m o a b pre mid post acc) (keeps_post I Q p m o a b pre mid post acc)

  gives_same : (q : ℕ) → tot (gives_n q) turned ≡ tot (gives_n q) (old I Q p m o a b pre mid post)
  unfolding gives_n
  gives_same q = old_tot I Q p m o b a pre mid post (gives_n q) ∙ sym (old_tot I Q p m o a b pre mid post (gives_n q))

  reads_same : (q : ℕ) → tot (reads_n q) turned ≡ tot (reads_n q) (old I Q p m o a b pre mid post)
  unfolding reads_n
  reads_same q = old_tot I Q p m o b a pre mid post (reads_n q) ∙ sym (old_tot I Q p m o a b pre mid post (reads_n q))

  pub held_same : (k : ℕ) → tot (holds_n k) turned ≡ tot (holds_n k) (old I Q p m o a b pre mid post)
  unfolding denote line_op
  held_same k = omega (arith, old_tot I Q p m o b a pre mid post (holds_n k), old_tot I Q p m o a b pre mid post (holds_n k))

  pub reorder_acc : Acc I Q turned
  unfolding Ways gives_n reads_n tot
  reorder_acc = record {
    fit = acc.fit;
    defs = λ q h. rw (gives_same q) (acc.defs q h);
    defs_out = λ q h. gives_same q ∙ acc.defs_out q h;
    reads = λ q. rw (reads_same q) (acc.reads q);
    reads_out = λ q h. reads_same q ∙ acc.reads_out q h;
    calm = λ k. rw (held_same k) (acc.calm k);
    ways =
        let w = all_right pre (line p m a ∷ (mid ++ (line m o b ∷ post))) acc.ways in
        all_join (all_left pre (line p m a ∷ (mid ++ (line m o b ∷ post))) acc.ways)
        (also {x = line p m b} tt (all_join (all_left mid (line m o b ∷ post) (rest w))
        (also {x = line m o a} tt (rest (all_right mid (line m o b ∷ post) (rest w))))));
    ord =
        let oa = ord_a I Q p m o a b pre mid post acc in
        let ob = ord_b I Q p m o a b pre mid post acc in
        let same : (q : ℕ) → tot (gives_n q) (mid ++ (line m o a ∷ post)) ≡ tot (gives_n q)
        (mid ++ (line m o b ∷ post)) = λ q. tot_append (gives_n q) mid (line m o a ∷ post)
        ∙ sym (tot_append (gives_n q) mid (line m o b ∷ post)) in
        ord_swap pre (line p m a ∷ (mid ++ (line m o b ∷ post))) (line p m b ∷ (mid ++ (line m o a ∷ post)))
        (λ q. omega (arith, same q)) acc.ord
        (ord_on {κ = line p m b} {κs = mid ++ (line m o a ∷ post)} (λ q h. omega (arith, same q, ord_head oa q h))
        (ord_swap mid (line m o b ∷ post) (line m o a ∷ post) (λ q. omega arith) (ord_rest oa)
        (ord_on {κ = line m o a} {κs = post} (λ q h. ord_head ob q h) (ord_rest ob))));
  }

-- split: the new queues are counted by the ranges
range_below : (q n x : ℕ) → x < q → times x (range q n) ≡ 0
unfolding range
range_below q zero x h = refl
range_below q (suc n) x h = rw (ne_eqb x q (λ e. omega arith)) (omega (arith, range_below (suc q) n x (omega arith)))

range_past : (q n x : ℕ) → q + n ≤ x → times x (range q n) ≡ 0
unfolding range
range_past q zero x h = refl
range_past q (suc n) x h = rw (ne_eqb x q (λ e. omega arith)) (omega (arith, range_past (suc q) n x (omega arith)))

range_once : (q n x : ℕ) → q ≤ x → x < q + n → times x (range q n) ≡ 1
unfolding range
range_once q zero x h l = absurd (omega arith)
range_once q (suc n) x h l = go (eqb x q) refl (λ h. range_once (suc q) n x h (omega arith))
  where
    go : (b : Bool) → eqb x q ≡ b → (suc q ≤ x → times x (range (suc q) n) ≡ 1) → bit b + times x (range (suc q) n) ≡ 1
    go true e ih = let k = eqb-true x q e in rw (range_below (suc q) n x (omega arith))
    go false e ih = let k : x ≢ q = eqb-false x q e in omega (arith, ih (omega arith))

gives_lines : (q r n : ℕ) (ss : List Step) (x : ℕ) → tot (gives_n x) (lines q r n ss) ≡ times x (range r n)
unfolding lines range tot gives_n
gives_lines q r zero ss x = refl
gives_lines q r (suc n) ss x = ap (λ (k : ℕ). bit (eqb x r) + k) (gives_lines (suc q) (suc r) n ss x)

reads_lines : (q r n : ℕ) (ss : List Step) (x : ℕ) → tot (reads_n x) (lines q r n ss) ≡ times x (range q n)
unfolding lines range tot reads_n
reads_lines q r zero ss x = refl
reads_lines q r (suc n) ss x = ap (λ (k : ℕ). bit (eqb x q) + k) (reads_lines (suc q) (suc r) n ss x)

held_none : (q r n : ℕ) (ss : List Step) (k : ℕ) → total ss ≡ true → tot (holds_n k) (lines q r n ss) ≡ 0
unfolding lines tot denote line_op
held_none q r zero ss k t = refl
held_none q r (suc n) ss k t = rw (total_names ss k t) (omega (arith, held_none (suc q) (suc r) n ss k t))

ways_lines : (q r n : ℕ) (ss : List Step) → All Ways (lines q r n ss)
unfolding lines Ways
ways_lines q r zero ss = none_left
ways_lines q r (suc n) ss = also {x = line q r ss} tt (ways_lines (suc q) (suc r) n ss)

-- lines whose ins lie below their outs and below all that is defined after them
ord_lines : (q r n : ℕ) (ss : List Step) (tl : List Kind) → q + n ≤ r → ((x : ℕ) → q ≤ x → x < q + n → tot (gives_n x) tl ≡ 0) → Ord tl
    → Ord (lines q r n ss ++ tl)
unfolding lines reads_n gives_n
ord_lines q r zero ss tl h z o = o
ord_lines q r (suc n) ss tl h z o = ord_on {κ = line q r ss} {κs = lines (suc q) (suc r) n ss ++ tl}
    (λ x g. let e = eqb-true x q (one_bit (eqb x q) g) in let f : bit (eqb x r) ≡ 0 = rw (ne_eqb x r (λ k. omega arith)) in
    omega (
      arith,
      tot_append (gives_n x) (lines (suc q) (suc r) n ss) tl,
      gives_lines (suc q) (suc r) n ss x,
      range_below (suc r) n x
          (omega arith),
      z x (omega arith) (omega arith),
    ))
    (ord_lines (suc q) (suc r) n ss tl (omega arith) (λ x a b. z x (omega arith) (omega arith)) o)

-- a tail that defines no more of what is read before it
ord_swap' : (pre xs ys : List Kind) → ((q : ℕ) → 1 ≤ tot (reads_n q) pre → tot (gives_n q) ys ≤ tot (gives_n q) xs) → Ord (pre ++ xs)
    → Ord ys → Ord (pre ++ ys)
unfolding tot
ord_swap' [] xs ys l o o' = o'
ord_swap' (κ ∷ pre) xs ys l o o' = ord_on {κ = κ} {κs = pre ++ ys}
    (λ q h. let e = rw (tot_append (gives_n q) pre xs) at (ord_head o q h) in
    rw (tot_append (gives_n q) pre ys) (omega (arith, l q (omega arith))))
    (ord_swap' pre xs ys (λ q h. l q (omega arith)) (ord_rest o) o')

module _ (I Q V' p o k : ℕ) (ss : List Step) (pre post : List Kind) where
  abbrev pub whole : List Kind
  whole = pre ++ (line p o ss ∷ post)

  abbrev pub tail : List Kind
  tail = lines Q (Q + k) k ss ++ (gather (suc V') o (range (Q + k) k) ∷ post)

  abbrev pub split : List Kind
  split = pre ++ (deal V' p (range Q k) ∷ tail)

  pub whole_tot : (f : Kind → ℕ) → tot f whole ≡ tot f pre + (f (line p o ss) + tot f post)
  unfolding tot
  whole_tot f = tot_append f pre (line p o ss ∷ post)

  split_tot : (f : Kind → ℕ)
      → tot f split ≡ tot f pre + (f (deal V' p (range Q k)) +
      (tot f (lines Q (Q + k) k ss) + (f (gather (suc V') o (range (Q + k) k)) + tot f post)))
  unfolding tot
  split_tot f =
      tot_append f pre (deal V' p (range Q k) ∷ tail)
      ∙ ap (λ (n : ℕ). tot f pre + (f (deal V' p (range Q k)) + n))
      (tot_append f (lines Q (Q + k) k ss) (gather (suc V') o (range (Q + k) k) ∷ post))

  module _ (acc : Acc I Q whole) (hk : 0 < k) (t : total ss ≡ true) (hv : (i : ℕ) → V' ≤ i → tot (holds_n i) whole ≡ 0) where
    gives_more : (x : ℕ) → tot (gives_n x) split ≡ tot (gives_n x) whole + (times x (range Q k) + times x (range (Q + k) k))
    unfolding gives_n
    gives_more x = omega (arith, whole_tot (gives_n x), split_tot (gives_n x), gives_lines Q (Q + k) k ss x)

    reads_more : (x : ℕ) → tot (reads_n x) split ≡ tot (reads_n x) whole + (times x (range Q k) + times x (range (Q + k) k))
    unfolding reads_n
    reads_more x = omega (arith, whole_tot (reads_n x), split_tot (reads_n x), reads_lines Q (Q + k) k ss x)

    ranges : (x : ℕ) → Q ≤ x → x < Q + (k + k) → times x (range Q k) + times x (range (Q + k) k) ≡ 1
    ranges x h l = go (ltb x (Q + k)) refl
      where
        go : (b : Bool) → ltb x (Q + k) ≡ b → times x (range Q k) + times x (range (Q + k) k) ≡ 1
        go true e = let m = ltb-true x (Q + k) e in omega (arith, range_once Q k x h m, range_below (Q + k) k x m)
        go false e = let m = ltb-false x (Q + k) e in omega (arith, range_past Q k x m, range_once (Q + k) k x m (omega arith))

    ranges_low : (x : ℕ) → x < Q → times x (range Q k) + times x (range (Q + k) k) ≡ 0
    ranges_low x h = omega (arith, range_below Q k x h, range_below (Q + k) k x (omega arith))

    ranges_high : (x : ℕ) → Q + (k + k) ≤ x → times x (range Q k) + times x (range (Q + k) k) ≡ 0
    ranges_high x h = omega (arith, range_past Q k x (omega arith), range_past (Q + k) k x (omega arith))

    pub p_low : p < Q
    unfolding reads_n
    p_low = go (ltb p Q) refl
      where
        go : (b : Bool) → ltb p Q ≡ b → p < Q
        go true e = ltb-true p Q e
        go false e = absurd (omega (arith, acc.reads_out p (ltb-false p Q e), whole_tot (reads_n p), bit_one (eqb p p) (eq-eqb p p refl)))

    pub o_low : o < Q
    unfolding gives_n
    o_low = (not_input I Q whole acc o (omega (arith, whole_tot (gives_n o), bit_one (eqb o o) (eq-eqb o o refl)))).1

    gives_out : (x : ℕ) → Q ≤ x → (tot (gives_n x) pre ≡ 0) × (tot (gives_n x) post ≡ 0) × (gives_n x (line p o ss) ≡ 0)
    gives_out x h = (
      omega (arith, whole_tot (gives_n x), acc.defs_out x h),
      omega (arith, whole_tot (gives_n x), acc.defs_out x h),
      omega
          (arith, whole_tot (gives_n x), acc.defs_out x h),
    )

    ord_line : Ord (line p o ss ∷ post)
    ord_line = ord_right pre (line p o ss ∷ post) acc.ord

    low_read : (q : ℕ) → 1 ≤ tot (reads_n q) pre → q < Q
    low_read q h = go (ltb q Q) refl
      where
        go : (b : Bool) → ltb q Q ≡ b → q < Q
        go true e = ltb-true q Q e
        go false e = absurd (omega (arith, acc.reads_out q (ltb-false q Q e), whole_tot (reads_n q)))

    tail_gives : (x : ℕ) → tot (gives_n x) tail ≡ times x (range (Q + k) k) + (gives_n x (line p o ss) + tot (gives_n x) post)
    unfolding gives_n tot
    tail_gives x =
        omega (
          arith,
          tot_append (gives_n x) (lines Q (Q + k) k ss) (gather (suc V') o (range (Q + k) k) ∷ post),
          gives_lines Q
              (Q + k) k ss x,
        )

    ord_gather : Ord (gather (suc V') o (range (Q + k) k) ∷ post)
    unfolding reads_n gives_n
    ord_gather = ord_on {κ = gather (suc V') o (range (Q + k) k)} {κs = post} (λ x h. at x h (ltb x Q) refl) (ord_rest ord_line)
      where
        at : (x : ℕ) → 1 ≤ times x (range (Q + k) k) → (b : Bool) → ltb x Q ≡ b → bit (eqb x o) + tot (gives_n x) post ≡ 0
        at x h true e = absurd (omega (arith, range_below (Q + k) k x (omega (arith, ltb-true x Q e))))
        at x h false e = omega (arith, (gives_out x (ltb-false x Q e)).1, (gives_out x (ltb-false x Q e)).2)

    ord_split : Ord split
    unfolding reads_n gives_n tot
    ord_split =
        ord_swap' pre (line p o ss ∷ post) (deal V' p (range Q k) ∷ tail)
        (λ q h. omega (arith, tail_gives q, ranges_low q (low_read q h))) acc.ord
        (ord_on {κ = deal V' p (range Q k)} {κs = tail}
        (λ x h. let e = eqb-true x p (one_bit (eqb x p) h) in let l : x < Q = omega (arith, p_low) in
        omega (arith, tail_gives x, ranges_low x l, ord_head ord_line x h))
        (ord_lines Q (Q + k) k ss (gather (suc V') o (range (Q + k) k) ∷ post) (omega arith)
        (λ x h l. omega (arith, (gives_out x h).1, (gives_out x h).2)) ord_gather))

    pub held_more : (i : ℕ) → tot (holds_n i) split ≡ tot (holds_n i) whole + (bit (eqb i V') + bit (eqb i (suc V')))
    unfolding denote line_op deal_op gather_op
    held_more i =
        let z : bit (names ss i) ≡ 0 = rw (total_names ss i t) in
        omega (arith, whole_tot (holds_n i), split_tot (holds_n i), held_none Q (Q + k) k ss i t)

    -- the split sheet is accepted, and calm
    pub split_acc : Acc I (Q + (k + k)) split
    unfolding Ways
    split_acc = record {
      fit = omega (arith, acc.fit);
      defs = λ x h. defs x h (ltb x Q) refl;
      defs_out = λ x h. omega (arith, gives_more x, ranges_high x h, acc.defs_out x (omega arith));
      reads = λ x. reads x (ltb x Q) refl (ltb x (Q + (k + k))) refl;
      reads_out = λ x h. omega (arith, reads_more x, ranges_high x h, acc.reads_out x (omega arith));
      calm = λ i. calm i (eqb i V') refl (eqb i (suc V')) refl;
      ways =
          all_join (all_left pre (line p o ss ∷ post) acc.ways) (also {x = deal V' p (range Q k)} (rw (length_range Q k) hk)
          (all_join (ways_lines Q (Q + k) k ss) (also {x = gather (suc V') o (range (Q + k) k)} (rw (length_range (Q + k) k) hk)
          (rest (all_right pre (line p o ss ∷ post) acc.ways)))));
      ord = ord_split;
    }
      where
        defs : (x : ℕ) → x < Q + (k + k) → (b : Bool) → ltb x Q ≡ b → tot (gives_n x) split + bit (ltb x I) ≡ 1
        defs x h true e = let l = ltb-true x Q e in omega (arith, gives_more x, ranges_low x l, acc.defs x l)
        defs x h false e =
            let l = ltb-false x Q e in let z : bit (ltb x I) ≡ 0 = rw (le-ltb x I (omega (arith, acc.fit))) in
            omega (arith, gives_more x, ranges x l h, acc.defs_out x l)

        reads : (x : ℕ) (b : Bool) → ltb x Q ≡ b → (c : Bool) → ltb x (Q + (k + k)) ≡ c → tot (reads_n x) split ≤ 1
        reads x true e c e' = let l = ltb-true x Q e in omega (arith, reads_more x, ranges_low x l, acc.reads x)
        reads x false e true e' =
            let l = ltb-false x Q e in omega (arith, reads_more x, ranges x l (ltb-true x (Q + (k + k)) e'), acc.reads_out x l)
        reads x false e false e' = let l = ltb-false x (Q + (k + k)) e' in omega (arith, reads_more x, ranges_high x l, acc.reads x)

        calm : (i : ℕ) (b : Bool) → eqb i V' ≡ b → (c : Bool) → eqb i (suc V') ≡ c → tot (holds_n i) split ≤ 1
        calm i true e true e' = absurd (omega (arith, eqb-true i V' e, eqb-true i (suc V') e'))
        calm i true e false e' =
            let h : bit (eqb i V') + bit (eqb i (suc V')) ≡ 1 = rw (e, e') in
            omega (arith, held_more i, hv i (omega (arith, eqb-true i V' e)))
        calm i false e true e' =
            let h : bit (eqb i V') + bit (eqb i (suc V')) ≡ 1 = rw (e, e') in
            omega (arith, held_more i, hv i (omega (arith, eqb-true i (suc V') e')))
        calm i false e false e' = let h : bit (eqb i V') + bit (eqb i (suc V')) ≡ 0 = rw (e, e') in omega (arith, held_more i, acc.calm i)

-- what an operator names lies below what the sheet has
zero_lt : (Q a : ℕ) → ((x : ℕ) → Q ≤ x → bit (eqb x a) ≡ 0) → a < Q
zero_lt Q a h = go (ltb a Q) refl
  where
    go : (b : Bool) → ltb a Q ≡ b → a < Q
    go true e = ltb-true a Q e
    go false e = absurd (omega (arith, h a (ltb-false a Q e), bit_one (eqb a a) (eq-eqb a a refl)))

queue_low : (Q : ℕ) (κ : Kind) → ((x : ℕ) → Q ≤ x → reads_n x κ ≡ 0) → ((x : ℕ) → Q ≤ x → gives_n x κ ≡ 0) → Queues κ (λ r. r < Q)
unfolding reads_n gives_n Queues
queue_low Q (line p o ss) r g = (zero_lt Q p r, zero_lt Q o g)
queue_low Q (latest p k f) r g = zero_lt Q p r
queue_low Q (double p o o') r g = (zero_lt Q p r, zero_lt Q o (λ x h. omega (arith, g x h)), zero_lt Q o' (λ x h. omega (arith, g x h)))
queue_low Q (deal c p os) r g =
    (zero_lt Q p r, λ j h. zero_lt Q (get_or os j 0) (λ x l. omega (arith, g x l, times_at x os j h)))
queue_low Q (gather c o is) r g =
    (zero_lt Q o g, λ j h. zero_lt Q (get_or is j 0) (λ x l. omega (arith, r x l, times_at x is j h)))

var_low : (n : ℕ) (κ : Kind) → ((i : ℕ) → n ≤ i → holds_n i κ ≡ 0) → Variables κ (λ i. i < n)
unfolding Variables denote line_op latest_op double_op deal_op gather_op
var_low n (line p o ss) h = λ k e. go k e (ltb k n) refl
  where
    go : (k : ℕ) → names ss k ≡ true → (b : Bool) → ltb k n ≡ b → k < n
    go k e true l = ltb-true k n l
    go k e false l = absurd (omega (arith, h k (ltb-false k n l), bit_one (names ss k) e))
var_low n (latest p k f) h = zero_lt n k h
var_low n (double p o o') h = tt
var_low n (deal c p os) h = zero_lt n c h
var_low n (gather c o is) h = zero_lt n c h

all_low : (Q n : ℕ) (κs : List Kind) → All Ways κs → ((x : ℕ) → Q ≤ x → tot (reads_n x) κs ≡ 0)
    → ((x : ℕ) → Q ≤ x → tot (gives_n x) κs ≡ 0) → ((i : ℕ) → n ≤ i → tot (holds_n i) κs ≡ 0)
    → All (λ κ. Ways κ × Queues κ (λ r. r < Q) × Variables κ (λ i. i < n)) κs
unfolding tot
all_low Q n [] w r g h = none_left
all_low Q n (κ ∷ κs) w r g h = also {x = κ}
    (first w, queue_low Q κ (λ x l. omega (arith, r x l)) (λ x l. omega (arith, g x l)), var_low n κ (λ i l. omega (arith, h i l)))
    (all_low Q n κs (rest w) (λ x l. omega (arith, r x l)) (λ x l. omega (arith, g x l)) (λ i l. omega (arith, h i l)))

module _ (I Q V' p o k : ℕ) (ss : List Step) (pre post : List Kind) (acc : Acc I Q (whole I Q V' p o k ss pre post)) (hk : 0 < k)
    (t : total ss ≡ true)
    (hv : (i : ℕ) → V' ≤ i → tot (holds_n i) (whole I Q V' p o k ss pre post) ≡ 0) where
  pub split_ok : Refines I Q V' (whole I Q V' p o k ss pre post) (Q + (k + k)) (split I Q V' p o k ss pre post)
  split_ok =
      split_refines I Q V' p o k ss pre post (λ q. []) (λ i. pos 0) hk t (p_low I Q V' p o k ss pre post acc hk t hv)
      (o_low I Q V' p o k ss pre post acc hk t hv) acc.fit
      (λ H u. (below_pre, below_post))
    where
      parts : (f : Kind → ℕ) → tot f (whole I Q V' p o k ss pre post) ≡ 0 → (tot f pre ≡ 0) × (tot f post ≡ 0)
      parts f z = (omega (arith, whole_tot I Q V' p o k ss pre post f), omega (arith, whole_tot I Q V' p o k ss pre post f))

      below_pre : All (λ κ. Ways κ × Queues κ (λ r. r < Q) × Variables κ (λ i. i < V')) pre
      below_pre =
          all_low Q V' pre (all_left pre (line p o ss ∷ post) acc.ways) (λ x l. (parts (reads_n x) (acc.reads_out x l)).0)
          (λ x l. (parts (gives_n x) (acc.defs_out x l)).0) (λ i l. (parts (holds_n i) (hv i l)).0)

      below_post : All (λ κ. Ways κ × Queues κ (λ r. r < Q) × Variables κ (λ i. i < V')) post
      below_post =
          all_low Q V' post (rest (all_right pre (line p o ss ∷ post) acc.ways)) (λ x l. (parts (reads_n x) (acc.reads_out x l)).1)
          (λ x l. (parts (gives_n x) (acc.defs_out x l)).1) (λ i l. (parts (holds_n i) (hv i l)).1)
