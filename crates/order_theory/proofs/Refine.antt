-- Each rewriting refines: from every solution of the old sheet one of the new, with the same inputs, outputs and old variables.
-- Assumes nothing.
use mathlib.Core.Path.{◌≡◌, refl, ap, sym, ◌∙◌, fun_ext}
use mathlib.Core.Bool.{Bool, true, false, ◌||◌, or_assoc}
use mathlib.Core.Logic.{◌⊎◌, inl, inr, ◌≢◌}
use mathlib.Core.List.{List, [], ◌∷◌, ◌++◌, map}
use Prim.Native.Nat.{ℕ, zero, suc, pred, ◌+◌, ◌≤◌, ◌<◌}
use native.Mathlib.Omega.{arith}
use native.Mathlib.Nat.{zero-add, suc-add}
use lib.Dec.{eqb, ltb}
use lib.IntN.{ℤ}
use borrow.Author.Tests.{eqb-false, ltb-true, ltb-false, eq-eqb, lt-ltb, ne_eqb}
use Rattle.base_lists.specs.Lists.{member}
use Rattle.base_lists.proofs.Tests.{or_first}
use Rattle.order_theory.proofs.Steps.{Item, Step, names, line_op}
use Rattle.order_theory.proofs.Deal.{deal_op, gather_op}
use Rattle.order_theory.proofs.Equations.{Kind, line, latest, double, deal, gather, Whole, ren, total, pure, pruns, bind_o, names_append, total_names}
use Rattle.order_theory.proofs.Equations.{pure_names}
use Rattle.order_theory.proofs.Denote.{denote, takes_from, latest_op, double_op}
use Rattle.order_theory.proofs.Sheets.{holds}
use Rattle.order_theory.proofs.Rewrites.{All, Keeps, down, up, fuse_all, fuse_read, read_by, read_append, harvest, harvest_down, swapped, reorder_all}
use Rattle.order_theory.proofs.Rewrites.{split_h}
use Rattle.order_theory.proofs.Rewrites.{split_u, Below, split_all, range, lines}
use Rattle.order_theory.proofs.Demand.{Refines, held_by, harvest_same}

pub held_append : (xs ys : List Kind) (q : ℕ) → held_by (xs ++ ys) q ≡ (held_by xs q || held_by ys q)
unfolding held_by
held_append [] ys q = refl
held_append (x ∷ xs) ys q = rw (held_append xs ys q) (sym (or_assoc (holds x q) (held_by xs q) (held_by ys q)))

pub holds_ren : (ρ : ℕ → ℕ) (κ : Kind) (k : ℕ) → holds (ren ρ κ) k ≡ holds κ k
unfolding ren denote line_op latest_op double_op deal_op gather_op
holds_ren ρ (line p o ss) k = refl
holds_ren ρ (latest p i f) k = refl
holds_ren ρ (double p o o') k = refl
holds_ren ρ (deal c p os) k = refl
holds_ren ρ (gather c o is) k = refl

held_ren : (ρ : ℕ → ℕ) (κs : List Kind) (k : ℕ) → held_by (map (ren ρ) κs) k ≡ held_by κs k
unfolding held_by
held_ren ρ [] k = refl
held_ren ρ (κ ∷ κs) k = rw (holds_ren ρ κ k, held_ren ρ κs k)

or_last : (a b c : Bool) → (a || (b || (c || true))) ≡ true
or_last true b c = refl
or_last false true c = refl
or_last false false true = refl
or_last false false false = refl

module _ (I Q V' p m o : ℕ) (a b : List Step) (pre mid post : List Kind) where
  pub fuse_refines : ((i : ℕ) → names a i ≡ true → names b i ≡ false) → ((i : ℕ) → names b i ≡ true → names a i ≡ false) → p ≢ m
      → o ≢ m → I ≤ m → m < Q
      → All (Keeps m) pre → All (Keeps m) mid → All (Keeps m) post
      → Refines I Q V' (pre ++ (line p m a ∷ (mid ++ (line m o b ∷ post)))) (pred Q)
      (map (ren (down m)) (pre ++ (line p o (a ++ b) ∷ (mid ++ post))))
  unfolding held_by denote line_op read_by takes_from
  fuse_refines ab ba np nq hi hm kpre kmid kpost = record {
    to = λ H u e. (
      (λ q. H (up m q)),
      u,
      fuse_all p m o a b pre mid post H u ab ba np nq kpre kmid kpost e,
      (λ q h. rw (lt-ltb q m (omega arith))),
      ap (λ (rd : ℕ → Bool). harvest rd (λ q. H (up m q)) (pred Q) 0) (fun_ext (fuse_read p m o a b pre mid post np nq kpre kmid kpost))
          ∙ harvest_down (read_by old) H m (pred Q) 0 m_read (omega arith) (omega arith) ∙ ap (λ (n : ℕ). harvest (read_by old) H n 0) q≡,
      (λ k h. refl),
    );
    named = λ k h. held_ren (down m) (pre ++ (line p o (a ++ b) ∷ (mid ++ post))) k ∙ same k;
  }
    where
      old : List Kind
      old = pre ++ (line p m a ∷ (mid ++ (line m o b ∷ post)))

      q≡ : suc (pred Q) ≡ Q
      q≡ = omega arith

      m_read : read_by old m ≡ true
      m_read =
          rw (read_append pre (line p m a ∷ (mid ++ (line m o b ∷ post))) m, read_append mid (line m o b ∷ post) m, eq-eqb m m refl)
          (or_last (read_by pre m) (eqb m p) (read_by mid m))

      same : (k : ℕ) → held_by (pre ++ (line p o (a ++ b) ∷ (mid ++ post))) k ≡ held_by old k
      same k =
          rw (
            held_append pre (line p o (a ++ b) ∷ (mid ++ post)) k,
            held_append mid post k,
            held_append pre
                (line p m a ∷ (mid ++ (line m o b ∷ post))) k,
            held_append mid (line m o b ∷ post) k,
            names_append a b k,
          )
          (ap (λ (x : Bool). held_by pre k || x) (or_assoc (names a k) (names b k) (held_by mid k || held_by post k)
          ∙ ap (λ (x : Bool). names a k || x) (or_first (names b k) (held_by mid k) (held_by post k))))

  pub reorder_refines : pure a ≡ true → pure b ≡ true → ((x : Item) → bind_o (pruns a x) (pruns b) ≡ bind_o (pruns b x) (pruns a))
      → p ≢ m → o ≢ m → I ≤ m
      → All (Keeps m) pre → All (Keeps m) mid → All (Keeps m) post
      → Refines I Q V' (pre ++ (line p m a ∷ (mid ++ (line m o b ∷ post)))) Q (pre ++ (line p m b ∷ (mid ++ (line m o a ∷ post))))
  unfolding held_by denote line_op read_by takes_from
  reorder_refines pa pb c np nq hi kpre kmid kpost = record {
    to = λ H u e. (
      swapped p m o a b pre mid post H u,
      u,
      reorder_all p m o a b pre mid post H u pa pb c np nq kpre kmid kpost e,
      (λ q h. rw (ne_eqb q m (λ e. omega arith))),
      ap (λ (rd : ℕ → Bool). harvest rd (swapped p m o a b pre mid post H u) Q 0) (fun_ext reads)
          ∙ harvest_same (read_by old) (swapped p m o a b pre mid post H u) H Q 0
          (λ q l h. rw (ne_eqb q m (λ e. clash (sym (m_read) ∙ ap (read_by old) (sym e) ∙ h)))),
      (λ k h. refl),
    );
    named = λ k h.
        rw (
          held_append pre new k,
          held_append pre old' k,
          held_append mid (line m o a ∷ post) k,
          held_append mid
              (line m o b ∷ post) k,
          pure_names a k pa,
          pure_names b k pb,
        );
  }
    where
      clash : {A : Type 0} → true ≡ false → A
      clash e = let z : ◌≡◌ {A = ℕ} 0 1 = cc in absurd (omega arith)

      old' : List Kind
      old' = line p m a ∷ (mid ++ (line m o b ∷ post))

      new : List Kind
      new = line p m b ∷ (mid ++ (line m o a ∷ post))

      old : List Kind
      old = pre ++ old'

      m_read : read_by old m ≡ true
      m_read =
          rw (read_append pre old' m, read_append mid (line m o b ∷ post) m, eq-eqb m m refl)
          (or_last (read_by pre m) (eqb m p) (read_by mid m))

      reads : (q : ℕ) → read_by (pre ++ new) q ≡ read_by old q
      reads q =
          rw (read_append pre new q, read_append pre old' q, read_append mid (line m o a ∷ post) q, read_append mid (line m o b ∷ post) q)

-- split
harvest_none : (rd : ℕ → Bool) (H : Whole) (n q : ℕ) → ((r : ℕ) → q ≤ r → r < q + n → rd r ≡ true) → harvest rd H n q ≡ []
unfolding harvest
harvest_none rd H zero q f = refl
harvest_none rd H (suc n) q f =
    rw (f q (omega arith) (omega arith)) (harvest_none rd H n (suc q) (λ r h l. f r (omega arith) (omega arith)))

harvest_add : (rd : ℕ → Bool) (H : Whole) (n j q : ℕ) → ((r : ℕ) → q + n ≤ r → r < q + n + j → rd r ≡ true)
    → harvest rd H (n + j) q ≡ harvest rd H n q
unfolding harvest
harvest_add rd H zero j q f = rw (zero-add j) (harvest_none rd H j q (λ r h l. f r (omega arith) (omega arith)))
harvest_add rd H (suc n) j q f = rw (suc-add n j) (rw (harvest_add rd H n j (suc q) (λ r h l. f r (omega arith) (omega arith))))

harvest_reads : (rd rd' : ℕ → Bool) (H H' : Whole) (n q : ℕ) → ((r : ℕ) → r < q + n → (rd r ≡ rd' r) × (H r ≡ H' r))
    → harvest rd H n q ≡ harvest rd' H' n q
unfolding harvest
harvest_reads rd rd' H H' zero q f = refl
harvest_reads rd rd' H H' (suc n) q f =
    let h = f q (omega arith) in rw (h.0, h.1, harvest_reads rd rd' H H' n (suc q) (λ r l. f r (omega arith)))

read_lines : (q r n : ℕ) (ss : List Step) (x : ℕ) → (x < q) ⊎ (q + n ≤ x) → read_by (lines q r n ss) x ≡ false
unfolding lines read_by takes_from
read_lines q r zero ss x h = refl
read_lines q r (suc n) ss x (inl h) = rw (ne_eqb x q (λ e. omega arith), read_lines (suc q) (suc r) n ss x (inl (omega arith)))
read_lines q r (suc n) ss x (inr h) = rw (ne_eqb x q (λ e. omega arith), read_lines (suc q) (suc r) n ss x (inr (omega arith)))

read_lines_in : (q r n : ℕ) (ss : List Step) (x : ℕ) → q ≤ x → x < q + n → read_by (lines q r n ss) x ≡ true
unfolding lines read_by takes_from
read_lines_in q r zero ss x h l = absurd (omega arith)
read_lines_in q r (suc n) ss x h l = go (eqb x q) refl (λ h. read_lines_in (suc q) (suc r) n ss x h (omega arith))
  where
    go : (b : Bool) → eqb x q ≡ b → (suc q ≤ x → read_by (lines (suc q) (suc r) n ss) x ≡ true)
        → (b || read_by (lines (suc q) (suc r) n ss) x) ≡ true
    go true e ih = refl
    go false e ih = let k : x ≢ q = eqb-false x q e in ih (omega arith)

range_out : (q n x : ℕ) → x < q → member x (range q n) ≡ false
unfolding range
range_out q zero x h = refl
range_out q (suc n) x h = rw (ne_eqb x q (λ e. omega arith), range_out (suc q) n x (omega arith))

range_in : (q n x : ℕ) → q ≤ x → x < q + n → member x (range q n) ≡ true
unfolding range
range_in q zero x h l = absurd (omega arith)
range_in q (suc n) x h l = go (eqb x q) refl (λ h. range_in (suc q) n x h (omega arith))
  where
    go : (b : Bool) → eqb x q ≡ b → (suc q ≤ x → member x (range (suc q) n) ≡ true) → (b || member x (range (suc q) n)) ≡ true
    go true e ih = refl
    go false e ih = let k : x ≢ q = eqb-false x q e in ih (omega arith)

held_lines : (q r n : ℕ) (ss : List Step) (k : ℕ) → total ss ≡ true → held_by (lines q r n ss) k ≡ false
unfolding lines held_by denote line_op
held_lines q r zero ss k t = refl
held_lines q r (suc n) ss k t = rw (total_names ss k t, held_lines (suc q) (suc r) n ss k t)

or_true₃ : (a b c : Bool) → (a || (b || (true || c))) ≡ true
or_true₃ true b c = refl
or_true₃ false true c = refl
or_true₃ false false c = refl

or_true₄ : (a b c d : Bool) → (a || (b || (c || (true || d)))) ≡ true
or_true₄ true b c d = refl
or_true₄ false true c d = refl
or_true₄ false false true d = refl
or_true₄ false false false d = refl

module _ (I Q V' p o k : ℕ) (ss : List Step) (pre post : List Kind) (Hx : Whole) (ux : ℕ → ℤ) where
  pub split_refines : 0 < k → total ss ≡ true → p < Q → o < Q → I ≤ Q
      → ((H : Whole) (u : ℕ → ℤ) → All (Below p o k Q V' ss pre post H u) pre × All (Below p o k Q V' ss pre post H u) post)
      → Refines I Q V' (pre ++ (line p o ss ∷ post)) (Q + (k + k))
      (pre ++ (deal V' p (range Q k) ∷ (lines Q (Q + k) k ss ++ (gather (suc V') o (range (Q + k) k) ∷ post))))
  unfolding held_by denote line_op deal_op gather_op read_by takes_from
  split_refines hk t hp ho hi below = record {
    to = λ H u e. (
      split_h p o k Q V' ss pre post H u,
      split_u p o k Q V' ss pre post H u,
      split_all p o k Q V' ss pre post H u hk t hp ho (below H u).0 (below H u).1 e,
      (λ q h. rw (lt-ltb q Q (omega arith))),
      harvest_add (read_by new) (split_h p o k Q V' ss pre post H u) Q (k + k) 0 (λ r h l. fresh_read r (omega arith) (omega arith))
          ∙ harvest_reads (read_by new) (read_by old) (split_h p o k Q V' ss pre post H u) H Q 0
          (λ r l. let h : r < Q = omega arith in (old_read r h, rw (lt-ltb r Q h))),
      (λ i h. rw (lt-ltb i V' h)),
    );
    named = λ i h. rw (
      held_append pre tail i,
      held_append pre (line p o ss ∷ post) i,
      held_append (lines Q (Q + k) k ss) (gather (suc V') o (range (Q + k) k) ∷ post) i,
      held_lines Q (Q + k) k ss i t,
      total_names ss i t,
      ne_eqb i V' (λ e. omega arith),
      ne_eqb i (suc V') (λ e. omega arith),
    );
  }
    where
      tail : List Kind
      tail = deal V' p (range Q k) ∷ (lines Q (Q + k) k ss ++ (gather (suc V') o (range (Q + k) k) ∷ post))

      new : List Kind
      new = pre ++ tail

      old : List Kind
      old = pre ++ (line p o ss ∷ post)

      shape : (q : ℕ) → read_by new q ≡ (read_by pre q ||
          (eqb q p || (read_by (lines Q (Q + k) k ss) q || (member q (range (Q + k) k) || read_by post q))))
      shape q = rw (read_append pre tail q, read_append (lines Q (Q + k) k ss) (gather (suc V') o (range (Q + k) k) ∷ post) q)

      old_read : (q : ℕ) → q < Q → read_by new q ≡ read_by old q
      old_read q h =
          shape q ∙ rw (read_lines Q (Q + k) k ss q (inl h), range_out (Q + k) k q (omega arith), read_append pre (line p o ss ∷ post) q)

      fresh_read : (q : ℕ) → Q ≤ q → q < Q + (k + k) → read_by new q ≡ true
      fresh_read q h l = shape q ∙ go (ltb q (Q + k)) refl
        where
          go : (b : Bool) → ltb q (Q + k) ≡ b
              → (read_by pre q || (eqb q p || (read_by (lines Q (Q + k) k ss) q || (member q (range (Q + k) k) || read_by post q)))) ≡ true
          go true e =
              rw (read_lines_in Q (Q + k) k ss q h (ltb-true q (Q + k) e))
              (or_true₃ (read_by pre q) (eqb q p) (member q (range (Q + k) k) || read_by post q))
          go false e =
              let m = ltb-false q (Q + k) e in
              rw (range_in (Q + k) k q m (omega arith))
              (or_true₄ (read_by pre q) (eqb q p) (read_by (lines Q (Q + k) k ss) q) (read_by post q))
