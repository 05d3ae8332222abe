-- A sheet as a list of kinds: its queues' readers and definers, and the sheet that the theory sees.
-- Assumes nothing.
use mathlib.Core.Path.{◌≡◌, refl, ap, sym, ◌∙◌, subst}
use mathlib.Core.Bool.{Bool, true, false}
use mathlib.Core.Option.{Option, some, none}
use mathlib.Core.List.{List, [], ◌∷◌, map}
use Prim.Native.Nat.{ℕ, zero, suc, ◌≤◌, ◌<◌}
use native.Mathlib.Omega.{arith}
use lib.ListN.{length, length-map, get_or, get_or-map, get_or-eq_default}
use lib.Dec.{eqb, ltb}
use lib.IntN.{ℤ}
use borrow.Author.Tests.{eqb-false, ltb-true, ltb-false, eq-eqb}
use Rattle.base_lists.specs.Lists.{member}
use Rattle.base_lists.proofs.Places.{get_d_any}
use Rattle.base_lists.proofs.Members.{member_at}
use Rattle.run_effect.specs.Effect.{nat_of}
use Rattle.order_theory.proofs.Model.{Op, Local}
use Rattle.order_theory.proofs.Trace.{OpSol}
use Rattle.order_theory.proofs.Steps.{Item, line_op}
use Rattle.order_theory.proofs.Kahn.{Sheet, Sol}
use Rattle.order_theory.proofs.Deal.{deal_op, gather_op}
use Rattle.order_theory.proofs.Equations.{Kind, line, latest, double, deal, gather, nought, Whole, Eq}
use Rattle.order_theory.proofs.Denote.{denote, kind_local, takes_from, Good, sol_eq, eq_sol, latest_op, double_op}

abbrev pub found : Bool → Option ℕ → Option ℕ
found true o = some 0
found false none = none
found false (some i) = some (suc i)

-- the first that passes a test
module _ {A : Type 0} (f : A → Bool) where
  unfoldable pub find : List A → Option ℕ
  find [] = none
  find (x ∷ xs) = found (f x) (find xs)

  pub find_some : (l : List A) (i : ℕ) (d : A) → find l ≡ some i → (i < length l) × (f (get_or l i d) ≡ true)
  unfolding find
  find_some [] i d e = let z : ◌≡◌ {A = ℕ} 0 1 = cc in absurd (omega arith)
  find_some (x ∷ xs) i d e = go (f x) refl (find xs) refl e (λ j e. find_some xs j d e)
    where
      go : (b : Bool) → f x ≡ b → (o : Option ℕ) → find xs ≡ o → found b o ≡ some i
          → ((j : ℕ) → find xs ≡ some j → (j < length xs) × (f (get_or xs j d) ≡ true))
          → (i < suc (length xs)) × (f (get_or (x ∷ xs) i d) ≡ true)
      go true h o ho e ih = let k : 0 ≡ i = cc in rw (← k) (omega arith, h)
      go false h none ho e ih = let z : ◌≡◌ {A = ℕ} 0 1 = cc in absurd (omega arith)
      go false h (some j) ho e ih = let k : suc j ≡ i = cc in let r = ih j ho in rw (← k) (omega (arith, r.0), r.1)

  pub find_none : (l : List A) (i : ℕ) (d : A) → find l ≡ none → i < length l → f (get_or l i d) ≡ false
  unfolding find
  find_none [] i d e h = absurd (omega arith)
  find_none (x ∷ xs) i d e h = go (f x) refl (find xs) refl e i h (λ j e h. find_none xs j d e h)
    where
      go : (b : Bool) → f x ≡ b → (o : Option ℕ) → find xs ≡ o → found b o ≡ none → (i : ℕ) → i < suc (length xs)
          → ((j : ℕ) → find xs ≡ none → j < length xs → f (get_or xs j d) ≡ false)
          → f (get_or (x ∷ xs) i d) ≡ false
      go true hb o ho e i h ih = let z : ◌≡◌ {A = ℕ} 0 1 = cc in absurd (omega arith)
      go false hb (some j) ho e i h ih = let z : ◌≡◌ {A = ℕ} 0 1 = cc in absurd (omega arith)
      go false hb none ho e zero h ih = hb
      go false hb none ho e (suc i) h ih = ih i ho (omega arith)

  pub find_hit : (l : List A) (i : ℕ) (d : A) → i < length l → f (get_or l i d) ≡ true
      → ((j : ℕ) → j < length l → f (get_or l j d) ≡ true → j ≡ i) → find l ≡ some i
  find_hit l i d h t u = go (find l) refl
    where
      go : (o : Option ℕ) → find l ≡ o → o ≡ some i
      go none e = let z = find_none l i d e h in let y : ◌≡◌ {A = ℕ} 0 1 = cc in absurd (omega arith)
      go (some j) e = let r = find_some l j d e in ap {B = Option ℕ} some (u j r.0 r.1)

abbrev pub blank : Kind
blank = latest 0 0 0

pub empty_op : Op Item ℤ
empty_op = record { outs = λ q. false; own = λ k. false; sel = λ v. 0; puts = λ x v q. none; next = λ x v. v }

pub empty_local : Local Item ℤ empty_op
unfolding empty_op
empty_local = record {
  sel_local = λ v w h. refl;
  puts_local = λ x v w h q. refl;
  puts_out = λ x v q e. refl;
  next_local = λ x v w h i e. h i e;
  next_frame = λ x v i e. refl;
}

abbrev pub gives : Kind → ℕ → Bool
gives κ q = (denote κ).outs q

abbrev pub holds : Kind → ℕ → Bool
holds κ k = (denote κ).own k

-- what an accepted, calm sheet has
pub record Accepted (I Q : ℕ) (ops : List Kind) : Type 0 where
  pub def_once : (i j q : ℕ) → i < length ops → j < length ops → gives (get_or ops i blank) q ≡ true → gives (get_or ops j blank) q ≡ true
      → i ≡ j
  pub read_once : (i j q : ℕ) → i < length ops → j < length ops → takes_from (get_or ops i blank) q ≡ true
      → takes_from (get_or ops j blank) q ≡ true → i ≡ j
  pub apart : (i j k : ℕ) → i < length ops → j < length ops → holds (get_or ops i blank) k ≡ true → holds (get_or ops j blank) k ≡ true → i ≡ j
  pub order : (i j q : ℕ) → i < length ops → j < length ops → takes_from (get_or ops i blank) q ≡ true → gives (get_or ops j blank) q ≡ true
      → j < i
  pub good : (i : ℕ) → i < length ops → Good (get_or ops i blank)
  pub low : (i q : ℕ) → i < length ops → takes_from (get_or ops i blank) q ≡ true → q < Q
  pub fit : I ≤ Q
  pub defined : (q : ℕ) → q < Q → find (λ κ. gives κ q) ops ≡ none → q < I
  pub inputs : (i q : ℕ) → i < length ops → gives (get_or ops i blank) q ≡ true → I ≤ q

abbrev pub op_at : List Kind → ℕ → Op Item ℤ
op_at ops i = get_or (map denote ops) i empty_op

pub op_at_lem : (ops : List Kind) (i : ℕ) → i < length ops → op_at ops i ≡ denote (get_or ops i blank)
op_at_lem ops i h = get_d_any (map denote ops) i empty_op (denote blank) (rw (length-map ops denote) h) ∙ get_or-map denote ops i blank

pub op_past : (ops : List Kind) (i : ℕ) → length ops ≤ i → op_at ops i ≡ empty_op
op_past ops i h = get_or-eq_default (map denote ops) empty_op (rw (length-map ops denote) h)

pub inside : (ops : List Kind) (i : ℕ) (f : Op Item ℤ → Bool) → f empty_op ≡ false → f (op_at ops i) ≡ true
    → (i < length ops) × (f (denote (get_or ops i blank)) ≡ true)
inside ops i f z h = go (ltb i (length ops)) refl
  where
    go : (b : Bool) → ltb i (length ops) ≡ b → (i < length ops) × (f (denote (get_or ops i blank)) ≡ true)
    go true e = let l = ltb-true i (length ops) e in (l, sym (ap f (op_at_lem ops i l)) ∙ h)
    go false e =
        let o = ap f (op_past ops i (ltb-false i (length ops) e)) in
        let y : true ≡ false = sym h ∙ o ∙ z in
        let n : ◌≡◌ {A = ℕ} 0 1 = cc in absurd (omega arith)

pub empty_outs : (q : ℕ) → empty_op.outs q ≡ false
unfolding empty_op
empty_outs q = refl

pub empty_own : (k : ℕ) → empty_op.own k ≡ false
unfolding empty_op
empty_own k = refl

pub sel_takes : (κ : Kind) → Good κ → (v : ℕ → ℤ) → takes_from κ ((denote κ).sel v) ≡ true
unfolding takes_from Good denote line_op latest_op double_op deal_op gather_op
sel_takes (line p o ss) g v = eq-eqb p p refl
sel_takes (latest p k f) g v = eq-eqb p p refl
sel_takes (double p o o') g v = eq-eqb p p refl
sel_takes (deal c p os) g v = eq-eqb p p refl
sel_takes (gather c o is) g v = go (ltb (nat_of (v c)) (length is)) refl
  where
    go : (b : Bool) → ltb (nat_of (v c)) (length is) ≡ b → member (get_or is (nat_of (v c)) (get_or is 0 0)) is ≡ true
    go true e =
        let l = ltb-true (nat_of (v c)) (length is) e in rw (get_d_any is (nat_of (v c)) (get_or is 0 0) 0 l) (member_at is (nat_of (v c)) l)
    go false e = rw (get_or-eq_default is (get_or is 0 0) (ltb-false (nat_of (v c)) (length is) e)) (member_at is 0 g.0)

module _ (I Q : ℕ) (ops : List Kind) (acc : Accepted I Q ops) where
  abbrev pub reader_of : ℕ → Option ℕ
  reader_of q = find (λ κ. takes_from κ q) ops

  abbrev pub definer_of : ℕ → Option ℕ
  definer_of q = find (λ κ. gives κ q) ops

  unfoldable pub sheet_of : Sheet Item ℤ
  sheet_of = record {
    reader = reader_of;
    definer = definer_of;
    op = op_at ops;
    loc = λ i. loc i (ltb i (length ops)) refl;
    calm = λ i j e k h. calm i j e k h ((op_at ops j).own k) refl;
    outs_def = λ i q h.
        let r = inside ops i (λ o. o.outs q) (empty_outs q) h in
        find_hit (λ κ. gives κ q) ops i blank r.0 r.1 (λ j hj t. acc.def_once j i q hj r.0 t r.1);
    def_outs = λ q i e. let r = find_some (λ κ. gives κ q) ops i blank e in ap (λ (o : Op Item ℤ). o.outs q) (op_at_lem ops i r.0) ∙ r.1;
    width = Q;
    read_lt = λ p i e. let r = find_some (λ κ. takes_from κ p) ops i blank e in acc.low i p r.0 r.1;
    size = length ops;
    def_lt = λ q i e. (find_some (λ κ. gives κ q) ops i blank e).0;
    own_lt = λ i k h. (inside ops i (λ o. o.own k) (empty_own k) h).0;
    sel_in = λ i hi v. rw (op_at_lem ops i hi) (hit i hi ((denote (get_or ops i blank)).sel v) (sel_takes (get_or ops i blank) (acc.good i hi) v));
    earlier = λ p i j hr hd.
        let r = find_some (λ κ. takes_from κ p) ops i blank hr in let d = find_some (λ κ. gives κ p) ops j blank hd in
        acc.order i j p r.0 d.0 r.1 d.1;
  }
    where
      loc : (i : ℕ) (b : Bool) → ltb i (length ops) ≡ b → Local Item ℤ (op_at ops i)
      loc i true e = rw (op_at_lem ops i (ltb-true i (length ops) e)) (kind_local (get_or ops i blank))
      loc i false e = rw (op_past ops i (ltb-false i (length ops) e)) empty_local

      calm : (i j : ℕ) → eqb i j ≡ false → (k : ℕ) → (op_at ops i).own k ≡ true → (b : Bool) → (op_at ops j).own k ≡ b → b ≡ false
      calm i j e k h true h' =
          let r = inside ops i (λ o. o.own k) (empty_own k) h in
          let r' = inside ops j (λ o. o.own k) (empty_own k) h' in
          absurd (eqb-false i j e (acc.apart i j k r.0 r'.0 r.1 r'.1))
      calm i j e k h false h' = refl

      hit : (i : ℕ) → i < length ops → (p : ℕ) → takes_from (get_or ops i blank) p ≡ true → find (λ κ. takes_from κ p) ops ≡ some i
      hit i hi p t = find_hit (λ κ. takes_from κ p) ops i blank hi t (λ j hj t'. acc.read_once j i p hj hi t' t)

  pub hit : (i : ℕ) → i < length ops → (p : ℕ) → takes_from (get_or ops i blank) p ≡ true → find (λ κ. takes_from κ p) ops ≡ some i
  hit i hi p t = find_hit (λ κ. takes_from κ p) ops i blank hi t (λ j hj t'. acc.read_once j i p hj hi t' t)

  -- a solution of the sheet is a solution of its operators' equations
  module _ (feed : Whole) (H : Whole) (u : ℕ → ℤ) where
    pub eqs : Sol sheet_of feed nought H u → (i : ℕ) → i < length ops → Eq (get_or ops i blank) H u
    unfolding sheet_of
    eqs s i h = sol_eq H u (λ p. find (λ κ. takes_from κ p) ops ≡ some i) (get_or ops i blank) (λ p t. hit i h p t) (acc.good i h)
        (subst (λ (o : Op Item ℤ). OpSol o (λ p. find (λ κ. takes_from κ p) ops ≡ some i) nought H u) (op_at_lem ops i h) (s.each i h))

    pub solves : ((q : ℕ) → q < Q → find (λ κ. gives κ q) ops ≡ none → H q ≡ feed q)
        → ((i : ℕ) → i < length ops → Eq (get_or ops i blank) H u) → Sol sheet_of feed nought H u
    unfolding sheet_of
    solves f e = record {
      fixed = f;
      each = λ i h. subst (λ (o : Op Item ℤ). OpSol o (λ p. find (λ κ. takes_from κ p) ops ≡ some i) nought H u) (sym (op_at_lem ops i h))
          (eq_sol H u (λ p. find (λ κ. takes_from κ p) ops ≡ some i) (get_or ops i blank)
          (λ p r. (find_some (λ κ. takes_from κ p) ops i blank r).1) (acc.good i h) (e i h));
    }
