-- Each kind as an operator; its equations are what it comes to once it can do no more.
-- Assumes nothing.
use mathlib.Core.Path.{◌≡◌, refl, ap, sym, ◌∙◌, subst}
use mathlib.Core.Bool.{Bool, true, false, ◌||◌}
use mathlib.Core.Option.{none}
use mathlib.Core.List.{List, [], ◌∷◌, ◌++◌, append-nil}
use Prim.Native.Nat.{ℕ, suc, ◌<◌}
use native.Mathlib.Omega.{arith}
use lib.ListN.{length, get_or}
use lib.Dec.{eqb}
use lib.IntN.{ℤ, pos}
use borrow.Author.Tests.{eqb-true, eq-eqb}
use Rattle.base_lists.specs.Lists.{member}
use Rattle.base_lists.proofs.Places.{get_d_any}
use Rattle.base_lists.proofs.Members.{member_at}
use Rattle.run_effect.specs.Effect.{nat_of}
use Rattle.order_theory.proofs.Model.{Op, Local}
use Rattle.order_theory.proofs.Trace.{mark, tv, tput, ttake, Fits, OpSol}
use Rattle.order_theory.proofs.Steps.{Item, Step, upd, lout, lvars, line_op, line_local, line_put, line_take, line_var}
use Rattle.order_theory.proofs.Deal.{share_of, turn, turn_lt, Once, deal_op, gather_op, deal_local, gather_local, deal_put, deal_take, deal_turn}
use Rattle.order_theory.proofs.Deal.{gather_put}
use Rattle.order_theory.proofs.Deal.{gather_take, gather_turn}
use Rattle.order_theory.proofs.Equations.{Kind, line, latest, double, deal, gather, nought, last_of, Whole, Eq}

unfoldable pub latest_op : ℕ → ℕ → ℕ → Op Item ℤ
latest_op p k f = record {
  outs = λ q. false;
  own = λ i. eqb i k;
  sel = λ v. p;
  puts = λ x v q. none;
  next = λ x v. upd k (get_or x f (pos 0)) v;
}

unfoldable pub double_op : ℕ → ℕ → ℕ → Op Item ℤ
double_op p o o' = record {
  outs = λ q. eqb q o || eqb q o';
  own = λ i. false;
  sel = λ v. p;
  puts = λ x v q. mark (eqb q o || eqb q o') x;
  next = λ x v. v;
}

unfoldable pub denote : Kind → Op Item ℤ
denote (line p o ss) = line_op p o ss
denote (latest p k f) = latest_op p k f
denote (double p o o') = double_op p o o'
denote (deal c p os) = deal_op c p os
denote (gather c o is) = gather_op c o is

pub kind_local : (κ : Kind) → Local Item ℤ (denote κ)
unfolding denote latest_op double_op
kind_local (line p o ss) = line_local p o ss
kind_local (latest p k f) = record {
  sel_local = λ v w h. refl;
  puts_local = λ x v w h q. refl;
  puts_out = λ x v q e. refl;
  next_local = λ x v w h i e. rw (h i e);
  next_frame = λ x v i e. rw e;
}
kind_local (double p o o') = record {
  sel_local = λ v w h. refl;
  puts_local = λ x v w h q. refl;
  puts_out = λ x v q e. rw e;
  next_local = λ x v w h i e. h i e;
  next_frame = λ x v i e. refl;
}
kind_local (deal c p os) = deal_local c p os
kind_local (gather c o is) = gather_local c o is

unfoldable pub takes_from : Kind → ℕ → Bool
takes_from (line p o ss) q = eqb q p
takes_from (latest p k f) q = eqb q p
takes_from (double p o o') q = eqb q p
takes_from (deal c p os) q = eqb q p
takes_from (gather c o is) q = member q is

unfoldable pub Good : Kind → Type 0
Good (line p o ss) = Unit
Good (latest p k f) = Unit
Good (double p o o') = Unit
Good (deal c p os) = (0 < length os) × Once os
Good (gather c o is) = (0 < length is) × Once is

latest_take : (p k f : ℕ) (v : ℕ → ℤ) (xs : List Item) → ttake (latest_op p k f) v p xs ≡ xs
unfolding latest_op ttake
latest_take p k f v [] = refl
latest_take p k f v (x ∷ xs) = rw (eq-eqb p p refl) (ap (λ (l : List Item). x ∷ l) (latest_take p k f (upd k (get_or x f (pos 0)) v) xs))

latest_var : (p k f : ℕ) (v : ℕ → ℤ) (xs : List Item) → tv (latest_op p k f) v xs k ≡ last_of (v k) f xs
unfolding latest_op tv last_of
latest_var p k f v [] = refl
latest_var p k f v (x ∷ xs) = latest_var p k f (upd k (get_or x f (pos 0)) v) xs ∙ rw (eq-eqb k k refl)

pub double_take : (p o o' : ℕ) (v : ℕ → ℤ) (xs : List Item) → ttake (double_op p o o') v p xs ≡ xs
unfolding double_op ttake
double_take p o o' v [] = refl
double_take p o o' v (x ∷ xs) = rw (eq-eqb p p refl) (ap (λ (l : List Item). x ∷ l) (double_take p o o' v xs))

pub double_put : (p o o' q : ℕ) (v : ℕ → ℤ) (xs : List Item) → (eqb q o || eqb q o') ≡ true → tput (double_op p o o') v q xs ≡ xs
unfolding double_op tput
double_put p o o' q v [] h = refl
double_put p o o' q v (x ∷ xs) h = rw h (ap (λ (l : List Item). x ∷ l) (double_put p o o' q v xs h))

or_same_left : (a b : ℕ) → (eqb a a || eqb a b) ≡ true
or_same_left a b = rw (eq-eqb a a refl)

or_same_right : (a b : ℕ) → (eqb b a || eqb b b) ≡ true
or_same_right a b = go (eqb b a)
  where
    go : (x : Bool) → (x || eqb b b) ≡ true
    go true = refl
    go false = eq-eqb b b refl

-- a way's queue, by its number
pub way_of : (qs : List ℕ) (q : ℕ) → member q qs ≡ true → (j : ℕ) × (j < length qs) × (get_or qs j 0 ≡ q)
way_of [] q h = let z : ◌≡◌ {A = ℕ} 0 1 = cc in absurd (omega arith)
way_of (r ∷ qs) q h = go (eqb q r) refl h (λ h. way_of qs q h)
  where
    go : (b : Bool) → eqb q r ≡ b → (b || member q qs) ≡ true → (member q qs ≡ true → (j : ℕ) × (j < length qs) × (get_or qs j 0 ≡ q))
        → (j : ℕ) × (j < suc (length qs)) × (get_or (r ∷ qs) j 0 ≡ q)
    go true e h ih = (0, omega arith, sym (eqb-true q r e))
    go false e h ih = let k = ih h in (suc k.0, omega (arith, k.1), k.2)

-- what an operator comes to is its equations
module _ (H : Whole) (u : ℕ → ℤ) (R : ℕ → Type 0) where
  line_eq : (p o : ℕ) (ss : List Step) → OpSol (line_op p o ss) R nought H u → Eq (line p o ss) H u
  unfolding Eq line_op
  line_eq p o ss s =
      let h : s.tr ≡ H p = sym (line_take p o ss nought s.tr) ∙ s.ends in (
        s.puts o (eq-eqb o o refl) ∙ line_put p o ss nought s.tr ∙ ap (lout ss nought) h,
        λ k e. s.vars k e ∙ ap (λ (f : ℕ → ℤ). f k) (line_var p o ss nought s.tr) ∙ ap (λ (l : List Item). lvars ss nought l k) h,
      )

  latest_eq : (p k f : ℕ) → OpSol (latest_op p k f) R nought H u → Eq (latest p k f) H u
  unfolding Eq latest_op
  latest_eq p k f s =
      s.vars k (eq-eqb k k refl) ∙ latest_var p k f nought s.tr
      ∙ ap (last_of (pos 0) f) (sym (latest_take p k f nought s.tr) ∙ s.ends)

  double_eq : (p o o' : ℕ) → OpSol (double_op p o o') R nought H u → Eq (double p o o') H u
  unfolding Eq double_op
  double_eq p o o' s =
      let h : s.tr ≡ H p = sym (double_take p o o' nought s.tr) ∙ s.ends in (
        s.puts o (or_same_left o o') ∙ double_put p o o' o nought s.tr (or_same_left o o') ∙ h,
        s.puts o' (or_same_right o o') ∙ double_put p o o' o' nought s.tr (or_same_right o o') ∙ h,
      )

  deal_eq : (c p : ℕ) (os : List ℕ) → 0 < length os → Once os → OpSol (deal_op c p os) R nought H u → Eq (deal c p os) H u
  unfolding Eq deal_op
  deal_eq c p os w o s =
      let h : s.tr ≡ H p = sym (deal_take c p os nought s.tr) ∙ s.ends in (
        (λ j hj. s.puts (get_or os j 0) (member_at os j hj) ∙ deal_put c p os o j hj 0 nought s.tr refl w ∙ ap (share_of (length os) j 0) h),
        s.vars c (eq-eqb c c refl) ∙ deal_turn c p os 0 nought s.tr refl ∙ ap (λ (l : List Item). pos (turn (length os) 0 l)) h,
      )

  gather_eq : (c o : ℕ) (is : List ℕ) → 0 < length is → Once is → ((p : ℕ) → member p is ≡ true → R p)
      → OpSol (gather_op c o is) R nought H u → Eq (gather c o is) H u
  unfolding Eq gather_op
  gather_eq c o is w d r s =
      let h : H o ≡ s.tr = s.puts o (eq-eqb o o refl) ∙ gather_put c o is nought s.tr in
      let t = turn (length is) 0 s.tr in
      let ht = turn_lt (length is) 0 s.tr w in
      let g : get_or is (nat_of (tv (gather_op c o is) nought s.tr c)) (get_or is 0 0) ≡ get_or is t 0 =
      rw (gather_turn c o is 0 nought s.tr refl) (get_d_any is t (get_or is 0 0) 0 ht) in
      rw h (
        (λ j hj. let k = s.takes (get_or is j 0) (r (get_or is j 0) (member_at is j hj)) in
            (k.0, ap (λ (l : List Item). l ++ k.0) (sym (gather_take c o is d j hj 0 nought s.tr refl w)) ∙ k.1)),
        sym (gather_take c o is d t ht 0 nought s.tr refl w)
            ∙ subst (λ (q : ℕ). ttake (gather_op c o is) nought q s.tr ≡ H q) g s.ends,
        s.vars c (eq-eqb c c refl) ∙ gather_turn c o is 0 nought s.tr refl,
      )

  pub sol_eq : (κ : Kind) → ((p : ℕ) → takes_from κ p ≡ true → R p) → Good κ → OpSol (denote κ) R nought H u → Eq κ H u
  unfolding denote takes_from Good
  sol_eq (line p o ss) r g s = line_eq p o ss s
  sol_eq (latest p k f) r g s = latest_eq p k f s
  sol_eq (double p o o') r g s = double_eq p o o' s
  sol_eq (deal c p os) r g s = deal_eq c p os g.0 g.1 s
  sol_eq (gather c o is) r g s = gather_eq c o is g.0 g.1 r s

-- and the other way: whatever satisfies an operator's equations is what it comes to
module _ (H : Whole) (u : ℕ → ℤ) (R : ℕ → Type 0) where
  -- an operator that takes from one queue takes all of it
  all_taken : (o : Op Item ℤ) (p : ℕ) → ((q : ℕ) → R q → eqb q p ≡ true) → ttake o nought p (H p) ≡ H p → Fits o R nought H (H p)
  all_taken o p r e q h =
      ([], subst (λ (k : ℕ). ttake o nought k (H p) ++ [] ≡ H k) (sym (eqb-true q p (r q h))) (append-nil (ttake o nought p (H p)) ∙ e))

  eq_line : (p o : ℕ) (ss : List Step) → ((q : ℕ) → R q → eqb q p ≡ true) → Eq (line p o ss) H u → OpSol (line_op p o ss) R nought H u
  unfolding Eq line_op
  eq_line p o ss r e = record {
    tr = H p;
    takes = all_taken (line_op p o ss) p r (line_take p o ss nought (H p));
    ends = line_take p o ss nought (H p);
    puts = λ q h.
        subst (λ (k : ℕ). H k ≡ tput (line_op p o ss) nought k (H p)) (sym (eqb-true q o h)) (e.0 ∙ sym (line_put p o ss nought (H p)));
    vars = λ k h. e.1 k h ∙ sym (ap (λ (f : ℕ → ℤ). f k) (line_var p o ss nought (H p)));
  }

  eq_latest : (p k f : ℕ) → ((q : ℕ) → R q → eqb q p ≡ true) → Eq (latest p k f) H u → OpSol (latest_op p k f) R nought H u
  unfolding Eq latest_op
  eq_latest p k f r e = record {
    tr = H p;
    takes = all_taken (latest_op p k f) p r (latest_take p k f nought (H p));
    ends = latest_take p k f nought (H p);
    puts = λ q h. let z : ◌≡◌ {A = ℕ} 0 1 = cc in absurd (omega arith);
    vars = λ i h.
        subst (λ (k' : ℕ). u k' ≡ tv (latest_op p k f) nought (H p) k') (sym (eqb-true i k h)) (e ∙ sym (latest_var p k f nought (H p)));
  }

  eq_double : (p o o' : ℕ) → ((q : ℕ) → R q → eqb q p ≡ true) → Eq (double p o o') H u → OpSol (double_op p o o') R nought H u
  unfolding Eq double_op
  eq_double p o o' r e = record {
    tr = H p;
    takes = all_taken (double_op p o o') p r (double_take p o o' nought (H p));
    ends = double_take p o o' nought (H p);
    puts = λ q h. go q (eqb q o) refl h ∙ sym (double_put p o o' q nought (H p) h);
    vars = λ i h. let z : ◌≡◌ {A = ℕ} 0 1 = cc in absurd (omega arith);
  }
    where
      go : (q : ℕ) (b : Bool) → eqb q o ≡ b → (b || eqb q o') ≡ true → H q ≡ H p
      go q true h t = rw (eqb-true q o h) e.0
      go q false h t = rw (eqb-true q o' t) e.1

  eq_deal : (c p : ℕ) (os : List ℕ) → 0 < length os → Once os → ((q : ℕ) → R q → eqb q p ≡ true) → Eq (deal c p os) H u
      → OpSol (deal_op c p os) R nought H u
  unfolding Eq deal_op
  eq_deal c p os w o r e = record {
    tr = H p;
    takes = all_taken (deal_op c p os) p r (deal_take c p os nought (H p));
    ends = deal_take c p os nought (H p);
    puts = λ q h.
        let j = way_of os q h in
        subst (λ (k : ℕ). H k ≡ tput (deal_op c p os) nought k (H p)) j.2
        (e.0 j.0 j.1 ∙ sym (deal_put c p os o j.0 j.1 0 nought (H p) refl w));
    vars = λ i h.
        subst (λ (k : ℕ). u k ≡ tv (deal_op c p os) nought (H p) k) (sym (eqb-true i c h))
        (e.1 ∙ sym (deal_turn c p os 0 nought (H p) refl));
  }

  eq_gather : (c o : ℕ) (is : List ℕ) → 0 < length is → Once is → ((q : ℕ) → R q → member q is ≡ true) → Eq (gather c o is) H u
      → OpSol (gather_op c o is) R nought H u
  unfolding Eq gather_op
  eq_gather c o is w d r e = record {
    tr = H o;
    takes = λ q h. let j = way_of is q (r q h) in let k = e.0 j.0 j.1 in
        subst (λ (q : ℕ). (x : List Item) × (ttake (gather_op c o is) nought q (H o) ++ x ≡ H q)) j.2
        (k.0, ap (λ (l : List Item). l ++ k.0) (gather_take c o is d j.0 j.1 0 nought (H o) refl w) ∙ k.1);
    ends =
        let t = turn (length is) 0 (H o) in
        let ht = turn_lt (length is) 0 (H o) w in
        let g : get_or is (nat_of (tv (gather_op c o is) nought (H o) c)) (get_or is 0 0) ≡ get_or is t 0 =
        rw (gather_turn c o is 0 nought (H o) refl) (get_d_any is t (get_or is 0 0) 0 ht) in
        subst (λ (q : ℕ). ttake (gather_op c o is) nought q (H o) ≡ H q) (sym g) (gather_take c o is d t ht 0 nought (H o) refl w ∙ e.1);
    puts = λ q h.
        subst (λ (k : ℕ). H k ≡ tput (gather_op c o is) nought k (H o)) (sym (eqb-true q o h)) (sym (gather_put c o is nought (H o)));
    vars = λ i h.
        subst (λ (k : ℕ). u k ≡ tv (gather_op c o is) nought (H o) k) (sym (eqb-true i c h))
        (e.2 ∙ sym (gather_turn c o is 0 nought (H o) refl));
  }

  pub eq_sol : (κ : Kind) → ((p : ℕ) → R p → takes_from κ p ≡ true) → Good κ → Eq κ H u → OpSol (denote κ) R nought H u
  unfolding denote takes_from Good
  eq_sol (line p o ss) r g e = eq_line p o ss r e
  eq_sol (latest p k f) r g e = eq_latest p k f r e
  eq_sol (double p o o') r g e = eq_double p o o' r e
  eq_sol (deal c p os) r g e = eq_deal c p os g.0 g.1 r e
  eq_sol (gather c o is) r g e = eq_gather c o is g.0 g.1 r e
