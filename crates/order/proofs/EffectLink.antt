-- What an operator does with the item that it takes is what the theory's operator of its kind does, and it waits where that one does.
-- Assumes nothing.
use mathlib.Core.Path.{◌≡◌, refl, sym, ap, ◌∙◌}
use mathlib.Core.Option.{Option, none}
use mathlib.Core.Bool.{Bool, true, false, cond, not, ◌||◌, or-false}
use mathlib.Core.List.{List, [], ◌∷◌}
use mathlib.Core.Logic.{◌≢◌}
use Prim.Native.Nat.{ℕ, suc, ◌+◌, ◌%◌, ◌<◌}
use native.Mathlib.Nat.{mod_self, mod-eq_of_lt}
use native.Mathlib.Numerals.{add-one}
use native.Mathlib.Omega.{arith}
use lib.Dec.{eqb, ltb}
use lib.ListN.{length, get_or}
use lib.IntN.{ℤ, pos}
use borrow.Author.Tests.{eq-eqb, eqb-true, eqb-false, ltb-true}
use Rattle.base_lists.specs.Lists.{member}
use Rattle.base_lists.proofs.Tests.{both}
use Rattle.base_lists.proofs.Places.{get_d_any}
use Rattle.base_lists.proofs.Members.{member_at}
use Rattle.sheet_operator.specs.Op.{Op, line, latest, double, deal, gather, reads, names}
use Rattle.run_store.specs.declared.Item.{Item}
use Rattle.run_effect.specs.declared.Flow.{Flow}
use Rattle.run_effect.specs.Flow.{lined}
use Rattle.run_effect.specs.Effect.{nat_of, cursor_at, moved_on, effect, waits, in_ways, cursor_good}
use Rattle.run_effect.proofs.Cursors.{in_ways_below}
use Rattle.order_theory.proofs.Trace.{mark}
use Rattle.order_theory.proofs.Steps.{upd, line_op}
use Rattle.order_theory.proofs.Deal.{onward, deal_op, gather_op}
use Rattle.order_theory.proofs.Denote.{denote, latest_op, double_op}
use Rattle.order.proofs.Model.{TItem, kind_as}
use Rattle.order.proofs.LineLink.{vars_as, set_as, Left, Known, line_as}

-- ---- the theory's words for cursors and their next place

onward_as : (k c : ℕ) → c < k → onward k c ≡ (c + 1) % k
onward_as k c h = go (eqb (suc c) k) refl
  where
    go : (b : Bool) → eqb (suc c) k ≡ b → cond b 0 (suc c) ≡ (c + 1) % k
    go true e = rw (add-one, eqb-true (suc c) k e, mod_self)
    go false e = let n : suc c ≢ k = eqb-false (suc c) k e in rw add-one (sym (mod-eq_of_lt (omega arith)))

moved_as : (c : ℕ) (vs : List ℤ) (ways : ℕ) → c < length vs → in_ways (get_or vs c (pos 0)) ways ≡ true →
    upd c (pos (onward ways (nat_of (vars_as vs c)))) (vars_as vs) ≡ vars_as (moved_on c ways vs)
moved_as c vs ways l g =
    ap (λ (n : ℕ). upd c (pos n) (vars_as vs))
    (onward_as ways (cursor_at c vs) (in_ways_below (get_or vs c (pos 0)) ways g))
    ∙ set_as vs c (pos ((cursor_at c vs + 1) % ways)) l

first_below : (vs : List ℤ) (c : ℕ) → Known vs (c ∷ []) → c < length vs
first_below vs c h = ltb-true c (length vs) (both (ltb c (length vs)) true h).0

-- ---- where it waits

only_one : (q p : ℕ) → member q (p ∷ []) ≡ true → eqb p q ≡ true
only_one q p h = eq-eqb p q (sym (eqb-true q p (sym (or-false (eqb q p)) ∙ h)))

not_not : (b : Bool) → not (not b) ≡ b
not_not true = refl
not_not false = refl

pub waits_as : (o : Op) (q : ℕ) (vs : List ℤ) → member q (reads o) ≡ true → cursor_good o vs ≡ true →
    eqb ((denote (kind_as o)).sel (vars_as vs)) q ≡ not (waits o q vs)
unfolding denote line_op latest_op double_op deal_op gather_op waits cursor_good
waits_as (line p r ss) q vs m g = only_one q p m
waits_as (latest p v f) q vs m g = only_one q p m
waits_as (double p r s) q vs m g = only_one q p m
waits_as (deal c p qs) q vs m g = only_one q p m
waits_as (gather c r ps) q vs m g =
    let l = in_ways_below (get_or vs c (pos 0)) (length ps) g in
    ap (λ (k : ℕ). eqb k q) (get_d_any ps (cursor_at c vs) (get_or ps 0 0) 0 l)
    ∙ sym (not_not (eqb (get_or ps (cursor_at c vs) 0) q))

-- ---- what it puts where

line_put : (k q : ℕ) (b : Bool) (x : TItem) → cond (eqb k q) (mark b x) none ≡ mark (member k (cond b (q ∷ []) [])) x
line_put k q b x = go (eqb k q) b refl
  where
    go : (e b : Bool) → eqb k q ≡ e → cond e (mark b x) none ≡ mark (member k (cond b (q ∷ []) [])) x
    go true true h = rw h
    go true false h = refl
    go false true h = rw h
    go false false h = refl

deal_put : (qs : List ℕ) (j k : ℕ) (x : TItem) → j < length qs →
    cond (member k qs) (mark (eqb k (get_or qs j 0)) x) none ≡ mark (member k (get_or qs j 0 ∷ [])) x
deal_put qs j k x l = go (eqb k (get_or qs j 0)) refl
  where
    past : (b : Bool) → ◌≡◌ {A = Option TItem} (cond b none none) none
    past true = refl
    past false = refl

    go : (e : Bool) → eqb k (get_or qs j 0) ≡ e → cond (member k qs) (mark e x) none ≡ mark (e || false) x
    go true h = rw (eqb-true k (get_or qs j 0) h, member_at qs j l)
    go false h = past (member k qs)

pub puts_as : (o : Op) (x : Item) (vs : List ℤ) (k : ℕ) → Known vs (names o) → cursor_good o vs ≡ true →
    (denote (kind_as o)).puts x.f (vars_as vs) k ≡ mark (member k (effect o x vs).puts) (effect o x vs).item.f
unfolding denote line_op latest_op double_op deal_op gather_op effect cursor_good
puts_as (line p q ss) x vs k n g =
    let y : Flow = lined ss (record { kept = true; item = x; vars = vs }) in
    ap (λ (r : Left). cond (eqb k q) r.0 none) (line_as ss x vs n) ∙ line_put k q y.kept y.item.f
puts_as (latest p v f) x vs k n g = refl
puts_as (double p q r) x vs k n g = ap (λ (b : Bool). mark (eqb k q || b) x.f) (sym (or-false (eqb k r)))
puts_as (deal c p qs) x vs k n g =
    deal_put qs (cursor_at c vs) k x.f (in_ways_below (get_or vs c (pos 0)) (length qs) g)
puts_as (gather c q ps) x vs k n g = line_put k q true x.f

-- ---- and its variables

pub next_as : (o : Op) (x : Item) (vs : List ℤ) → Known vs (names o) → cursor_good o vs ≡ true →
    (denote (kind_as o)).next x.f (vars_as vs) ≡ vars_as (effect o x vs).vars
unfolding denote line_op latest_op double_op deal_op gather_op effect cursor_good
next_as (line p q ss) x vs n g = ap (λ (r : Left). r.1) (line_as ss x vs n)
next_as (latest p v f) x vs n g = set_as vs v (get_or x.f f (pos 0)) (first_below vs v n)
next_as (double p q r) x vs n g = refl
next_as (deal c p qs) x vs n g = moved_as c vs (length qs) (first_below vs c n) g
next_as (gather c q ps) x vs n g = moved_as c vs (length ps) (first_below vs c n) g
