-- What an accepted firing, feed and take do, and with which numbers a firing is refused.
-- Assumes nothing.
use mathlib.Core.Path.{◌≡◌, refl, sym, ap, ◌∙◌}
use mathlib.Core.Logic.{◌⊎◌, inl, inr}
use mathlib.Core.Bool.{Bool, true, false, cond}
use mathlib.Core.List.{List, [], ◌∷◌, ◌++◌}
use Prim.Native.Nat.{ℕ, suc, ◌≤◌, ◌<◌}
use native.Mathlib.Omega.{arith}
use lib.Dec.{ltb}
use lib.ListN.{length, get_or, set}
use borrow.Author.Tests.{ltb-true}
use Rattle.base_lists.specs.Lists.{member, times}
use Rattle.sheet_operator.specs.Op.{Op, double, Abstract, reads}
use Rattle.run_store.specs.declared.Item.{Item}
use Rattle.run_effect.specs.Effect.{Result, effect, waits}
use Rattle.run_effect.proofs.EffectLaws.{effect_puts_once}
use Rattle.run_machine.specs.Machine.{Machine, Outcome, refuse, done, full, put_all, commit, fire_from, fire_op, fire_first, fire_m, feed_m, is_output, none}
use Rattle.run_machine.specs.Machine.{took}
use Rattle.run_machine.specs.Machine.{take_from, take_m}
use Rattle.run_machine.proofs.Sound.{op_in, Sound}

-- ---- outcomes are told apart

done_of : (m n : Machine) → done m ≡ done n → n ≡ m
done_of m n e = cc

refuse_of : (j k : ℕ) → refuse j ≡ refuse k → k ≡ j
refuse_of j k e = cc

refused_not_done : {A : Type 0} (k : ℕ) (m : Machine) → refuse k ≡ done m → A
refused_not_done k m e = let z : ◌≡◌ {A = ℕ} 0 1 = cc in absurd (omega arith)

done_not_refused : {A : Type 0} (k : ℕ) (m : Machine) → done m ≡ refuse k → A
done_not_refused k m e = let z : ◌≡◌ {A = ℕ} 0 1 = cc in absurd (omega arith)

-- past a test that refuses, the test failed
refused_or : (b : Bool) (k : ℕ) (r : Outcome) (m : Machine) → cond b (refuse k) r ≡ done m → (b ≡ false) × (r ≡ done m)
refused_or true k r m e = refused_not_done k m e
refused_or false k r m e = (refl, e)

-- ---- an accepted firing: one item of q, taken by an operator that reads q, and what its effect says

pub record Fires (a : Abstract) (m : Machine) (q : ℕ) (m' : Machine) : Type 0 where
  pub place : ℕ
  pub within : place < length a.ops
  pub reader : member q (reads (op_in a place)) ≡ true
  pub item : Item
  pub rest : List Item
  pub queue : get_or m.queues q [] ≡ item ∷ rest
  pub turn : waits (op_in a place) q m.vars ≡ false
  pub room : full m.queues (effect (op_in a place) item m.vars).puts ≡ false
  pub next : m' ≡ record {
    queues = put_all (set m.queues q rest) (effect (op_in a place) item m.vars).puts (effect (op_in a place) item m.vars).item;
    vars = (effect (op_in a place) item m.vars).vars;
  }

-- the operator that is found
record Found (os : List Op) (m : Machine) (q : ℕ) (r : Outcome) : Type 0 where
  pub place : ℕ
  pub within : place < length os
  pub reader : member q (reads (get_or os place (double 0 0 0))) ≡ true
  pub fires : fire_op (get_or os place (double 0 0 0)) m q ≡ r

found : (os : List Op) (m : Machine) (q : ℕ) → Found os m q (fire_first os m q) ⊎ (fire_first os m q ≡ refuse 9)
unfolding fire_first
found [] m q = inr refl
found (o ∷ os) m q = pick (member q (reads o)) refl (found os m q)
  where
    pick : (b : Bool) → member q (reads o) ≡ b → Found os m q (fire_first os m q) ⊎ (fire_first os m q ≡ refuse 9) →
        Found (o ∷ os) m q (cond b (fire_op o m q) (fire_first os m q)) ⊎ (cond b (fire_op o m q) (fire_first os m q) ≡ refuse 9)
    pick true e f = inl (record { place = 0; within = omega arith; reader = e; fires = refl })
    pick false e (inl f) = inl (record { place = suc f.place; within = omega (arith, f.within); reader = f.reader; fires = f.fires })
    pick false e (inr f) = inr f

commit_done : (m m' : Machine) (q : ℕ) (xs : List Item) (r : Result) → commit m q xs r ≡ done m' →
    (full m.queues r.puts ≡ false) × (m' ≡ record { queues = put_all (set m.queues q xs) r.puts r.item; vars = r.vars })
unfolding commit
commit_done m m' q xs r e =
    let p = refused_or (full m.queues r.puts) 12 (done (record { queues = put_all (set m.queues q xs) r.puts r.item; vars = r.vars })) m' e in
    (p.0, done_of _ m' p.1)

pub fire_takes_one : (a : Abstract) (m : Machine) (q : ℕ) (m' : Machine) → fire_m a m q ≡ done m' → Fires a m q m'
unfolding fire_from
fire_takes_one a m q m' e = go (found a.ops m q)
  where
    from : (i : ℕ) → i < length a.ops → member q (reads (op_in a i)) ≡ true → (ys : List Item) → get_or m.queues q [] ≡ ys →
        fire_from (op_in a i) m q ys ≡ done m' → Fires a m q m'
    from i l r [] g h = refused_not_done 10 m' h
    from i l r (x ∷ xs) g h =
        let w = refused_or (waits (op_in a i) q m.vars) 11 (commit m q xs (effect (op_in a i) x m.vars)) m' h in
        let c = commit_done m m' q xs (effect (op_in a i) x m.vars) w.1 in
        record { place = i; within = l; reader = r; item = x; rest = xs; queue = g; turn = w.0; room = c.0; next = c.1 }

    go : Found a.ops m q (fire_m a m q) ⊎ (fire_m a m q ≡ refuse 9) → Fires a m q m'
    go (inl f) = from f.place f.within f.reader (get_or m.queues q []) refl (f.fires ∙ e)
    go (inr f) = refused_not_done 9 m' (sym f ∙ e)

-- it puts at most one item on each queue
pub put_at_most_one : (a : Abstract) → Sound a → (m : Machine) (q : ℕ) (m' : Machine) (f : Fires a m q m') (r : ℕ) →
    times r (effect (op_in a f.place) f.item m.vars).puts ≤ 1
put_at_most_one a s m q m' f r = effect_puts_once (op_in a f.place) f.item m.vars (s.each f.place f.within).apart r

-- ---- a firing that is refused

abbrev Refusal : ℕ → Type 0
Refusal k = (k ≡ 9) ⊎ ((k ≡ 10) ⊎ ((k ≡ 11) ⊎ (k ≡ 12)))

pub fire_refusals : (a : Abstract) (m : Machine) (q k : ℕ) → fire_m a m q ≡ refuse k → (k ≡ 9) ⊎ ((k ≡ 10) ⊎ ((k ≡ 11) ⊎ (k ≡ 12)))
unfolding fire_from commit
fire_refusals a m q k e = go (found a.ops m q)
  where
    by_full : (b : Bool) (n : Machine) → cond b (refuse 12) (done n) ≡ refuse k → Refusal k
    by_full true n h = inr (inr (inr (refuse_of 12 k h)))
    by_full false n h = done_not_refused k n h

    by_turn : (b : Bool) (xs : List Item) (r : Result) → cond b (refuse 11) (commit m q xs r) ≡ refuse k → Refusal k
    by_turn true xs r h = inr (inr (inl (refuse_of 11 k h)))
    by_turn false xs r h = by_full (full m.queues r.puts) _ h

    by_items : (o : Op) (ys : List Item) → fire_from o m q ys ≡ refuse k → Refusal k
    by_items o [] h = inr (inl (refuse_of 10 k h))
    by_items o (x ∷ xs) h = by_turn (waits o q m.vars) xs (effect o x m.vars) h

    go : Found a.ops m q (fire_m a m q) ⊎ (fire_m a m q ≡ refuse 9) → Refusal k
    go (inl f) = by_items (op_in a f.place) (get_or m.queues q []) (f.fires ∙ e)
    go (inr f) = inl (refuse_of 9 k (sym f ∙ e))

-- ---- an accepted feed, and an accepted take

pub record Feeds (a : Abstract) (m : Machine) (q : ℕ) (x : Item) (m' : Machine) : Type 0 where
  pub input : q < a.inputs
  pub room : full m.queues (q ∷ []) ≡ false
  pub next : m' ≡ record { queues = set m.queues q (get_or m.queues q [] ++ (x ∷ [])); vars = m.vars }

pub feed_puts_one : (a : Abstract) (m : Machine) (q : ℕ) (x : Item) (m' : Machine) → feed_m a m q x ≡ done m' → Feeds a m q x m'
unfolding feed_m
feed_puts_one a m q x m' e = go (ltb q a.inputs) refl e
  where
    fed : Machine
    fed = record { queues = set m.queues q (get_or m.queues q [] ++ (x ∷ [])); vars = m.vars }

    go : (b : Bool) → ltb q a.inputs ≡ b → cond b (cond (full m.queues (q ∷ [])) (refuse 12) (done fed)) (refuse 9) ≡ done m' → Feeds a m q x m'
    go true i h =
        let p = refused_or (full m.queues (q ∷ [])) 12 (done fed) m' h in
        record { input = ltb-true q a.inputs i; room = p.0; next = done_of fed m' p.1 }
    go false i h = refused_not_done 9 m' h

pub record Takes (a : Abstract) (m : Machine) (q : ℕ) (x : Item) (m' : Machine) : Type 0 where
  pub output : is_output a q ≡ true
  pub rest : List Item
  pub queue : get_or m.queues q [] ≡ x ∷ rest
  pub next : m' ≡ record { queues = set m.queues q rest; vars = m.vars }

pub take_removes_one : (a : Abstract) (m : Machine) (q : ℕ) (x : Item) (m' : Machine) → take_m a m q ≡ took x m' → Takes a m q x m'
unfolding take_m
take_removes_one a m q x m' e = go (is_output a q) refl (get_or m.queues q []) refl e
  where
    refused : {A : Type 0} (k : ℕ) → none k ≡ took x m' → A
    refused k h = let z : ◌≡◌ {A = ℕ} 0 1 = cc in absurd (omega arith)

    go : (b : Bool) → is_output a q ≡ b → (ys : List Item) → get_or m.queues q [] ≡ ys → cond b (take_from m q ys) (none 9) ≡ took x m' → Takes a m q x m'
    go true i [] g h = refused 10 h
    go true i (y ∷ ys) g h =
        let same : y ≡ x = cc in
        let next : m' ≡ record { queues = set m.queues q ys; vars = m.vars } = cc in
        record { output = i; rest = ys; queue = g ∙ ap (λ (z : Item). z ∷ ys) same; next = next }
    go false i ys g h = refused 9 h
