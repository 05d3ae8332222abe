-- A firing, a feed, a take and a run of a sound sheet keep a good machine good.
-- Assumes nothing.
use mathlib.Core.Path.{◌≡◌, refl, sym, ap, ◌∙◌, subst}
use mathlib.Core.Logic.{⊎_elim}
use mathlib.Core.Bool.{true, false}
use mathlib.Core.List.{List, [], ◌∷◌, ◌++◌}
use Prim.Native.Nat.{ℕ, suc, ◌≤◌, ◌<◌}
use native.Mathlib.Nat.{le_refl}
use native.Mathlib.Omega.{arith}
use lib.Dec.{eqb, ltb, leb}
use lib.ListN.{length, get_or, set, length-set, length-append}
use lib.Seq.{get_or-set_other, get_or-set_same, set_out}
use borrow.Author.Tests.{leb-false, lt-leb, eqb-false}
use Rattle.base_lists.specs.Lists.{all, member, fresh}
use Rattle.base_lists.proofs.Build.{order, same_or}
use Rattle.base_lists.proofs.Tests.{neither, neither_of, all_get_d, all_of_each}
use Rattle.base_lists.proofs.Times.{fresh_first}
use Rattle.base_lists.proofs.Members.{not_below, all_below}
use Rattle.sheet_operator.specs.Op.{Op, double, Abstract, names, cursors}
use Rattle.run_store.specs.declared.Item.{Item}
use Rattle.base_bounds.specs.Bounds.{ROOM, FIELDS}
use Rattle.run_store.specs.Queues.{Fit, Wide, AllWide}
use Rattle.run_store.proofs.StoreLaws.{fit_set, wide_set, wide_at, wide_append}
use Rattle.run_effect.specs.Effect.{Result, effect, cursor_good}
use Rattle.run_effect.proofs.EffectLaws.{effect_puts_below, effect_puts_apart, effect_vars_length, effect_item_wide, effect_frame, effect_cursor_good}
use Rattle.run_effect.proofs.EffectLaws.{effect_other_cursor, cursors_named}
use Rattle.run_machine.specs.Machine.{Machine, Outcome, refuse, done, full, put_all, fire_m, feed_m, took, take_m, Ran, ran_on, run_from}
use Rattle.run_machine.specs.Numbers.{GoodM}
use Rattle.run_machine.proofs.Firing.{fire_takes_one, feed_puts_one, take_removes_one}
use Rattle.run_machine.proofs.Sound.{op_in, SoundOp, Sound}

-- ---- puts, queue by queue

length_puts : (qs : List (List Item)) (to : List ℕ) (x : Item) → length (put_all qs to x) ≡ length qs
length_puts qs [] x = refl
length_puts qs (q ∷ to) x = length_puts (set qs q (get_or qs q [] ++ (x ∷ []))) to x ∙ length-set qs q (get_or qs q [] ++ (x ∷ []))

pub puts_other : (qs : List (List Item)) (to : List ℕ) (x : Item) (k : ℕ) → member k to ≡ false → get_or (put_all qs to x) k [] ≡ get_or qs k []
puts_other qs [] x k h = refl
puts_other qs (q ∷ to) x k h =
    let n = neither (eqb k q) (member k to) h in
    puts_other (set qs q (get_or qs q [] ++ (x ∷ []))) to x k n.1 ∙ get_or-set_other qs q k (get_or qs q [] ++ (x ∷ [])) [] (eqb-false k q n.0)

wide_puts : (qs : List (List Item)) (to : List ℕ) (x : Item) → length x.f ≡ FIELDS → AllWide qs → AllWide (put_all qs to x)
wide_puts qs [] x v w = w
wide_puts qs (q ∷ to) x v w =
    wide_puts (set qs q (get_or qs q [] ++ (x ∷ []))) to x v (wide_set qs q (get_or qs q [] ++ (x ∷ [])) w (wide_append (get_or qs q []) x (wide_at qs q w) v))

-- with one queue changed there is room where there was, in the other queues and where it did not grow
full_other : (qs : List (List Item)) (q : ℕ) (ys : List Item) (to : List ℕ) → member q to ≡ false → full (set qs q ys) to ≡ full qs to
full_other qs q ys [] h = refl
full_other qs q ys (r ∷ to) h =
    let n = neither (eqb q r) (member q to) h in
    rw (get_or-set_other qs q r ys [] (λ e. eqb-false q r n.0 (sym e)), full_other qs q ys to n.1)

set_shorter : (qs : List (List Item)) (q : ℕ) (ys : List Item) (r : ℕ) → length ys ≤ length (get_or qs q []) →
    length (get_or (set qs q ys) r []) ≤ length (get_or qs r [])
set_shorter qs q ys r h =
    ⊎_elim
    (λ (e : r ≡ q).
    ⊎_elim (λ (l : q < length qs). rw (e, get_or-set_same qs q ys [] l) h)
    (λ (l : length qs ≤ q). rw (set_out qs q ys l) (le_refl (length (get_or qs r []))))
    (order q (length qs)))
    (λ (ne : r ≡ q → ⊥). rw (get_or-set_other qs q r ys [] ne) (le_refl (length (get_or qs r []))))
    (same_or r q)

full_fewer : (qs : List (List Item)) (q : ℕ) (ys : List Item) (to : List ℕ) → length ys ≤ length (get_or qs q []) → full qs to ≡ false →
    full (set qs q ys) to ≡ false
full_fewer qs q ys [] l h = refl
full_fewer qs q ys (r ∷ to) l h =
    let n = neither (leb ROOM (length (get_or qs r []))) (full qs to) h in
    let s : length (get_or (set qs q ys) r []) < ROOM = omega (arith, set_shorter qs q ys r l, leb-false ROOM (length (get_or qs r [])) n.0) in
    neither_of _ _ (lt-leb ROOM (length (get_or (set qs q ys) r [])) s) (full_fewer qs q ys to l n.1)

fit_puts : (qs : List (List Item)) (to : List ℕ) (x : Item) → fresh (λ (r : ℕ). false) to ≡ true → full qs to ≡ false → Fit qs → Fit (put_all qs to x)
fit_puts qs [] x d h f = f
fit_puts qs (q ∷ to) x d h f =
    let p = fresh_first q to d in
    let n = neither (leb ROOM (length (get_or qs q []))) (full qs to) h in
    let ys : List Item = get_or qs q [] ++ (x ∷ []) in
    let l : length ys ≤ ROOM = omega (arith, length-append (get_or qs q []) (x ∷ []), leb-false ROOM (length (get_or qs q [])) n.0) in
    fit_puts (set qs q ys) to x p.1 (full_other qs q ys to p.0 ∙ n.1) (fit_set qs q ys f l)

-- a queue that is not empty is one of the queues, and of the sheet's
nonempty_below : (a : Abstract) (m : Machine) → GoodM a m → (q : ℕ) (x : Item) (xs : List Item) → get_or m.queues q [] ≡ x ∷ xs → q < a.queues
nonempty_below a m g q x xs e =
    ⊎_elim (λ (l : q < a.queues). l)
    (λ (l : a.queues ≤ q). let z : ◌≡◌ {A = ℕ} 0 (suc (length xs)) = ap length (sym (g.far q l) ∙ e) in absurd (omega arith))
    (order q a.queues)

-- ---- the calls

module _ (a : Abstract) (sound : Sound a) (m : Machine) (g : GoodM a m) where
  -- one queue changed, below the sheet's queues
  set_keeps : (q : ℕ) (ys : List Item) → q < a.queues → length ys ≤ ROOM → Wide ys → GoodM a (record { queues = set m.queues q ys; vars = m.vars })
  set_keeps q ys b l w =
      record {
        many = length-set m.queues q ys ∙ g.many;
        fit = fit_set m.queues q ys g.fit l;
        wide = wide_set m.queues q ys g.wide w;
        far = λ k c. get_or-set_other m.queues q k ys [] (λ e. omega arith) ∙ g.far k c;
        size = g.size;
        none = g.none;
        cursors = g.cursors;
      }

  module _ (q : ℕ) (x : Item) (xs : List Item) (e : get_or m.queues q [] ≡ x ∷ xs) where
    below : q < a.queues
    below = nonempty_below a m g q x xs e

    few : length (x ∷ xs) ≤ ROOM
    few = omega (arith, ap length e, g.fit q (omega (arith, below, sound.queues, g.many)))

    wide : Wide (x ∷ xs)
    wide = subst (λ (ys : List Item). Wide ys) e (wide_at m.queues q g.wide)

    taken_keeps : GoodM a (record { queues = set m.queues q xs; vars = m.vars })
    taken_keeps = set_keeps q xs below (omega (arith, few)) wide.1

    -- the operator at place i fires
    module _ (i : ℕ) (l : i < length a.ops) where
      abbrev result : Result
      result = effect (op_in a i) x m.vars

      op : SoundOp a.queues a.variables (op_in a i)
      op = sound.each i l

      cursor : cursor_good (op_in a i) m.vars ≡ true
      cursor = all_get_d (λ (o : Op). cursor_good o m.vars) a.ops (double 0 0 0) g.cursors i l

      -- its cursor is one of the variables
      held : all (λ (c : ℕ). ltb c (length m.vars)) (cursors (op_in a i)) ≡ true
      held =
          cursors_named (λ (c : ℕ). ltb c (length m.vars)) (op_in a i)
          (all_below a.variables (length m.vars) (names (op_in a i)) (omega (arith, sound.variables, g.size)) op.named)

      -- every cursor is as it was, but for the operator's own, which moved on
      cursor_after : (j : ℕ) → j < length a.ops → cursor_good (op_in a j) result.vars ≡ true
      cursor_after j b =
          ⊎_elim (λ (s : j ≡ i). rw s (effect_cursor_good (op_in a i) x m.vars held cursor))
          (λ (s : j ≡ i → ⊥).
          effect_other_cursor (op_in a i) (op_in a j) x m.vars (λ v c. sound.alone j i v b l s c)
          ∙ all_get_d (λ (o : Op). cursor_good o m.vars) a.ops (double 0 0 0) g.cursors j b)
          (same_or j i)

      fired_keeps : full m.queues result.puts ≡ false →
          GoodM a (record { queues = put_all (set m.queues q xs) result.puts result.item; vars = result.vars })
      fired_keeps r =
          let t = taken_keeps in
          let n : length xs ≤ length (get_or m.queues q []) = omega (arith, ap length e) in
          record {
            many = length_puts (set m.queues q xs) result.puts result.item ∙ t.many;
            fit = fit_puts (set m.queues q xs) result.puts result.item (effect_puts_apart (op_in a i) x m.vars op.apart)
                (full_fewer m.queues q xs result.puts n r) t.fit;
            wide = wide_puts (set m.queues q xs) result.puts result.item (effect_item_wide (op_in a i) x m.vars wide.0) t.wide;
            far = λ k b.
                puts_other (set m.queues q xs) result.puts result.item k
                (not_below a.queues result.puts k (effect_puts_below (op_in a i) x m.vars a.queues cursor op.outs) b)
                ∙ t.far k b;
            size = effect_vars_length (op_in a i) x m.vars ∙ g.size;
            none = λ v b. effect_frame (op_in a i) x m.vars v (not_below a.variables (names (op_in a i)) v op.named b) ∙ g.none v b;
            cursors = all_of_each (λ (o : Op). cursor_good o result.vars) (double 0 0 0) a.ops cursor_after;
          }

  pub fire_keeps : (q : ℕ) (m' : Machine) → fire_m a m q ≡ done m' → GoodM a m'
  fire_keeps q m' h =
      let f = fire_takes_one a m q m' h in
      subst (λ (n : Machine). GoodM a n) (sym f.next) (fired_keeps q f.item f.rest f.queue f.place f.within f.room)

  pub feed_keeps : (q : ℕ) (x : Item) (m' : Machine) → length x.f ≡ FIELDS → feed_m a m q x ≡ done m' → GoodM a m'
  feed_keeps q x m' v h =
      let f = feed_puts_one a m q x m' h in
      let n = neither (leb ROOM (length (get_or m.queues q []))) false f.room in
      subst (λ (n : Machine). GoodM a n) (sym f.next)
      (set_keeps q (get_or m.queues q [] ++ (x ∷ [])) (omega (arith, f.input, sound.inputs))
      (omega (arith, length-append (get_or m.queues q []) (x ∷ []), leb-false ROOM (length (get_or m.queues q [])) n.0))
      (wide_append (get_or m.queues q []) x (wide_at m.queues q g.wide) v))

  pub take_keeps : (q : ℕ) (x : Item) (m' : Machine) → take_m a m q ≡ took x m' → GoodM a m'
  take_keeps q x m' h =
      let f = take_removes_one a m q x m' h in
      subst (λ (n : Machine). GoodM a n) (sym f.next) (taken_keeps q x f.rest f.queue)

pub run_keeps : (a : Abstract) → Sound a → (qs : List ℕ) (r : Ran) → GoodM a r.machine → GoodM a (run_from a qs r).machine
unfolding run_from
run_keeps a s [] r g = g
run_keeps a s (q ∷ qs) r g = run_keeps a s qs (ran_on (fire_m a r.machine q) r) (go (fire_m a r.machine q) refl)
  where
    go : (o : Outcome) → fire_m a r.machine q ≡ o → GoodM a (ran_on o r).machine
    go (refuse k) e = g
    go (done m) e = fire_keeps a s r.machine g q m e
