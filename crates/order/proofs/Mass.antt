-- A measure of a machine that every firing of an accepted sheet lowers: an item weighs three times what an item further on does.
-- Assumes nothing.
use mathlib.Core.Path.{◌≡◌, refl, ap, ◌∙◌}
use mathlib.Core.Bool.{Bool, true, false, cond}
use mathlib.Core.List.{List, [], ◌∷◌, ◌++◌, map}
use Prim.Native.Nat.{ℕ, zero, suc, ◌+◌, ◌*◌, ◌-◌, ◌^◌, ◌≤◌, ◌<◌}
use native.Mathlib.Nat.{pow-suc, add-zero}
use native.Mathlib.Omega.{arith}
use lib.Dec.{eqb}
use lib.ListN.{length, get_or, set, length-append}
use lib.IntN.{ℤ}
use borrow.Author.Tests.{eq-eqb}
use Rattle.base_lists.specs.Lists.{member, sum}
use Rattle.base_lists.proofs.Tests.{all_get_d, or_right}
use Rattle.sheet_operator.specs.Op.{Op, line, latest, double, deal, gather, Abstract, reads}
use Rattle.run_store.specs.declared.Item.{Item}
use Rattle.run_effect.specs.Flow.{lined}
use Rattle.run_effect.specs.Effect.{Result, effect, cursor_good}
use Rattle.run_effect.proofs.EffectLaws.{effect_puts_defined}
use Rattle.run_machine.specs.Machine.{Machine, done, put_all, fire_m}
use Rattle.run_machine.specs.Numbers.{GoodM}
use Rattle.run_machine.proofs.Sound.{op_in}
use Rattle.run_machine.proofs.Firing.{fire_takes_one}
use Rattle.order.proofs.Readers.{Onward}

-- an item on a queue weighs 3 to the number of operators behind its reader, and nothing where no operator reads it
abbrev pub weight : List Op → ℕ → ℕ
weight [] q = 0
weight (o ∷ os) q = cond (member q (reads o)) (3 ^ length os) (weight os q)

-- the items of the queues from k on
abbrev pub mass : (ℕ → ℕ) → ℕ → List (List Item) → ℕ
mass w k [] = 0
mass w k (xs ∷ qs) = length xs * w k + mass w (suc k) qs

abbrev pub mass_of : Abstract → Machine → ℕ
mass_of a m = mass (weight a.ops) 0 m.queues

-- ---- the mass after one queue has changed

mul_suc : (n w : ℕ) → suc n * w ≡ w + n * w
mul_suc n w = omega arith

module _ (w : ℕ → ℕ) where
  at_place : (k q : ℕ) → w (k + suc q) ≡ w (suc k + q)
  at_place k q = ap w (omega arith)

  -- one item taken
  pub mass_taken : (k : ℕ) (qs : List (List Item)) (q : ℕ) (x : Item) (xs : List Item) → get_or qs q [] ≡ x ∷ xs →
      mass w k (set qs q xs) + w (k + q) ≡ mass w k qs
  mass_taken k [] q x xs e = let z : ◌≡◌ {A = ℕ} 0 (suc (length xs)) = ap length e in absurd (omega arith)
  mass_taken k (ys ∷ qs) zero x xs e =
      let s : length ys * w k ≡ w k + length xs * w k = ap (λ (zs : List Item). length zs * w k) e ∙ mul_suc (length xs) (w k) in
      omega (arith, s, ap w (add-zero k))
  mass_taken k (ys ∷ qs) (suc q) x xs e = omega (arith, mass_taken (suc k) qs q x xs e, at_place k q)

  -- one item put
  pub mass_put : (k : ℕ) (qs : List (List Item)) (q : ℕ) (x : Item) →
      mass w k (set qs q (get_or qs q [] ++ (x ∷ []))) ≤ mass w k qs + w (k + q)
  mass_put k [] q x = omega arith
  mass_put k (ys ∷ qs) zero x =
      let l : length (ys ++ (x ∷ [])) ≡ suc (length ys) = omega (arith, length-append ys (x ∷ [])) in
      let s : length (ys ++ (x ∷ [])) * w k ≡ w k + length ys * w k = ap (λ (n : ℕ). n * w k) l ∙ mul_suc (length ys) (w k) in
      omega (arith, s, ap w (add-zero k))
  mass_put k (ys ∷ qs) (suc q) x = omega (arith, mass_put (suc k) qs q x, at_place k q)

  pub mass_puts : (qs : List (List Item)) (to : List ℕ) (x : Item) → mass w 0 (put_all qs to x) ≤ mass w 0 qs + sum (map w to)
  mass_puts qs [] x = omega arith
  mass_puts qs (q ∷ to) x =
      let s : w (0 + q) ≡ w q = ap w (omega arith) in
      omega (arith, mass_puts (set qs q (get_or qs q [] ++ (x ∷ []))) to x, mass_put 0 qs q x, s)

-- ---- at most two items, each a third of the one that was taken

line_few : (b : Bool) (q : ℕ) → length (cond b (q ∷ []) []) ≤ 2
line_few true q = omega arith
line_few false q = omega arith

pub effect_puts_few : (o : Op) (x : Item) (vs : List ℤ) → length (effect o x vs).puts ≤ 2
unfolding effect
effect_puts_few (line p q ss) x vs = line_few (lined ss (record { kept = true; item = x; vars = vs })).kept q
effect_puts_few (latest p v f) x vs = omega arith
effect_puts_few (double p q r) x vs = omega arith
effect_puts_few (deal c p qs) x vs = omega arith
effect_puts_few (gather c q ps) x vs = omega arith

thirds : (w : ℕ → ℕ) (to : List ℕ) (n : ℕ) → ((q : ℕ) → member q to ≡ true → 3 * w q ≤ n) → 3 * sum (map w to) ≤ length to * n
thirds w [] n h = omega arith
thirds w (q ∷ to) n h =
    omega
    (arith, h q (rw (eq-eqb q q refl)), thirds w to n (λ r m. h r (or_right (eqb r q) (member r to) m)), mul_suc (length to) n)

-- ---- weights by the reader's place

power_positive : (n : ℕ) → 1 ≤ 3 ^ n
power_positive zero = omega arith
power_positive (suc n) = omega (arith, pow-suc 3 n, power_positive n)

weight_below : (os : List Op) (q : ℕ) → 3 * weight os q ≤ 3 ^ length os
weight_below [] q = omega arith
weight_below (o ∷ os) q = go (member q (reads o)) (weight_below os q)
  where
    go : (b : Bool) → 3 * weight os q ≤ 3 ^ length os → 3 * cond b (3 ^ length os) (weight os q) ≤ 3 ^ suc (length os)
    go true h = omega (arith, pow-suc 3 (length os))
    go false h = omega (arith, pow-suc 3 (length os))

weight_of_reader : (os : List Op) (d : Op) (i q : ℕ) → i < length os → member q (reads (get_or os i d)) ≡ true →
    ((j : ℕ) → j < length os → member q (reads (get_or os j d)) ≡ true → i ≡ j) → weight os q ≡ 3 ^ (length os - suc i)
weight_of_reader [] d i q b m h = absurd (omega arith)
weight_of_reader (o ∷ os) d zero q b m h = ap (λ (c : Bool). cond c (3 ^ length os) (weight os q)) m ∙ ap (λ (n : ℕ). 3 ^ n) (omega arith)
weight_of_reader (o ∷ os) d (suc i) q b m h =
    go (member q (reads o)) (h 0 (omega arith))
    (weight_of_reader os d i q (omega arith) m (λ j l n. omega (arith, h (suc j) (omega arith) n)))
  where
    go : (c : Bool) → (c ≡ true → suc i ≡ 0) → weight os q ≡ 3 ^ (length os - suc i) →
        cond c (3 ^ length os) (weight os q) ≡ 3 ^ (suc (length os) - suc (suc i))
    go true e r = absurd (omega (arith, e refl))
    go false e r = r ∙ ap (λ (n : ℕ). 3 ^ n) (omega arith)

weight_behind : (os : List Op) (d : Op) (i q : ℕ) → i < length os →
    ((j : ℕ) → j < length os → member q (reads (get_or os j d)) ≡ true → i < j) →
    3 * weight os q ≤ 3 ^ (length os - suc i)
weight_behind [] d i q b h = absurd (omega arith)
weight_behind (o ∷ os) d zero q b h = go (member q (reads o)) (h 0 (omega arith))
  where
    go : (c : Bool) → (c ≡ true → zero < 0) → 3 * cond c (3 ^ length os) (weight os q) ≤ 3 ^ (suc (length os) - suc zero)
    go true e = absurd (omega (arith, e refl))
    go false e = let p : suc (length os) - suc zero ≡ length os = omega arith in rw p (weight_below os q)
weight_behind (o ∷ os) d (suc i) q b h =
    go (member q (reads o)) (h 0 (omega arith))
    (weight_behind os d i q (omega arith) (λ j l n. omega (arith, h (suc j) (omega arith) n)))
  where
    go : (c : Bool) → (c ≡ true → suc i < 0) → 3 * weight os q ≤ 3 ^ (length os - suc i) →
        3 * cond c (3 ^ length os) (weight os q) ≤ 3 ^ (suc (length os) - suc (suc i))
    go true e r = absurd (omega (arith, e refl))
    go false e r = let p : suc (length os) - suc (suc i) ≡ length os - suc i = omega arith in rw p r

-- ---- a firing lowers the mass

less : (before taken after puts item : ℕ) (n : ℕ) → taken + item ≡ before →
    after ≤ taken + puts → 3 * puts ≤ n * item → n ≤ 2 → 1 ≤ item → after < before
less before taken after puts item zero e f g h i = omega arith
less before taken after puts item (suc zero) e f g h i = omega arith
less before taken after puts item (suc (suc zero)) e f g h i = omega arith
less before taken after puts item (suc (suc (suc n))) e f g h i = absurd (omega arith)

pub fire_lowers : (a : Abstract) → Onward a → (m : Machine) → GoodM a m → (q : ℕ) (m' : Machine) → fire_m a m q ≡ done m' →
    mass_of a m' < mass_of a m
fire_lowers a onward m g q m' h =
    let f = fire_takes_one a m q m' h in
    let o = op_in a f.place in
    let r : Result = effect o f.item m.vars in
    let w = weight a.ops in
    let c : cursor_good o m.vars ≡ true =
    all_get_d (λ (p : Op). cursor_good p m.vars) a.ops (double 0 0 0) g.cursors f.place f.within in
    let e : w q ≡ 3 ^ (length a.ops - suc f.place) =
    weight_of_reader a.ops (double 0 0 0) f.place q f.within f.reader
    (λ j l n. onward.one_reader f.place j q f.within l f.reader n) in
    let third : (p : ℕ) → member p r.puts ≡ true → 3 * w p ≤ w q = λ p n.
    rw e
    (weight_behind a.ops (double 0 0 0) f.place p f.within
    (λ j l k. onward.reader_behind f.place j p f.within l (effect_puts_defined o f.item m.vars p c n) k)) in
    let low : mass_of a (record { queues = put_all (set m.queues q f.rest) r.puts r.item; vars = r.vars }) < mass_of a m =
    less (mass_of a m) (mass w 0 (set m.queues q f.rest)) _ (sum (map w r.puts)) (w q) (length r.puts)
    (ap (λ (n : ℕ). mass w 0 (set m.queues q f.rest) + w n) (omega arith)
    ∙ mass_taken w 0 m.queues q f.item f.rest f.queue)
    (mass_puts w (set m.queues q f.rest) r.puts r.item)
    (thirds w r.puts (w q) third)
    (effect_puts_few o f.item m.vars)
    (rw e (power_positive (length a.ops - suc f.place))) in
    rw f.next low
