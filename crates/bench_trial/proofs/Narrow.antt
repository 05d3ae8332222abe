-- Every field and variable of a machine that was fed from bytes is a signed 32-bit number, and firings keep that.
-- Assumes nothing.
use mathlib.Core.Path.{◌≡◌, refl, sym, subst}
use mathlib.Core.Logic.{⊎_elim}
use mathlib.Core.Bool.{Bool, true, false, cond}
use mathlib.Core.List.{List, [], ◌∷◌, ◌++◌}
use Prim.Native.Nat.{ℕ, zero, suc, ◌+◌, ◌*◌, ◌%◌, ◌^◌, ◌≤◌, ◌<◌}
use native.Mathlib.Nat.{mod-lt}
use native.Mathlib.Omega.{arith}
use lib.Dec.{lit<}
use lib.ListN.{length, get_or, set, drop, replicate}
use lib.Seq.{get_or-set_same, get_or-set_other, set_out}
use lib.IntN.{ℤ, pos}
use lib.Signed.{mag}
use mir.Syntax.{w32}
use mir.Val.{of_z}
use mir.Facts.{sfits_to_z}
use Rattle.base_number.specs.Number.{bits_of, int_of, between}
use Rattle.base_lists.specs.Lists.{build}
use Rattle.base_lists.proofs.Build.{order, same_or}
use Rattle.sheet_step.specs.declared.Func.{Func}
use Rattle.sheet_step.specs.declared.Func.TheVariants.{None, Keep, Add, Copy, Count, Stamp}
use Rattle.sheet_step.specs.declared.Step.{Step}
use Rattle.sheet_operator.specs.Op.{Op, line, latest, double, deal, gather, Abstract}
use Rattle.sheet_operator.proofs.ViewLaws.{Small}
use Rattle.base_bounds.specs.Bounds.{VARIABLES, QUEUES, FIELDS}
use Rattle.run_store.specs.declared.Item.{Item}
use Rattle.run_effect.specs.declared.Flow.{Flow}
use Rattle.run_effect.specs.Flow.{field_of, var_of, add_of, does, stepped, lined}
use Rattle.run_effect.specs.Effect.{Result, effect, cursor_at}
use Rattle.run_machine.specs.Machine.{Machine, Outcome, refuse, done, put_all, fire_m, feed_m, Ran, ran_on, run_from}
use Rattle.run_machine.proofs.Firing.{fire_takes_one, feed_puts_one}
use Rattle.run_machine.proofs.Sound.{op_in, Sound}
use Rattle.bench_records.specs.Records.{item_at, start}
use Rattle.sheet_format.specs.Record.{HEADER}
use Rattle.sheet_format.proofs.Fronts.{drop_below}

-- ---- a property of every element, and of the one past the end

module _ {A : Type 0} (P : A → Type 0) (d : A) where
  each_set : (l : List A) (i : ℕ) (z : A) → ((k : ℕ) → P (get_or l k d)) → P z → (k : ℕ) → P (get_or (set l i z) k d)
  each_set l i z h p k =
      ⊎_elim
      (λ (e : k ≡ i).
      ⊎_elim (λ (b : i < length l). rw (e, get_or-set_same l i z d b) p) (λ (b : length l ≤ i). rw (set_out l i z b) (h k)) (order i (length l)))
      (λ (ne : k ≡ i → ⊥). rw (get_or-set_other l i k z d ne) (h k))
      (same_or k i)

  each_snoc : (l : List A) (z : A) → ((k : ℕ) → P (get_or l k d)) → P z → (k : ℕ) → P (get_or (l ++ (z ∷ [])) k d)
  each_snoc [] z h p zero = p
  each_snoc [] z h p (suc k) = h 0
  each_snoc (x ∷ l) z h p zero = h 0
  each_snoc (x ∷ l) z h p (suc k) = each_snoc l z (λ j. h (suc j)) p k

  each_same : (n : ℕ) → P d → (k : ℕ) → P (get_or (replicate n d) k d)
  each_same zero p k = p
  each_same (suc n) p zero = p
  each_same (suc n) p (suc k) = each_same n p k

-- ---- signed 32-bit numbers

abbrev pub Narrow : ℤ → Type 0
Narrow z = mag z < 2 ^ 31

abbrev pub NarrowAll : List ℤ → Type 0
NarrowAll l = (k : ℕ) → Narrow (get_or l k (pos 0))

abbrev pub no_fields : Item
no_fields = record { f = [] }

abbrev pub NarrowItem : Item → Type 0
NarrowItem x = NarrowAll x.f

abbrev pub NarrowQueue : List Item → Type 0
NarrowQueue xs = (k : ℕ) → NarrowItem (get_or xs k no_fields)

pub record NarrowM (m : Machine) : Type 0 where
  pub queues : (q : ℕ) → NarrowQueue (get_or m.queues q [])
  pub vars : NarrowAll m.vars

zero_narrow : Narrow (pos 0)
zero_narrow = lit< tt

sum_narrow : (a b : ℤ) → Narrow (add_of a b)
sum_narrow a b = (sfits_to_z {w = w32} (record { fits = mod-lt (of_z w32 a + of_z w32 b) (lit< tt) })).sfits

-- ---- an operator's effect

record NarrowFlow (x : Flow) : Type 0 where
  pub item : NarrowAll x.item.f
  pub vars : NarrowAll x.vars

narrow_if : (b : Bool) (x y : Flow) → NarrowFlow x → NarrowFlow y → NarrowFlow (cond b x y)
narrow_if true x y h k = h
narrow_if false x y h k = k

does_narrow : (f : Func) (s : Step) (x : Flow) → NarrowFlow x → NarrowFlow (does f s x)
unfolding does
does_narrow None s x h = h
does_narrow Keep s x h = narrow_if (between s.low (field_of x s.p) s.high) x _ h (record { item = h.item; vars = h.vars })
does_narrow Add s x h =
    record { item = each_set Narrow (pos 0) x.item.f s.p _ h.item (sum_narrow (field_of x s.p) s.low); vars = h.vars }
does_narrow Copy s x h = record { item = each_set Narrow (pos 0) x.item.f s.r _ h.item (h.item s.p); vars = h.vars }
does_narrow Count s x h =
    record {
      item = each_set Narrow (pos 0) x.item.f s.p _ h.item (sum_narrow (var_of x s.variable) (pos 1));
      vars = each_set Narrow (pos 0) x.vars s.variable _ h.vars (sum_narrow (var_of x s.variable) (pos 1));
    }
does_narrow Stamp s x h = record { item = each_set Narrow (pos 0) x.item.f s.p _ h.item (h.vars s.variable); vars = h.vars }

stepped_narrow : (s : Step) (x : Flow) → NarrowFlow x → NarrowFlow (stepped s x)
unfolding stepped
stepped_narrow s x h = narrow_if x.kept (does s.func s x) x (does_narrow s.func s x h) h

lined_narrow : (ss : List Step) (x : Flow) → NarrowFlow x → NarrowFlow (lined ss x)
lined_narrow [] x h = h
lined_narrow (s ∷ ss) x h = lined_narrow ss (stepped s x) (stepped_narrow s x h)

record NarrowResult (r : Result) : Type 0 where
  pub item : NarrowItem r.item
  pub vars : NarrowAll r.vars

ways_narrow : (c n : ℕ) → 2 ≤ n → n ≤ 4 → Narrow (pos ((c + 1) % n))
ways_narrow c n a b = omega (arith, mod-lt (c + 1) {m = n} (omega arith))

effect_narrow : (o : Op) → Small o → (x : Item) (vs : List ℤ) → NarrowItem x → NarrowAll vs → NarrowResult (effect o x vs)
unfolding effect
effect_narrow (line p q ss) s x vs h k =
    let f = lined_narrow ss (record { kept = true; item = x; vars = vs }) (record { item = h; vars = k }) in
    record { item = f.item; vars = f.vars }
effect_narrow (latest p v f) s x vs h k = record { item = h; vars = each_set Narrow (pos 0) vs v _ k (h f) }
effect_narrow (double p q r) s x vs h k = record { item = h; vars = k }
effect_narrow (deal c p qs) s x vs h k =
    record { item = h; vars = each_set Narrow (pos 0) vs c _ k (ways_narrow (cursor_at c vs) (length qs) s.0 s.1) }
effect_narrow (gather c q ps) s x vs h k =
    record { item = h; vars = each_set Narrow (pos 0) vs c _ k (ways_narrow (cursor_at c vs) (length ps) s.0 s.1) }

-- ---- feeds, firings and runs

puts_narrow : (qs : List (List Item)) (to : List ℕ) (x : Item) → ((q : ℕ) → NarrowQueue (get_or qs q [])) → NarrowItem x →
    (q : ℕ) → NarrowQueue (get_or (put_all qs to x) q [])
puts_narrow qs [] x h k = h
puts_narrow qs (r ∷ to) x h k =
    puts_narrow (set qs r (get_or qs r [] ++ (x ∷ []))) to x
    (each_set NarrowQueue [] qs r (get_or qs r [] ++ (x ∷ [])) h (each_snoc NarrowItem no_fields (get_or qs r []) x (h r) k)) k

pub feed_narrow : (a : Abstract) (m m' : Machine) (q : ℕ) (x : Item) → feed_m a m q x ≡ done m' → NarrowM m → NarrowItem x → NarrowM m'
feed_narrow a m m' q x e h k =
    let f = feed_puts_one a m q x m' e in
    subst (λ (n : Machine). NarrowM n) (sym f.next)
    (record {
      queues = each_set NarrowQueue [] m.queues q _ h.queues (each_snoc NarrowItem no_fields (get_or m.queues q []) x (h.queues q) k);
      vars = h.vars;
    })

fire_narrow : (a : Abstract) → Sound a → (m m' : Machine) (q : ℕ) → fire_m a m q ≡ done m' → NarrowM m → NarrowM m'
fire_narrow a s m m' q e h =
    let f = fire_takes_one a m q m' e in
    let all : NarrowQueue (f.item ∷ f.rest) = subst NarrowQueue f.queue (h.queues q) in
    let w = effect (op_in a f.place) f.item m.vars in
    let r = effect_narrow (op_in a f.place) (s.each f.place f.within).small f.item m.vars (all 0) h.vars in
    subst (λ (n : Machine). NarrowM n) (sym f.next)
    (record {
      queues = puts_narrow (set m.queues q f.rest) w.puts w.item
          (each_set NarrowQueue [] m.queues q f.rest h.queues (λ k. all (suc k))) r.item;
      vars = r.vars;
    })

pub run_narrow : (a : Abstract) → Sound a → (qs : List ℕ) (r : Ran) → NarrowM r.machine → NarrowM (run_from a qs r).machine
unfolding run_from
run_narrow a s [] r h = h
run_narrow a s (q ∷ qs) r h = run_narrow a s qs (ran_on (fire_m a r.machine q) r) (go (fire_m a r.machine q) refl)
  where
    go : (o : Outcome) → fire_m a r.machine q ≡ o → NarrowM (ran_on o r).machine
    go (refuse k) e = h
    go (done m) e = fire_narrow a s r.machine m q e h

-- ---- an item from bytes

bits_small : (s : List ℕ) → ((k : ℕ) → get_or s k 0 < 256) → bits_of s < 2 ^ 32
unfolding bits_of
bits_small s b = omega (arith, b 0, b 1, b 2, b 3)

int_narrow : (s : List ℕ) → ((k : ℕ) → get_or s k 0 < 256) → Narrow (int_of s)
int_narrow s b = (sfits_to_z {w = w32} (record { fits = bits_small s b })).sfits

built_narrow : (n : ℕ) (g : ℕ → ℤ) → ((k : ℕ) → Narrow (g k)) → NarrowAll (build n g)
built_narrow zero g h k = zero_narrow
built_narrow (suc n) g h zero = h 0
built_narrow (suc n) g h (suc k) = built_narrow n (λ (j : ℕ). g (suc j)) (λ j. h (suc j)) k

pub item_narrow : (s : List ℕ) → ((k : ℕ) → get_or s k 0 < 256) → NarrowItem (item_at s)
unfolding item_at
item_narrow s b =
    built_narrow FIELDS (λ (k : ℕ). int_of (drop (HEADER + 1 + 4 * k) s))
    (λ k. int_narrow (drop (HEADER + 1 + 4 * k) s) (drop_below (HEADER + 1 + 4 * k) s b))

-- ---- a fresh start

queue_none : NarrowQueue []
queue_none k j = zero_narrow

pub start_narrow : NarrowM start
start_narrow = record { queues = each_same NarrowQueue [] QUEUES queue_none; vars = each_same Narrow (pos 0) VARIABLES zero_narrow }
