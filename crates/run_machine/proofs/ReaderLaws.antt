-- Laws of the table of readers: what it says of each queue, that firing by it is firing, and one turn of the loops that fill it.
-- Assumes nothing.
use mathlib.Core.Path.{◌≡◌, refl, sym, ap, ap₂, ◌∙◌}
use mathlib.Core.Logic.{⊎_elim}
use mathlib.Core.Bool.{Bool, true, false, cond, not, ◌&&◌, ◌||◌}
use mathlib.Core.List.{List, [], ◌∷◌, ◌++◌}
use Prim.Native.Nat.{ℕ, suc, ◌+◌, ◌-◌, ◌<◌, ◌≤◌}
use native.Mathlib.Nat.{sub-zero, sub_self}
use native.Mathlib.Numerals.{add-one}
use native.Mathlib.Omega.{arith}
use lib.Dec.{eqb, ltb}
use lib.ListN.{length, get_or, set, drop, replicate, drop_of_length-le, get_or-eq_default}
use lib.Seq.{drop-cons}
use borrow.Author.Tests.{lt-ltb}
use Rattle.base_lists.specs.Lists.{build, any, member}
use Rattle.base_lists.proofs.Build.{order, never, build_length, build_get_or, build_ext, build_snoc, set_build}
use Rattle.base_lists.proofs.Tests.{neither, none_of_each, false_of, cond_le, cond_ge}
use Rattle.base_lists.proofs.Places.{get_or_next}
use Rattle.sheet_operator.specs.Op.{Op, Abstract, reads}
use Rattle.base_bounds.specs.Bounds.{OPERATORS, QUEUES}
use Rattle.run_machine.specs.Machine.{Machine, Outcome, refuse, fire_op, fire_first, fire_m, is_output}
use Rattle.run_machine.specs.Readers.{reader_from, readers_of, readers_with}

-- some operator reads q
abbrev pub is_read : List Op → ℕ → Bool
is_read os q = any (λ (o : Op). member q (reads o)) os

-- where each operator reads only queues below n, none reads a queue from n on
pub unread_past : (os : List Op) (d : Op) (n q : ℕ) → ((i p : ℕ) → i < length os → member p (reads (get_or os i d)) ≡ true → p < n) →
    n ≤ q → is_read os q ≡ false
unread_past os d n q h l =
    none_of_each (λ (o : Op). member q (reads o)) d os (λ i b. false_of (member q (reads (get_or os i d))) (λ e. omega (arith, h i q b e)))

-- firing what no operator reads
pub fire_unread : (os : List Op) (m : Machine) (q : ℕ) → is_read os q ≡ false → fire_first os m q ≡ refuse 9
unfolding fire_first
fire_unread [] m q h = refl
fire_unread (o ∷ os) m q h = let p = neither (member q (reads o)) (is_read os q) h in rw p.0 (fire_unread os m q p.1)

-- the reader of a queue that none reads
pub reader_of_none : (os : List Op) (i q : ℕ) → is_read os q ≡ false → reader_from os i q ≡ OPERATORS
reader_of_none [] i q h = refl
reader_of_none (o ∷ os) i q h = let p = neither (member q (reads o)) (is_read os q) h in rw p.0 (reader_of_none os (suc i) q p.1)

-- a reader's place is from i on, and OPERATORS at most
pub reader_below : (os : List Op) (i q : ℕ) → i + length os ≤ OPERATORS → reader_from os i q ≤ OPERATORS
reader_below [] i q h = omega arith
reader_below (o ∷ os) i q h = cond_le (member q (reads o)) i (reader_from os (suc i) q) OPERATORS (omega arith) (reader_below os (suc i) q (omega arith))

pub reader_from_lem : (os : List Op) (i q : ℕ) → i + length os ≤ OPERATORS → i ≤ reader_from os i q
reader_from_lem [] i q h = omega arith
reader_from_lem (o ∷ os) i q h =
    cond_ge (member q (reads o)) i (reader_from os (suc i) q) i (omega arith) (omega (arith, reader_from_lem os (suc i) q (omega arith)))

-- a queue has a reader exactly if an operator reads it
found_step : (b : Bool) (i r : ℕ) (s : Bool) → i < OPERATORS → ltb r OPERATORS ≡ s → ltb (cond b i r) OPERATORS ≡ (b || s)
found_step true i r s h e = lt-ltb i OPERATORS h
found_step false i r s h e = e

pub reader_found : (os : List Op) (i q : ℕ) → i + length os ≤ OPERATORS → ltb (reader_from os i q) OPERATORS ≡ is_read os q
reader_found [] i q h = refl
reader_found (o ∷ os) i q h =
    found_step (member q (reads o)) i (reader_from os (suc i) q) (is_read os q) (omega arith) (reader_found os (suc i) q (omega arith))

-- and it is one that does
reads_step : (o : Op) (os : List Op) (i q r : ℕ) (d : Op) (b : Bool) → member q (reads o) ≡ b → suc i ≤ r →
    (b ≡ false → member q (reads (get_or os (r - suc i) d)) ≡ true) → member q (reads (get_or (o ∷ os) (cond b i r - i) d)) ≡ true
reads_step o os i q r d true e l h = ap (λ (k : ℕ). member q (reads (get_or (o ∷ os) k d))) (sub_self i) ∙ e
reads_step o os i q r d false e l h = ap (λ (x : Op). member q (reads x)) (get_or_next o os r i d l) ∙ h refl

pub reader_reads : (os : List Op) (i q : ℕ) (d : Op) → i + length os ≤ OPERATORS → is_read os q ≡ true →
    member q (reads (get_or os (reader_from os i q - i) d)) ≡ true
reader_reads [] i q d h l = never l
reader_reads (o ∷ os) i q d h l =
    reads_step o os i q (reader_from os (suc i) q) d (member q (reads o)) refl (reader_from_lem os (suc i) q (omega arith))
    (λ e. reader_reads os (suc i) q d (omega arith) (sym (ap (λ (b : Bool). b || is_read os q) e) ∙ l))

-- firing an operator that was found, 9 where none was
abbrev pub fire_found : Bool → Op → Machine → ℕ → Outcome
fire_found true o m q = fire_op o m q
fire_found false o m q = refuse 9

-- firing is firing the reader
fire_step : (o : Op) (os : List Op) (m : Machine) (i q r : ℕ) (d : Op) (b : Bool) → i < OPERATORS → suc i ≤ r →
    fire_first os m q ≡ fire_found (ltb r OPERATORS) (get_or os (r - suc i) d) m q →
    cond b (fire_op o m q) (fire_first os m q) ≡ fire_found (ltb (cond b i r) OPERATORS) (get_or (o ∷ os) (cond b i r - i) d) m q
fire_step o os m i q r d true h l e =
    sym (ap₂ (λ (t : Bool) (k : ℕ). fire_found t (get_or (o ∷ os) k d) m q) (lt-ltb i OPERATORS h) (sub_self i))
fire_step o os m i q r d false h l e = e ∙ ap (λ (x : Op). fire_found (ltb r OPERATORS) x m q) (sym (get_or_next o os r i d l))

fire_from_lem : (os : List Op) (m : Machine) (i q : ℕ) (d : Op) → i + length os ≤ OPERATORS →
    fire_first os m q ≡ fire_found (ltb (reader_from os i q) OPERATORS) (get_or os (reader_from os i q - i) d) m q
unfolding fire_first
fire_from_lem [] m i q d h = refl
fire_from_lem (o ∷ os) m i q d h =
    fire_step o os m i q (reader_from os (suc i) q) d (member q (reads o)) (omega arith) (reader_from_lem os (suc i) q (omega arith))
    (fire_from_lem os m (suc i) q d (omega arith))

pub fire_by_reader : (a : Abstract) (m : Machine) (q : ℕ) (d : Op) → length a.ops ≤ OPERATORS →
    fire_m a m q ≡ fire_found (ltb (reader_from a.ops 0 q) OPERATORS) (get_or a.ops (reader_from a.ops 0 q) d) m q
fire_by_reader a m q d h =
    fire_from_lem a.ops m 0 q d (omega arith)
    ∙ ap (λ (k : ℕ). fire_found (ltb (reader_from a.ops 0 q) OPERATORS) (get_or a.ops k d) m q) (sub-zero (reader_from a.ops 0 q))

-- the table's elements
pub reader_at_lem : (os : List Op) (q : ℕ) → q < QUEUES → get_or (readers_of os) q OPERATORS ≡ reader_from os 0 q
reader_at_lem os q h = build_get_or QUEUES (reader_from os 0) OPERATORS q h

pub reader_past : (os : List Op) (q : ℕ) → QUEUES ≤ q → get_or (readers_of os) q OPERATORS ≡ OPERATORS
reader_past os q h = get_or-eq_default (readers_of os) OPERATORS {n = q} (omega (arith, build_length QUEUES (reader_from os 0)))

pub reader_any : (os : List Op) (d : Op) → ((i p : ℕ) → i < length os → member p (reads (get_or os i d)) ≡ true → p < QUEUES) →
    (q : ℕ) → get_or (readers_of os) q OPERATORS ≡ reader_from os 0 q
reader_any os d h q =
    ⊎_elim (λ (l : q < QUEUES). reader_at_lem os q l)
    (λ (l : QUEUES ≤ q). reader_past os q l ∙ sym (reader_of_none os 0 q (unread_past os d QUEUES q h l)))
    (order q QUEUES)

-- so firing by the table is firing, where operators read only queues that the table has
pub fire_by_table : (a : Abstract) (m : Machine) (q : ℕ) (d : Op) → length a.ops ≤ OPERATORS →
    ((i p : ℕ) → i < length a.ops → member p (reads (get_or a.ops i d)) ≡ true → p < QUEUES) →
    fire_m a m q
    ≡ fire_found (ltb (get_or (readers_of a.ops) q OPERATORS) OPERATORS) (get_or a.ops (get_or (readers_of a.ops) q OPERATORS) d) m q
fire_by_table a m q d h o =
    fire_by_reader a m q d h ∙ ap (λ (k : ℕ). fire_found (ltb k OPERATORS) (get_or a.ops k d) m q) (sym (reader_any a.ops d o q))

-- and an output is a queue without a reader
pub output_by_reader : (a : Abstract) (q : ℕ) → length a.ops ≤ OPERATORS →
    is_output a q ≡ (ltb q a.queues && not (ltb (reader_from a.ops 0 q) OPERATORS))
output_by_reader a q h = ap (λ (b : Bool). ltb q a.queues && not b) (sym (reader_found a.ops 0 q (omega arith)))

-- the stores of one operator
either : (b c : Bool) (i x : ℕ) → cond b i (cond c i x) ≡ cond (c || b) i x
either true true i x = refl
either true false i x = refl
either false true i x = refl
either false false i x = refl

pub readers_with_lem : (n : ℕ) (f : ℕ → ℕ) (qs : List ℕ) (i : ℕ) → readers_with (build n f) qs i ≡ build n (λ (k : ℕ). cond (member k qs) i (f k))
readers_with_lem n f [] i = refl
readers_with_lem n f (q ∷ qs) i =
    ap (λ (r : List ℕ). readers_with r qs i) (set_build n f q i)
    ∙ readers_with_lem n (λ (k : ℕ). cond (eqb k q) i (f k)) qs i
    ∙ build_ext n (λ (k : ℕ). cond (member k qs) i (cond (eqb k q) i (f k))) (λ (k : ℕ). cond (eqb k q || member k qs) i (f k))
    (λ k l. either (member k qs) (eqb k q) i (f k))

pub readers_append : (r qs ps : List ℕ) (i : ℕ) → readers_with r (qs ++ ps) i ≡ readers_with (readers_with r qs i) ps i
readers_append r [] ps i = refl
readers_append r (q ∷ qs) ps i = readers_append (set r q i) qs ps i

pub readers_more : (r : List ℕ) (j : ℕ) (g : ℕ → ℕ) (i : ℕ) → readers_with r (build (j + 1) g) i ≡ set (readers_with r (build j g) i) (g j) i
readers_more r j g i = ap (λ (l : List ℕ). readers_with r l i) (build_snoc j g) ∙ readers_append r (build j g) (g j ∷ []) i

-- the operators from the last to the first
pub readers_step : (o : Op) (os : List Op) (i : ℕ) →
    readers_with (build QUEUES (reader_from os (suc i))) (reads o) i ≡ build QUEUES (reader_from (o ∷ os) i)
readers_step o os i = readers_with_lem QUEUES (reader_from os (suc i)) (reads o) i

pub readers_none : (i : ℕ) → build QUEUES (reader_from [] i) ≡ replicate QUEUES OPERATORS
readers_none i = refl

pub readers_turn : (os : List Op) (i : ℕ) (d : Op) → i < length os →
    readers_with (build QUEUES (reader_from (drop (i + 1) os) (i + 1))) (reads (get_or os i d)) i ≡ build QUEUES (reader_from (drop i os) i)
readers_turn os i d h = rw (add-one, drop-cons os i d) (readers_step (get_or os i d) (drop (suc i) os) i)

pub readers_start : (os : List Op) (i : ℕ) → length os ≤ i → build QUEUES (reader_from (drop i os) i) ≡ replicate QUEUES OPERATORS
readers_start os i h = ap (λ (l : List Op). build QUEUES (reader_from l i)) (drop_of_length-le os h) ∙ readers_none i
