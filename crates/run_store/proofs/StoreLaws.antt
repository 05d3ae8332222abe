-- The store of queues of items: its length and parts, what a push, a take and a look at the oldest item are on the queues, and the queues read back from it.
-- Assumes nothing.
use mathlib.Core.Path.{◌≡◌, refl, sym, ap, ap₂, ◌∙◌}
use mathlib.Core.List.{List, [], ◌∷◌, ◌++◌, map, append_assoc}
use Prim.Native.Nat.{ℕ, zero, suc, ◌+◌, ◌*◌, ◌≤◌, ◌<◌, suc-le-suc}
use native.Mathlib.Nat.{not-suc-le-zero, le_of_suc-le-suc, add-zero, zero-add, zero-lt-suc}
use native.Mathlib.Omega.{arith}
use lib.ListN.{length, get_or, set, take, drop, replicate, length-append, replicate-append-replicate}
use lib.Seq.{take_at as take_at_seq, drop_at, drop-append-add, take-append-add}
use lib.IntN.{ℤ, pos}
use Rattle.base_lists.proofs.Pad.{pad_replicate}
use Rattle.run_store.specs.declared.Item.{Item}
use Rattle.run_store.specs.Store.{PART, part, with_part, pushed, without_oldest, push_at, take_at}
use Rattle.base_bounds.specs.Bounds.{ROOM, FIELDS}
use Rattle.run_store.specs.Queues.{encode_items, queue_part, store_of, items_of, queues_of, Fit, Wide, AllWide}
use Rattle.run_store.proofs.QueueLaws.{length_queue, length_items, pushed_queue, taken_queue, items_of_queue}

pub length_store : (qs : List (List Item)) → length (store_of qs) ≡ PART * length qs
unfolding store_of
length_store [] = refl
length_store (xs ∷ qs) = length-append (queue_part xs) (store_of qs) ∙ omega (arith, length_queue xs, length_store qs)

-- queues with no items are zeros
zeros_queue : queue_part [] ≡ replicate PART (pos 0)
unfolding queue_part encode_items
zeros_queue = pad_replicate PART (pos 0)

pub zeros_store : (n : ℕ) → store_of (replicate n []) ≡ replicate (PART * n) (pos 0)
unfolding store_of
zeros_store zero = refl
zeros_store (suc n) =
    let e : PART + PART * n ≡ PART * suc n = omega arith in
    ap₂ (λ (a b : List ℤ). a ++ b) zeros_queue (zeros_store n) ∙ replicate-append-replicate PART (PART * n) (pos 0)
    ∙ ap (λ (k : ℕ). replicate k (pos 0)) e

-- ---- the part of a queue, and the store with another list there

next : (q : ℕ) (xs : List Item) → PART * suc q ≡ length (queue_part xs) + PART * q
next q xs = omega (arith, length_queue xs)

pub part_store : (qs : List (List Item)) (q : ℕ) → q < length qs → part (store_of qs) q ≡ queue_part (get_or qs q [])
unfolding part store_of
part_store [] q h = absurd (not-suc-le-zero h)
part_store (xs ∷ qs) zero h = take_at_seq (queue_part xs) (store_of qs) PART (length_queue xs)
part_store (xs ∷ qs) (suc q) h =
    ap (λ (k : ℕ). take PART (drop k (queue_part xs ++ store_of qs))) (next q xs)
    ∙ ap (take PART) (drop-append-add (queue_part xs) (store_of qs) (PART * q)) ∙ part_store qs q (le_of_suc-le-suc h)

pub put_store : (qs : List (List Item)) (q : ℕ) (ys : List Item) → q < length qs → with_part (store_of qs) q (queue_part ys) ≡ store_of (set qs q ys)
unfolding with_part store_of
put_store [] q ys h = absurd (not-suc-le-zero h)
put_store (xs ∷ qs) zero ys h = ap (λ (l : List ℤ). queue_part ys ++ l) (drop_at (queue_part xs) (store_of qs) PART (length_queue xs))
put_store (xs ∷ qs) (suc q) ys h =
    ap (λ (k : ℕ). take k (queue_part xs ++ store_of qs) ++ (queue_part ys ++ drop PART (drop k (queue_part xs ++ store_of qs)))) (next q xs)
    ∙ ap (λ (l : List ℤ). l ++ (queue_part ys ++ drop PART (drop (length (queue_part xs) + PART * q) (queue_part xs ++ store_of qs))))
    (take-append-add (queue_part xs) (store_of qs) (PART * q))
    ∙ ap (λ (l : List ℤ). queue_part xs ++ take (PART * q) (store_of qs) ++ (queue_part ys ++ drop PART l))
    (drop-append-add (queue_part xs) (store_of qs) (PART * q))
    ∙ append_assoc (queue_part xs) (take (PART * q) (store_of qs)) (queue_part ys ++ drop PART (drop (PART * q) (store_of qs)))
    ∙ ap (λ (l : List ℤ). queue_part xs ++ l) (put_store qs q ys (le_of_suc-le-suc h))

-- ---- a push and a take change one queue and nothing else

pub push_store : (qs : List (List Item)) (q : ℕ) (x : Item) → q < length qs → length (get_or qs q []) < ROOM →
    push_at (store_of qs) q (length (get_or qs q [])) x ≡ store_of (set qs q (get_or qs q [] ++ (x ∷ [])))
unfolding push_at
push_store qs q x h l =
    ap (λ (p : List ℤ). with_part (store_of qs) q (pushed p (length (get_or qs q [])) x)) (part_store qs q h)
    ∙ ap (with_part (store_of qs) q) (pushed_queue (get_or qs q []) x l) ∙ put_store qs q (get_or qs q [] ++ (x ∷ [])) h

pub take_store : (qs : List (List Item)) (q : ℕ) (x : Item) (xs : List Item) → q < length qs → get_or qs q [] ≡ x ∷ xs → length xs < ROOM →
    take_at (store_of qs) q ≡ store_of (set qs q xs)
unfolding take_at
take_store qs q x xs h e l =
    ap (λ (p : List ℤ). with_part (store_of qs) q (without_oldest p)) (part_store qs q h ∙ ap queue_part e)
    ∙ ap (with_part (store_of qs) q) (taken_queue x xs l) ∙ put_store qs q xs h

-- ---- the queues read from a store

pub counts_back : (s : List ℤ) (q : ℕ) (cs : List ℕ) → cs ≡ map length (queues_of s q cs)
unfolding queues_of
counts_back s q [] = refl
counts_back s q (n ∷ cs) = ap₂ (λ (a : ℕ) (l : List ℕ). a ∷ l) (sym (length_items n (part s q))) (counts_back s (suc q) cs)

shift : (q i : ℕ) → suc q + i ≡ q + suc i
shift q i = omega arith

pub queue_at_lem : (s : List ℤ) (j : ℕ) (cs : List ℕ) (q : ℕ) → get_or (queues_of s j cs) q [] ≡ items_of (get_or cs q 0) (part s (j + q))
unfolding queues_of items_of
queue_at_lem s j [] q = refl
queue_at_lem s j (n ∷ cs) zero = ap (λ (k : ℕ). items_of n (part s k)) (sym (add-zero j))
queue_at_lem s j (n ∷ cs) (suc q) = queue_at_lem s (suc j) cs q ∙ ap (λ (k : ℕ). items_of (get_or cs q 0) (part s k)) (shift j q)

-- a store in which each part from q on is a queue's
abbrev pub Parts : List ℤ → ℕ → List (List Item) → Type 0
Parts s q qs = (i : ℕ) → i < length qs → part s (q + i) ≡ queue_part (get_or qs i [])

pub parts_head : (s : List ℤ) (q : ℕ) (xs : List Item) (qs : List (List Item)) → Parts s q (xs ∷ qs) → part s q ≡ queue_part xs
parts_head s q xs qs h = rw (add-zero q) at (h 0 (zero-lt-suc (length qs)))

pub parts_tail : (s : List ℤ) (q : ℕ) (xs : List Item) (qs : List (List Item)) → Parts s q (xs ∷ qs) → Parts s (suc q) qs
parts_tail s q xs qs h i l = ap (part s) (shift q i) ∙ h (suc i) (suc-le-suc l)

pub parts_store : (qs : List (List Item)) → Parts (store_of qs) 0 qs
parts_store qs i l = ap (part (store_of qs)) (zero-add i) ∙ part_store qs i l

pub fit_tail : (xs : List Item) (qs : List (List Item)) → Fit (xs ∷ qs) → Fit qs
fit_tail xs qs f i l = f (suc i) (suc-le-suc l)

queues_from : (s : List ℤ) (q : ℕ) (qs : List (List Item)) → Fit qs → AllWide qs → Parts s q qs → queues_of s q (map length qs) ≡ qs
unfolding queues_of
queues_from s q [] f w h = refl
queues_from s q (xs ∷ qs) f w h =
    ap₂ (λ (a : List Item) (l : List (List Item)). a ∷ l)
    (ap (items_of (length xs)) (parts_head s q xs qs h) ∙ items_of_queue xs (f 0 (zero-lt-suc (length qs))) w.0)
    (queues_from s (suc q) qs (fit_tail xs qs f) w.1 (parts_tail s q xs qs h))

-- the queues read from the store of queues are those queues
pub queues_back : (qs : List (List Item)) → Fit qs → AllWide qs → queues_of (store_of qs) 0 (map length qs) ≡ qs
queues_back qs f w = queues_from (store_of qs) 0 qs f w (parts_store qs)

-- ---- with one queue changed all fit, and are wide, as before

pub fit_set : (qs : List (List Item)) (q : ℕ) (xs : List Item) → Fit qs → length xs ≤ ROOM → Fit (set qs q xs)
fit_set [] q xs f l i h = absurd (not-suc-le-zero h)
fit_set (ys ∷ qs) zero xs f l zero h = l
fit_set (ys ∷ qs) zero xs f l (suc i) h = f (suc i) h
fit_set (ys ∷ qs) (suc q) xs f l zero h = f 0 (zero-lt-suc (length qs))
fit_set (ys ∷ qs) (suc q) xs f l (suc i) h = fit_set qs q xs (fit_tail ys qs f) l i (le_of_suc-le-suc h)

pub wide_set : (qs : List (List Item)) (q : ℕ) (xs : List Item) → AllWide qs → Wide xs → AllWide (set qs q xs)
wide_set [] q xs w v = tt
wide_set (ys ∷ qs) zero xs w v = (v, w.1)
wide_set (ys ∷ qs) (suc q) xs w v = (w.0, wide_set qs q xs w.1 v)

pub wide_at : (qs : List (List Item)) (q : ℕ) → AllWide qs → Wide (get_or qs q [])
wide_at [] q w = tt
wide_at (xs ∷ qs) zero w = w.0
wide_at (xs ∷ qs) (suc q) w = wide_at qs q w.1

pub wide_append : (xs : List Item) (x : Item) → Wide xs → length x.f ≡ FIELDS → Wide (xs ++ (x ∷ []))
wide_append [] x w v = (v, tt)
wide_append (y ∷ xs) x w v = (w.0, wide_append xs x w.1 v)
