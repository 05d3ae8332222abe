-- A store passes the test exactly if it is a store of queues that fit: it is that of the queues read from it, and each store of queues that fit passes.
-- Assumes nothing.
use mathlib.Core.Path.{◌≡◌, refl, sym, ap, ap₂, ◌∙◌}
use mathlib.Core.Bool.{true}
use mathlib.Core.List.{List, [], ◌∷◌, ◌++◌, map}
use Prim.Native.Nat.{ℕ, zero, suc, ◌+◌, ◌-◌, ◌*◌, ◌≤◌}
use native.Mathlib.Nat.{not-suc-le-zero, le_of_suc-le-suc, zero-lt-suc}
use native.Mathlib.Omega.{arith}
use lib.Dec.{leb}
use lib.ListN.{length, drop, replicate, length-drop, take-append-drop, drop_of_length-le}
use lib.Seq.{drop_at, drop-drop, length-take-le}
use lib.IntN.{ℤ, pos}
use borrow.Author.Tests.{leb-true, le-leb}
use Rattle.base_number.specs.Number.{is_zero}
use Rattle.base_number.proofs.Zero.{zero_of_test}
use Rattle.base_lists.specs.Lists.{all}
use Rattle.base_lists.proofs.Tests.{both}
use Rattle.run_store.specs.declared.Item.{Item}
use Rattle.run_store.specs.Store.{PART, part}
use Rattle.base_bounds.specs.Bounds.{ROOM, FIELDS}
use Rattle.run_store.specs.Queues.{encode_items, queue_part, store_of, items_of, queues_of, Fit, AllWide}
use Rattle.run_store.specs.Quiet.{zeros_past, quiet_queue, quiet_from}
use Rattle.run_store.proofs.QueueLaws.{length_encode, length_items, queue_shape, wide_items, encode_of_items}
use Rattle.run_store.proofs.StoreLaws.{Parts, parts_head, parts_tail, parts_store, fit_tail}

-- ---- a part that passes is that of the items read from it

pub zeros_of_test : (l : List ℤ) → all is_zero l ≡ true → l ≡ replicate (length l) (pos 0)
zeros_of_test [] e = refl
zeros_of_test (x ∷ l) e =
    let b = both (is_zero x) (all is_zero l) e in
    ap₂ (λ (y : ℤ) (r : List ℤ). y ∷ r) (zero_of_test x b.0) (zeros_of_test l b.1)

pub quiet_room : (p : List ℤ) (n : ℕ) → quiet_queue p n ≡ true → n ≤ ROOM
unfolding quiet_queue
quiet_room p n e = leb-true n ROOM (both (leb n ROOM) (zeros_past p (FIELDS * n)) e).0

pub quiet_part : (p : List ℤ) (n : ℕ) → length p ≡ PART → quiet_queue p n ≡ true → p ≡ queue_part (items_of n p)
unfolding quiet_queue
quiet_part p n h e =
    let m : n ≤ ROOM = quiet_room p n e in
    let k : ℕ = PART - FIELDS * n in
    let z = zeros_of_test (drop (FIELDS * n) p) (both (leb n ROOM) (zeros_past p (FIELDS * n)) e).1 in
    let l : length (drop (FIELDS * n) p) ≡ k = length-drop (FIELDS * n) p ∙ omega arith in
    sym (take-append-drop (FIELDS * n) p)
    ∙ ap₂ (λ (a b : List ℤ). a ++ b) (sym (encode_of_items n p (omega arith))) (z ∙ ap (λ (i : ℕ). replicate i (pos 0)) l)
    ∙ sym (queue_shape (items_of n p) k (omega (arith, length_items n p)))

-- ---- a store that passes

length_part : (s : List ℤ) (q : ℕ) → PART * suc q ≤ length s → length (part s q) ≡ PART
unfolding part
length_part s q h = length-take-le PART (drop (PART * q) s) (simp length-drop (omega arith))

-- its parts from q on are those of the queues read from there
store_from : (s : List ℤ) (q : ℕ) (cs : List ℕ) → length s ≡ PART * (q + length cs) → quiet_from s q cs ≡ true → drop (PART * q) s ≡ store_of (queues_of s q cs)
unfolding quiet_from queues_of store_of part
store_from s q [] h e = drop_of_length-le s {i = PART * q} (omega arith)
store_from s q (n ∷ cs) h e =
    let b = both (quiet_queue (part s q) n) (quiet_from s (suc q) cs) e in
    let k : PART * q + PART ≡ PART * suc q = omega arith in
    sym (take-append-drop PART (drop (PART * q) s))
    ∙ ap₂ (λ (x y : List ℤ). x ++ y) (quiet_part (part s q) n (length_part s q (omega arith)) b.0)
    (drop-drop PART (PART * q) s ∙ ap (λ (i : ℕ). drop i s) k ∙ store_from s (suc q) cs (omega arith) b.1)

pub store_back : (s : List ℤ) (cs : List ℕ) → length s ≡ PART * length cs → quiet_from s 0 cs ≡ true → s ≡ store_of (queues_of s 0 cs)
store_back s cs h e = store_from s 0 cs (omega arith) e

pub quiet_fit : (s : List ℤ) (q : ℕ) (cs : List ℕ) → quiet_from s q cs ≡ true → Fit (queues_of s q cs)
unfolding quiet_from queues_of
quiet_fit s q [] e i h = absurd (not-suc-le-zero h)
quiet_fit s q (n ∷ cs) e zero h =
    omega (arith, length_items n (part s q), quiet_room (part s q) n (both (quiet_queue (part s q) n) (quiet_from s (suc q) cs) e).0)
quiet_fit s q (n ∷ cs) e (suc i) h =
    quiet_fit s (suc q) cs (both (quiet_queue (part s q) n) (quiet_from s (suc q) cs) e).1 i (le_of_suc-le-suc h)

pub quiet_wide : (s : List ℤ) (q : ℕ) (cs : List ℕ) → length s ≡ PART * (q + length cs) → quiet_from s q cs ≡ true → AllWide (queues_of s q cs)
unfolding quiet_from queues_of
quiet_wide s q [] h e = tt
quiet_wide s q (n ∷ cs) h e =
    let b = both (quiet_queue (part s q) n) (quiet_from s (suc q) cs) e in
    let m : n ≤ ROOM = quiet_room (part s q) n b.0 in
    (wide_items n (part s q) (omega (arith, length_part s q (omega arith))), quiet_wide s (suc q) cs (omega arith) b.1)

-- ---- a store of queues that fit passes

zeros_pass : (k : ℕ) → all is_zero (replicate k (pos 0)) ≡ true
zeros_pass zero = refl
zeros_pass (suc k) = zeros_pass k

queue_passes : (xs : List Item) → length xs ≤ ROOM → quiet_queue (queue_part xs) (length xs) ≡ true
unfolding quiet_queue
queue_passes xs h =
    let k : ℕ = PART - FIELDS * length xs in
    simp (le-leb (length xs) ROOM h, queue_shape xs k (omega arith), drop_at (encode_items xs) (replicate k (pos 0)) (FIELDS * length xs) (length_encode xs))
    (zeros_pass k)

passes_from : (s : List ℤ) (q : ℕ) (qs : List (List Item)) → Fit qs → Parts s q qs → quiet_from s q (map length qs) ≡ true
unfolding quiet_from
passes_from s q [] f h = refl
passes_from s q (xs ∷ qs) f h =
    rw (parts_head s q xs qs h, queue_passes xs (f 0 (zero-lt-suc (length qs))))
    (passes_from s (suc q) qs (fit_tail xs qs f) (parts_tail s q xs qs h))

pub store_passes : (qs : List (List Item)) → Fit qs → quiet_from (store_of qs) 0 (map length qs) ≡ true
store_passes qs f = passes_from (store_of qs) 0 qs f (parts_store qs)
