-- One queue's part: its length and shape, what a push, a take and a look at the oldest item are on its items, and the items read back from it.
-- Assumes nothing.
use mathlib.Core.Path.{◌≡◌, refl, sym, ap, ap₂, ◌∙◌}
use mathlib.Core.List.{List, [], ◌∷◌, ◌++◌, append_assoc, append-nil}
use Prim.Native.Nat.{ℕ, zero, suc, ◌+◌, ◌-◌, ◌*◌, ◌≤◌, ◌<◌}
use native.Mathlib.Omega.{arith}
use lib.ListN.{length, take, drop, replicate, length-append, length-drop, length-replicate, replicate-append-replicate}
use lib.Seq.{take_at, drop_at, take-add, drop-append-add, length-take-le}
use lib.IntN.{ℤ, pos}
use Rattle.base_lists.specs.Lists.{pad}
use Rattle.base_lists.proofs.Pad.{pad_length, pad_full, pad_add}
use Rattle.run_store.specs.declared.Item.{Item}
use Rattle.run_store.specs.Store.{PART, fields, pushed, without_oldest, first_of}
use Rattle.base_bounds.specs.Bounds.{ROOM, FIELDS}
use Rattle.run_store.specs.Queues.{encode_items, queue_part, items_of, Wide}

abbrev zeros : ℕ → List ℤ
zeros n = replicate n (pos 0)

-- ---- lengths

pub length_fields : (x : Item) → length (fields x) ≡ FIELDS
unfolding fields
length_fields x = pad_length FIELDS (pos 0) x.f

pub length_encode : (xs : List Item) → length (encode_items xs) ≡ FIELDS * length xs
unfolding encode_items
length_encode [] = refl
length_encode (x ∷ xs) = length-append (fields x) (encode_items xs) ∙ omega (arith, length_fields x, length_encode xs)

pub length_queue : (xs : List Item) → length (queue_part xs) ≡ PART
unfolding queue_part
length_queue xs = pad_length PART (pos 0) (encode_items xs)

pub length_items : (n : ℕ) (p : List ℤ) → length (items_of n p) ≡ n
unfolding items_of
length_items zero p = refl
length_items (suc n) p = ap suc (length_items n (drop FIELDS p))

-- ---- a queue that fits is its items and then zeros

pub queue_shape : (xs : List Item) (k : ℕ) → FIELDS * length xs + k ≡ PART → queue_part xs ≡ encode_items xs ++ replicate k (pos 0)
unfolding queue_part
queue_shape xs k e =
    let n : PART ≡ length (encode_items xs) + k = omega (arith, length_encode xs) in
    ap (λ (m : ℕ). pad m (pos 0) (encode_items xs)) n ∙ pad_add k (pos 0) (encode_items xs)

-- ---- a take: the oldest item goes

pub taken_queue : (x : Item) (xs : List Item) → length xs < ROOM → without_oldest (queue_part (x ∷ xs)) ≡ queue_part xs
unfolding without_oldest encode_items
taken_queue x xs h =
    let k : ℕ = PART - FIELDS * suc (length xs) in
    let e : FIELDS * suc (length xs) + k ≡ PART = omega arith in
    ap without_oldest (queue_shape (x ∷ xs) k e)
    ∙ ap (λ (l : List ℤ). l ++ zeros FIELDS)
    (ap (drop FIELDS) (append_assoc (fields x) (encode_items xs) (zeros k)) ∙ drop_at (fields x) (encode_items xs ++ zeros k) FIELDS (length_fields x))
    ∙ append_assoc (encode_items xs) (zeros k) (zeros FIELDS)
    ∙ ap (λ (l : List ℤ). encode_items xs ++ l) (replicate-append-replicate k FIELDS (pos 0))
    ∙ sym (queue_shape xs (k + FIELDS) (omega arith))

-- ---- a push: one more item after the others

encode_append : (xs : List Item) (x : Item) → encode_items (xs ++ (x ∷ [])) ≡ encode_items xs ++ fields x
unfolding encode_items
encode_append [] x = append-nil (fields x)
encode_append (y ∷ xs) x =
    ap (λ (l : List ℤ). fields y ++ l) (encode_append xs x) ∙ sym (append_assoc (fields y) (encode_items xs) (fields x))

drop_zeros : (k n : ℕ) → drop k (zeros (k + n)) ≡ zeros n
drop_zeros k n =
    ap (drop k) (sym (replicate-append-replicate k n (pos 0))) ∙ drop_at (zeros k) (zeros n) k (length-replicate k (pos 0))

pub pushed_queue : (xs : List Item) (x : Item) → length xs < ROOM → pushed (queue_part xs) (length xs) x ≡ queue_part (xs ++ (x ∷ []))
unfolding pushed
pushed_queue xs x h =
    let at : ℕ = FIELDS * length xs in
    let k : ℕ = PART - FIELDS * suc (length xs) in
    let l : length (encode_items xs) ≡ at = length_encode xs in
    let s : queue_part xs ≡ encode_items xs ++ zeros (FIELDS + k) = queue_shape xs (FIELDS + k) (omega arith) in
    let n : length (xs ++ (x ∷ [])) ≡ suc (length xs) = length-append xs (x ∷ []) ∙ omega arith in
    ap (λ (p : List ℤ). take at p ++ fields x ++ drop (at + FIELDS) p) s
    ∙ ap (λ (t : List ℤ). t ++ fields x ++ drop (at + FIELDS) (encode_items xs ++ zeros (FIELDS + k))) (take_at (encode_items xs) (zeros (FIELDS + k)) at l)
    ∙ ap (λ (t : List ℤ). encode_items xs ++ fields x ++ t)
    (ap (λ (i : ℕ). drop (i + FIELDS) (encode_items xs ++ zeros (FIELDS + k))) (sym l)
    ∙ drop-append-add (encode_items xs) (zeros (FIELDS + k)) FIELDS ∙ drop_zeros FIELDS k)
    ∙ ap (λ (t : List ℤ). t ++ zeros k) (sym (encode_append xs x))
    ∙ sym (queue_shape (xs ++ (x ∷ [])) k (omega arith))

-- ---- the oldest item, and all of them, read back

pub fields_of_wide : (x : Item) → length x.f ≡ FIELDS → fields x ≡ x.f
unfolding fields
fields_of_wide x w = pad_full FIELDS (pos 0) x.f w

pub items_of_encode : (xs : List Item) (z : List ℤ) → Wide xs → items_of (length xs) (encode_items xs ++ z) ≡ xs
unfolding items_of encode_items first_of
items_of_encode [] z w = refl
items_of_encode (x ∷ xs) z w =
    let a : (fields x ++ encode_items xs) ++ z ≡ x.f ++ (encode_items xs ++ z) =
    append_assoc (fields x) (encode_items xs) z ∙ ap (λ (l : List ℤ). l ++ (encode_items xs ++ z)) (fields_of_wide x w.0) in
    ap (items_of (suc (length xs))) a
    ∙ ap₂ (λ (g : List ℤ) (l : List Item). record { f = g } ∷ l) (take_at x.f (encode_items xs ++ z) FIELDS w.0)
    (ap (items_of (length xs)) (drop_at x.f (encode_items xs ++ z) FIELDS w.0) ∙ items_of_encode xs z w.1)

pub items_of_queue : (xs : List Item) → length xs ≤ ROOM → Wide xs → items_of (length xs) (queue_part xs) ≡ xs
items_of_queue xs h w =
    let k : ℕ = PART - FIELDS * length xs in
    ap (items_of (length xs)) (queue_shape xs k (omega arith)) ∙ items_of_encode xs (zeros k) w

-- ---- the other way: the numbers of the items that are read from a part

wide_first : (p : List ℤ) → FIELDS ≤ length p → length (first_of p).f ≡ FIELDS
unfolding first_of
wide_first p h = length-take-le FIELDS p h

pub wide_items : (n : ℕ) (p : List ℤ) → FIELDS * n ≤ length p → Wide (items_of n p)
unfolding items_of
wide_items zero p h = tt
wide_items (suc n) p h = (wide_first p (omega arith), wide_items n (drop FIELDS p) (simp length-drop (omega arith)))

pub encode_of_items : (n : ℕ) (p : List ℤ) → FIELDS * n ≤ length p → encode_items (items_of n p) ≡ take (FIELDS * n) p
unfolding encode_items items_of first_of
encode_of_items zero p h = refl
encode_of_items (suc n) p h =
    let e : FIELDS + FIELDS * n ≡ FIELDS * suc n = omega arith in
    ap₂ (λ (a b : List ℤ). a ++ b) (fields_of_wide (first_of p) (wide_first p (omega arith)))
    (encode_of_items n (drop FIELDS p) (simp length-drop (omega arith)))
    ∙ sym (take-add FIELDS (FIELDS * n) p) ∙ ap (λ (m : ℕ). take m p) e
