-- The store as queues of items: `store_of` is how queues of items stand in the store, and `queues_of` the way back.
use Rattle.std.specs.Prelude.{ℕ, zero, suc, ◌≤◌, ◌<◌, ◌≡◌, List, [], ◌∷◌, length, get_or, drop, ℤ, pos}
use Rattle.base_lists.specs.Lists.{pad, chain}
use Rattle.run_store.specs.declared.Item.{Item}
use Rattle.run_store.specs.Store.{PART, part, fields, first_of}
use Rattle.base_bounds.specs.Bounds.{ROOM, FIELDS}

-- the numbers of the items, oldest first
unfoldable pub encode_items : List Item → List ℤ
encode_items xs = chain fields xs

-- a queue's part: the numbers of its items, and then zeros
unfoldable pub queue_part : List Item → List ℤ
queue_part xs = pad PART (pos 0) (encode_items xs)

-- how queues of items stand in the store: their parts, one after another
unfoldable pub store_of : List (List Item) → List ℤ
store_of qs = chain queue_part qs

-- the first n items of a part
unfoldable pub items_of : ℕ → List ℤ → List Item
items_of zero p = []
items_of (suc n) p = first_of p ∷ items_of n (drop FIELDS p)

-- the way back: the queues from queue q on of a store, one for each of the counts
unfoldable pub queues_of : List ℤ → ℕ → List ℕ → List (List Item)
queues_of s q [] = []
queues_of s q (n ∷ ns) = items_of n (part s q) ∷ queues_of s (suc q) ns

-- no queue holds more than it has room for
abbrev pub Fit : List (List Item) → Type 0
Fit qs = (i : ℕ) → i < length qs → length (get_or qs i []) ≤ ROOM

-- each item has its FIELDS numbers, as every item of the code has
abbrev pub Wide : List Item → Type 0
Wide [] = Unit
Wide (x ∷ xs) = (length x.f ≡ FIELDS) × Wide xs

abbrev pub AllWide : List (List Item) → Type 0
AllWide [] = Unit
AllWide (xs ∷ qs) = Wide xs × AllWide qs
