-- The lent store, number by number: the part of each queue, and what a push and a take leave in it.
use Rattle.std.specs.Prelude.{ℕ, ◌+◌, ◌*◌, List, ◌++◌, take, drop, replicate, ℤ, pos}
use Rattle.base_lists.specs.Lists.{pad}
use Rattle.run_store.specs.declared.Item.{Item}
use Rattle.base_bounds.specs.Bounds.{FIELDS, ROOM, QUEUES}

-- the numbers of a queue's part
abbrev pub PART : ℕ
PART = FIELDS * ROOM

-- the numbers of the store
abbrev pub STORE : ℕ
STORE = QUEUES * PART

-- the part of queue q, and the store with p in its place
unfoldable pub part : List ℤ → ℕ → List ℤ
part s q = take PART (drop (PART * q) s)

unfoldable pub with_part : List ℤ → ℕ → List ℤ → List ℤ
with_part s q p = take (PART * q) s ++ (p ++ drop PART (drop (PART * q) s))

-- the numbers of an item; an item of the code has FIELDS of them, so these are all and no zero is added
unfoldable pub fields : Item → List ℤ
fields x = pad FIELDS (pos 0) x.f

-- a part with x as its item n, from 0
unfoldable pub pushed : List ℤ → ℕ → Item → List ℤ
pushed p n x = take (FIELDS * n) p ++ fields x ++ drop (FIELDS * n + FIELDS) p

-- a part without its oldest item: the rest moves down, and zeros follow
unfoldable pub without_oldest : List ℤ → List ℤ
without_oldest p = drop FIELDS p ++ replicate FIELDS (pos 0)

-- the oldest item of a part
unfoldable pub first_of : List ℤ → Item
first_of p = record { f = take FIELDS p }

-- the store with x as item n of queue q, and the store without the oldest item of queue q
unfoldable pub push_at : List ℤ → ℕ → ℕ → Item → List ℤ
push_at s q n x = with_part s q (pushed (part s q) n x)

unfoldable pub take_at : List ℤ → ℕ → List ℤ
take_at s q = with_part s q (without_oldest (part s q))
