-- The test that a queue holds no more than it has room for and that its places past the last item are 0.
use Rattle.std.specs.Prelude.{ℕ, suc, ◌*◌, Bool, true, ◌&&◌, List, [], ◌∷◌, drop, leb, ℤ}
use Rattle.base_number.specs.Number.{is_zero}
use Rattle.base_lists.specs.Lists.{all}
use Rattle.run_store.specs.Store.{part}
use Rattle.base_bounds.specs.Bounds.{ROOM, FIELDS}

-- each number from place i on is 0
abbrev pub zeros_past : List ℤ → ℕ → Bool
zeros_past p i = all is_zero (drop i p)

-- a part that holds n items
unfoldable pub quiet_queue : List ℤ → ℕ → Bool
quiet_queue p n = leb n ROOM && zeros_past p (FIELDS * n)

-- the queues from queue q on, one for each of the counts
unfoldable pub quiet_from : List ℤ → ℕ → List ℕ → Bool
quiet_from s q [] = true
quiet_from s q (n ∷ ns) = quiet_queue (part s q) n && quiet_from s (suc q) ns
