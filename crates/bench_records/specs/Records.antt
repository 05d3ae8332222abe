-- The records after a sheet: feeds, made as they are read, and then firings; any other order is 2.
use Rattle.std.specs.Prelude.{ℕ, zero, suc, ◌+◌, ◌*◌, Bool, true, false, cond, not, ◌&&◌, List, [], ◌∷◌, eqb, length, get_or, drop, replicate, pos}
use Rattle.base_number.specs.Number.{short_of, int_of}
use Rattle.base_lists.specs.Lists.{build}
use Rattle.sheet_operator.specs.Op.{Abstract}
use Rattle.sheet_format.specs.Record.{HEADER, cut}
use Rattle.base_bounds.specs.Bounds.{VARIABLES, FIELDS, QUEUES}
use Rattle.run_store.specs.declared.Item.{Item}
use Rattle.run_machine.specs.Machine.{Machine, Outcome, refuse, done, feed_m}

-- kind 16: a queue and the fields of an item
abbrev pub feed_kind : ℕ
feed_kind = 16

abbrev pub feed_body : ℕ
feed_body = 1 + 4 * FIELDS

abbrev pub feed_bytes : ℕ
feed_bytes = HEADER + feed_body

-- kind 17: a queue
abbrev pub firing_kind : ℕ
firing_kind = 17

abbrev pub firing_body : ℕ
firing_body = 1

abbrev pub firing_bytes : ℕ
firing_bytes = HEADER + firing_body

abbrev pub kind_at : List ℕ → ℕ
kind_at s = short_of (drop 2 s)

abbrev pub queue_at : List ℕ → ℕ
queue_at s = get_or s HEADER 0

unfoldable pub item_at : List ℕ → Item
item_at s = record { f = build FIELDS (λ (k : ℕ). int_of (drop (HEADER + 1 + 4 * k) s)) }

-- ---- feeds

-- the machine that was fed, the number of the next record and the bytes from there on; or the refusal and its record
pub data Feeds : Type 0 where
  unfed : (number spot : ℕ) → Feeds
  fed : Machine → (spot : ℕ) → List ℕ → Feeds

-- a whole record of kind 16 stands at the front
unfoldable pub is_feed : List ℕ → Bool
is_feed s = not (cut s) && eqb (kind_at s) feed_kind

-- its body length 1, then the feed's own refusal
unfoldable pub feed_next : Abstract → Machine → List ℕ → Outcome
feed_next a m s = cond (eqb (short_of s) feed_body) (feed_m a m (queue_at s) (item_at s)) (refuse 1)

abbrev pub feeds_on : Outcome → ℕ → (Machine → Feeds) → Feeds
feeds_on (refuse r) k next = unfed r k
feeds_on (done m) k next = next m

-- the feeds at the front, the first of them record k; n is as many as they can be, since each has bytes
unfoldable pub feeds_from : ℕ → Abstract → Machine → ℕ → List ℕ → Feeds
feeds_from zero a m k s = fed m k s
feeds_from (suc n) a m k s =
    cond (is_feed s) (feeds_on (feed_next a m s) k (λ (m' : Machine). feeds_from n a m' (k + 1) (drop feed_bytes s))) (fed m k s)

-- a fresh start
abbrev pub start : Machine
start = record { queues = replicate QUEUES []; vars = replicate VARIABLES (pos 0) }

-- no feed was refused; and the machine that they leave, a fresh one where one was
abbrev pub all_fed : Feeds → Bool
all_fed (unfed r k) = false
all_fed (fed m k rest) = true

abbrev pub machine_in : Feeds → Machine
machine_in (unfed r k) = start
machine_in (fed m k rest) = m

-- ---- firings

-- the queues to fire, in order; or the refusal and its record
pub data Firings : Type 0 where
  unfired : (number spot : ℕ) → Firings
  firings : List ℕ → Firings

-- cut short 1, kind 2, body length 1
unfoldable pub firing_number : List ℕ → ℕ
firing_number s = cond (cut s) 1 (cond (eqb (kind_at s) firing_kind) (cond (eqb (short_of s) firing_body) 0 1) 2)

abbrev pub before : ℕ → Firings → Firings
before q (unfired r k) = unfired r k
before q (firings qs) = firings (q ∷ qs)

-- the firings to the end of the bytes, the first of them record k; n is as many as they can be
unfoldable pub firings_from : ℕ → ℕ → List ℕ → Firings
firings_from zero k s = firings []
firings_from (suc n) k s =
    cond (eqb (length s) 0) (firings [])
    (cond (eqb (firing_number s) 0) (before (queue_at s) (firings_from n (k + 1) (drop firing_bytes s))) (unfired (firing_number s) k))
