-- What looking at the records after a sheet answers, against the definitions.
use Rattle.std.specs.Prelude.{◌≡◌, cond, List, ℕ, ◌+◌, ◌*◌, ◌^◌, ◌≤◌, ◌<◌, eqb, leb, ltb, length, get_or, take, drop, Result, Ok, Err, IfOk, IsSome}
use Rattle.std.specs.Option.{unwrap_or}
use Rattle.base_refusal.specs.declared.Reason.{Reason}
use Rattle.base_refusal.specs.declared.Refusal.{Refusal}
use Rattle.base_refusal.specs.Refusal.{number_of, number_or_zero}
use Rattle.base_number.specs.Number.{short_of}
use Rattle.base_bounds.specs.Bounds.{OPERATORS, ROOM}
use Rattle.sheet.specs.declared.Sheet.{Sheet}
use Rattle.sheet.specs.Sheet.{view_sheet}
use Rattle.run_machine.specs.Machine.{Machine}
use Rattle.bench_records.specs.declared.Looked.{Looked}
use Rattle.bench_records.specs.Records.{feed_body, queue_at, firing_bytes, Feeds, unfed, fed, feeds_from, machine_in, firing_number, Firings, unfired, firings}

-- the refusal of the feed at the front of the bytes, 0 for none, by how many items each queue has
unfoldable pub feed_number : ℕ → List ℕ → List ℕ → ℕ
feed_number inputs counts s =
    cond (eqb (short_of s) feed_body) (cond (ltb (queue_at s) inputs) (cond (leb ROOM (get_or counts (queue_at s) 0)) 12 0) 9) 1

-- what the feeds after a sheet come to, from a machine on
abbrev pub feeds_after : Sheet → Machine → List ℕ → Feeds
feeds_after t m rest = feeds_from (length rest) (view_sheet t) m (t.count + 1) rest

-- the queue of the feed at the front of the bytes, or the refusal
pub record FedQueue (inputs : ℕ) (counts s : List ℕ) (r : Result ℕ Reason) : Type 0 where
  pub number : number_or_zero r ≡ feed_number inputs counts s
  pub queue : IfOk r (λ (q : ℕ). q ≡ queue_at s)

-- the same of a firing
pub record FiredQueue (s : List ℕ) (r : Result ℕ Reason) : Type 0 where
  pub number : number_or_zero r ≡ firing_number s
  pub queue : IfOk r (λ (q : ℕ). q ≡ queue_at s)

-- how the feeds of an input end: f is what they come to
abbrev pub Looks : Feeds → List ℕ → Result Looked Refusal → Type 0
Looks f s (Ok x) = (f ≡ fed (machine_in f) x.spot (drop x.at s)) × (x.at ≤ length s) × (x.spot ≤ x.at + (OPERATORS + 1))
Looks f s (Err e) =
    (f ≡ unfed (number_of e.reason) (unwrap_or e.spot 0)) × IsSome e.spot × (unwrap_or e.spot 0 ≤ length s + (OPERATORS + 1))

-- what listing the firings asks: a list that is long enough, and numbers that fit
pub record Listable (s : List ℕ) (from spot : ℕ) (list : List ℕ) : Type 0 where
  pub inside : from ≤ length s
  pub room : length s ≤ firing_bytes * length list
  pub small : spot + length s < 2 ^ 32

-- how the firings end: the list holds them
abbrev pub Lists : Firings → Result ℕ Refusal → List ℕ → Type 0
Lists f (Ok count) after = (f ≡ firings (take count after)) × (count ≤ length after)
Lists f (Err e) after = (f ≡ unfired (number_of e.reason) (unwrap_or e.spot 0)) × IsSome e.spot
