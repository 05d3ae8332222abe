-- The feeds at the front of the bytes, one after the other: what one comes to, and what is left after it.
-- Assumes nothing.
use mathlib.Core.Path.{◌≡◌, refl, sym, ap, ◌∙◌}
use mathlib.Core.Bool.{Bool, true, false, cond}
use mathlib.Core.List.{List, [], ◌∷◌}
use Prim.Native.Nat.{ℕ, zero, suc, ◌+◌, ◌-◌, ◌*◌, ◌≤◌}
use native.Mathlib.Omega.{arith}
use lib.Dec.{eqb, ltb}
use lib.ListN.{length, drop, length-drop}
use lib.Seq.{drop-drop}
use borrow.Author.Tests.{eqb-true}
use Rattle.base_number.specs.Number.{short_of}
use Rattle.sheet_operator.specs.Op.{Abstract}
use Rattle.base_bounds.specs.Bounds.{FIELDS}
use Rattle.run_machine.specs.Machine.{Machine, Outcome, refuse, done, full, put_all, feed_m}
use Rattle.bench_records.specs.Records.{queue_at, item_at, feed_body, feed_bytes, Feeds, unfed, fed, is_feed, feed_next, feeds_on, feeds_from}
use Rattle.bench_records.proofs.RecordLaws.{feed_room}

-- ---- one feed

-- no refusal of a feed is 0, and one that is made has a whole body
fed_tests : (x y z : Bool) (m : Machine) (k : ℕ) → cond x (cond y (cond z (refuse 12) (done m)) (refuse 9)) (refuse 1) ≡ refuse k → k ≡ 0 → ⊥
fed_tests true true true m k e h = let q : ◌≡◌ {A = ℕ} 12 0 = cc in omega arith
fed_tests true true false m k e h = let q : ◌≡◌ {A = ℕ} 0 1 = cc in omega arith
fed_tests true false z m k e h = let q : ◌≡◌ {A = ℕ} 9 0 = cc in omega arith
fed_tests false y z m k e h = let q : ◌≡◌ {A = ℕ} 1 0 = cc in omega arith

pub some_number : (a : Abstract) (m : Machine) (s : List ℕ) (k : ℕ) → feed_next a m s ≡ refuse k → k ≡ 0 → ⊥
unfolding feed_next feed_m
some_number a m s k e h =
    fed_tests (eqb (short_of s) feed_body) (ltb (queue_at s) a.inputs) (full m.queues (queue_at s ∷ []))
    (record { queues = put_all m.queues (queue_at s ∷ []) (item_at s); vars = m.vars }) k e h

body_tests : (x : Bool) (o : Outcome) (m : Machine) → cond x o (refuse 1) ≡ done m → (x ≡ true) × (o ≡ done m)
body_tests true o m e = (refl, e)
body_tests false o m e = let q : ◌≡◌ {A = ℕ} 0 1 = cc in absurd (omega arith)

pub whole_body : (a : Abstract) (m m' : Machine) (s : List ℕ) → feed_next a m s ≡ done m' →
    (short_of s ≡ feed_body) × (feed_m a m (queue_at s) (item_at s) ≡ done m')
unfolding feed_next
whole_body a m m' s e =
    let p = body_tests (eqb (short_of s) feed_body) (feed_m a m (queue_at s) (item_at s)) m' e in
    (eqb-true (short_of s) feed_body p.0, p.1)

pub item_wide : (s : List ℕ) → length (item_at s).f ≡ FIELDS
unfolding item_at
item_wide s = refl

-- ---- what is left, by one feed

pub feeds_over : (n k : ℕ) (a : Abstract) (m : Machine) (s : List ℕ) → is_feed s ≡ false → feeds_from n a m k s ≡ fed m k s
unfolding feeds_from
feeds_over zero k a m s h = refl
feeds_over (suc n) k a m s h = rw h

pub feeds_by : (n k : ℕ) (a : Abstract) (m : Machine) (s : List ℕ) (o : Outcome) → is_feed s ≡ true → feed_next a m s ≡ o →
    feeds_from (suc n) a m k s ≡ feeds_on o k (λ (m' : Machine). feeds_from n a m' (k + 1) (drop feed_bytes s))
unfolding feeds_from
feeds_by n k a m s o h e = rw h (ap (λ (p : Outcome). feeds_on p k (λ (m' : Machine). feeds_from n a m' (k + 1) (drop feed_bytes s))) e)

-- ---- the feeds that are passed: n of them, and with what is left they come to the whole

pub record Passing (a : Abstract) (m₀ : Machine) (k : ℕ) (s : List ℕ) (from : ℕ) (m : Machine) (at spot : ℕ) : Type 0 where
  pub n : ℕ
  pub place : at ≡ from + feed_bytes * n
  pub reached : spot ≡ k + n
  pub inside : at ≤ length s
  pub left : feeds_from (length (drop from s) - n) a m spot (drop at s) ≡ feeds_from (length (drop from s)) a m₀ k (drop from s)

pub passing_starts : (a : Abstract) (m : Machine) (k : ℕ) (s : List ℕ) (from : ℕ) → from ≤ length s → Passing a m k s from m from k
passing_starts a m k s from l =
    let z : length (drop from s) - 0 ≡ length (drop from s) = omega arith in
    record { n = 0; place = omega arith; reached = omega arith; inside = l; left = rw z }

module _ {a : Abstract} {m₀ : Machine} {k : ℕ} {s : List ℕ} {from : ℕ} {m : Machine} {at spot : ℕ} (r : Passing a m₀ k s from m at spot) where
  abbrev whole : Feeds
  whole = feeds_from (length (drop from s)) a m₀ k (drop from s)

  pub passing_few : spot ≤ at + k
  passing_few = omega (arith, r.place, r.reached)

  -- no feed stands here
  pub passing_ends : is_feed (drop at s) ≡ false → whole ≡ fed m spot (drop at s)
  passing_ends h = sym r.left ∙ feeds_over (length (drop from s) - r.n) spot a m (drop at s) h

  module _ (h : is_feed (drop at s) ≡ true) where
    fuel : length (drop from s) - r.n ≡ suc (length (drop from s) - (r.n + 1))
    fuel = omega (arith, length-drop from s, r.place, (feed_room s at h).0)

    -- by what the feed comes to
    by : (o : Outcome) → feed_next a m (drop at s) ≡ o →
        whole ≡ feeds_on o spot (λ (m' : Machine). feeds_from (length (drop from s) - (r.n + 1)) a m' (spot + 1) (drop (at + feed_bytes) s))
    by o e =
        sym r.left ∙ ap (λ (j : ℕ). feeds_from j a m spot (drop at s)) fuel
        ∙ feeds_by (length (drop from s) - (r.n + 1)) spot a m (drop at s) o h e
        ∙ ap (λ (u : List ℕ). feeds_on o spot (λ (m' : Machine). feeds_from (length (drop from s) - (r.n + 1)) a m' (spot + 1) u))
        (drop-drop feed_bytes at s)

    pub passing_stops : (number : ℕ) → feed_next a m (drop at s) ≡ refuse number → whole ≡ unfed number spot
    passing_stops number e = by (refuse number) e

    pub passing_goes_on : (m' : Machine) → feed_next a m (drop at s) ≡ done m' → Passing a m₀ k s from m' (at + feed_bytes) (spot + 1)
    passing_goes_on m' e =
        record {
          n = r.n + 1;
          place = omega (arith, r.place);
          reached = omega (arith, r.reached);
          inside = omega (arith, (feed_room s at h).1, (whole_body a m m' (drop at s) e).0);
          left = sym (by (done m') e);
        }
