-- The loop that looks at the feeds: the counts are those of a machine that was fed so far.
-- Assumes nothing.
use mathlib.Core.Path.{◌≡◌, refl, sym, ap, ◌∙◌}
use mathlib.Core.Bool.{Bool, true, false, cond, ◌||◌}
use mathlib.Core.List.{List, [], ◌∷◌, ◌++◌, map}
use Prim.Native.Nat.{ℕ, ◌+◌, ◌≤◌, ◌<◌}
use native.Mathlib.Omega.{arith}
use lib.Dec.{eqb, leb, ltb}
use lib.ListN.{length, get_or, set, drop, length-append}
use borrow.Author.Tests.{eq-eqb, ne_eqb, lt-ltb, le-ltb, eqb-true, ltb-true, leb-false}
use Rattle.std.specs.Prelude.{Result, Ok, Err, Some}
use Rattle.base_number.specs.Number.{short_of}
use Rattle.base_lists.proofs.Places.{map_set}
use Rattle.base_refusal.specs.declared.Reason.{Reason}
use Rattle.base_refusal.specs.Refusal.{number_of, refusal, number_or_zero}
use Rattle.sheet_operator.specs.Op.{Abstract}
use Rattle.base_bounds.specs.Bounds.{OPERATORS, QUEUES, ROOM}
use Rattle.sheet.specs.declared.Sheet.{Sheet}
use Rattle.sheet.specs.Answer.{accepted}
use Rattle.sheet.specs.Sheet.{view_sheet}
use Rattle.sheet.specs.Check.{check_of}
use Rattle.base_refusal.proofs.Reasons as reasons
use Rattle.sheet.proofs.Accepted.{ranges_of_accepted}
use Rattle.run_machine.specs.Machine.{Machine, Outcome, refuse, done, put_all, feed_m}
use Rattle.run_machine.proofs.Firing.{feed_puts_one}
use Rattle.run_machine.proofs.Good.{count_at}
use Rattle.run_machine.specs.Working.{refusal_of}
use Rattle.bench_records.specs.Records.{queue_at, item_at, feed_body, feed_bytes, start, fed, is_feed, feed_next, machine_in}
use Rattle.bench_records.specs.Looks.{feed_number, FedQueue, feeds_after, Looks}
use Rattle.bench_records.proofs.Feeding.{some_number, whole_body, Passing, passing_starts, passing_few, passing_ends, passing_stops, passing_goes_on}

-- ---- the tests of `fed_queue`

module _ (inputs : ℕ) (counts s : List ℕ) where
  pub number_body : (short_of s ≡ feed_body → ⊥) → feed_number inputs counts s ≡ 1
  unfolding feed_number
  number_body ne = rw (ne_eqb (short_of s) feed_body ne)

  module _ (e : short_of s ≡ feed_body) (q : ℕ) (d : q ≡ queue_at s) where
    pub number_queue : inputs ≤ q → feed_number inputs counts s ≡ 9
    unfolding feed_number
    number_queue l = rw (eq-eqb (short_of s) feed_body e, sym d, le-ltb q inputs l)

    pub number_room : q < inputs → (b : Bool) → b ≡ leb ROOM (get_or counts q 0) → feed_number inputs counts s ≡ cond b 12 0
    unfolding feed_number
    number_room l b f = rw (eq-eqb (short_of s) feed_body e, sym d, lt-ltb q inputs l, f)

none_tests : (x y z : Bool) → ◌≡◌ {A = ℕ} (cond x (cond y (cond z 12 0) 9) 1) 0 → (x ≡ true) × (y ≡ true) × (z ≡ false)
none_tests true true true h = absurd (omega arith)
none_tests true true false h = (refl, refl, refl)
none_tests true false z h = absurd (omega arith)
none_tests false y z h = absurd (omega arith)

-- a feed that is not refused has a whole body, an input and room there
pub number_none : (inputs : ℕ) (counts s : List ℕ) → feed_number inputs counts s ≡ 0 →
    (short_of s ≡ feed_body) × (queue_at s < inputs) × (get_or counts (queue_at s) 0 < ROOM)
unfolding feed_number
number_none inputs counts s h =
    let p = none_tests (eqb (short_of s) feed_body) (ltb (queue_at s) inputs) (leb ROOM (get_or counts (queue_at s) 0)) h in
    (eqb-true (short_of s) feed_body p.0, ltb-true (queue_at s) inputs p.1, leb-false ROOM (get_or counts (queue_at s) 0) p.2)

-- ---- the counts of a machine

-- a feed is refused by them as by the machine
refused_alike : (x y z : Bool) (m : Machine) →
    cond x (cond y (cond z 12 0) 9) 1 ≡ refusal_of (cond x (cond y (cond (z || false) (refuse 12) (done m)) (refuse 9)) (refuse 1))
refused_alike true true true m = refl
refused_alike true true false m = refl
refused_alike true false z m = refl
refused_alike false y z m = refl

module _ (a : Abstract) (m : Machine) (counts s : List ℕ) (e : counts ≡ map length m.queues) where
  count_of : get_or counts (queue_at s) 0 ≡ length (get_or m.queues (queue_at s) [])
  count_of = ap (λ (l : List ℕ). get_or l (queue_at s) 0) e ∙ count_at m.queues (queue_at s)

  pub number_of_counts : feed_number a.inputs counts s ≡ refusal_of (feed_next a m s)
  unfolding feed_number feed_next feed_m
  number_of_counts =
      ap (λ (k : ℕ). cond (eqb (short_of s) feed_body) (cond (ltb (queue_at s) a.inputs) (cond (leb ROOM k) 12 0) 9) 1) count_of
      ∙ refused_alike (eqb (short_of s) feed_body) (ltb (queue_at s) a.inputs) (leb ROOM (length (get_or m.queues (queue_at s) [])))
      (record { queues = put_all m.queues (queue_at s ∷ []) (item_at s); vars = m.vars })

  -- a feed that is made adds one to its queue's count
  pub counts_more : (m' : Machine) → feed_next a m s ≡ done m' → (q : ℕ) → q ≡ queue_at s →
      set counts q (get_or counts q 0 + 1) ≡ map length m'.queues
  counts_more m' f q d =
      let g = feed_puts_one a m (queue_at s) (item_at s) m' (whole_body a m m' s f).1 in
      let xs = get_or m.queues (queue_at s) [] in
      let n : length (xs ++ (item_at s ∷ [])) ≡ get_or counts (queue_at s) 0 + 1 = length-append xs (item_at s ∷ []) ∙ ap (λ (k : ℕ). k + 1) (sym count_of) in
      ap (λ (k : ℕ). set counts k (get_or counts k 0 + 1)) d ∙ ap (set counts (queue_at s)) (sym n)
      ∙ ap (λ (l : List ℕ). set l (queue_at s) (length (xs ++ (item_at s ∷ [])))) e
      ∙ sym (map_set length m.queues (queue_at s) (xs ++ (item_at s ∷ []))) ∙ sym (ap (λ (x : Machine). map length x.queues) g.next)

-- ---- between two records

pub record Looking (t : Sheet) (s : List ℕ) (from : ℕ) (counts : List ℕ) (at spot : ℕ) : Type 0 where
  pub machine : Machine
  pub passing : Passing (view_sheet t) start (t.count + 1) s from machine at spot
  pub counted : counts ≡ map length machine.queues
  pub inputs : t.inputs ≤ QUEUES
  pub few : t.count ≤ OPERATORS

pub looking_starts : (t : Sheet) (s : List ℕ) (from : ℕ) (counts : List ℕ) → check_of t ≡ accepted → from ≤ length s →
    counts ≡ map length start.queues → (spot : ℕ) → spot ≡ t.count + 1 → Looking t s from counts from spot
looking_starts t s from counts h l e spot d =
    let r = ranges_of_accepted t h in
    record {
      machine = start;
      passing = rw d (passing_starts (view_sheet t) start (t.count + 1) s from l);
      counted = e;
      inputs = omega (arith, r.inputs, r.queues);
      few = r.count;
    }

module _ {t : Sheet} {s : List ℕ} {from : ℕ} {counts : List ℕ} {at spot : ℕ} (r : Looking t s from counts at spot) where
  pub looking_few : spot ≤ at + (OPERATORS + 1)
  looking_few = omega (arith, passing_few r.passing, r.few)

  -- no feed stands here
  pub looking_ends : is_feed (drop at s) ≡ false → Looks (feeds_after t start (drop from s)) s (Ok (record { spot = spot; at = at }))
  looking_ends h =
      let e = passing_ends r.passing h in
      (e ∙ ap (λ (m : Machine). fed m spot (drop at s)) (sym (ap machine_in e)), r.passing.inside, looking_few)

  module _ (h : is_feed (drop at s) ≡ true) where
    agreed : {x : Result ℕ Reason} → FedQueue t.inputs counts (drop at s) x → number_or_zero x ≡ refusal_of (feed_next (view_sheet t) r.machine (drop at s))
    agreed d = d.number ∙ number_of_counts (view_sheet t) r.machine counts (drop at s) r.counted

    -- the feed is refused
    pub looking_stops : (reason : Reason) → FedQueue t.inputs counts (drop at s) (Err reason) →
        Looks (feeds_after t start (drop from s)) s (Err (refusal reason (Some spot)))
    looking_stops reason d = go (feed_next (view_sheet t) r.machine (drop at s)) refl (agreed d)
      where
        go : (o : Outcome) → feed_next (view_sheet t) r.machine (drop at s) ≡ o → number_of reason ≡ refusal_of o →
            Looks (feeds_after t start (drop from s)) s (Err (refusal reason (Some spot)))
        go (refuse k) e g = (rw g (passing_stops r.passing h k e), refl, omega (arith, looking_few, r.passing.inside))
        go (done m) e g = absurd (omega (arith, reasons.some_number reason))

    -- the feed will be made
    pub looking_goes_on : (q : ℕ) → FedQueue t.inputs counts (drop at s) (Ok q) →
        Looking t s from (set counts q (get_or counts q 0 + 1)) (at + feed_bytes) (spot + 1)
    looking_goes_on q d = go (feed_next (view_sheet t) r.machine (drop at s)) refl (agreed d)
      where
        go : (o : Outcome) → feed_next (view_sheet t) r.machine (drop at s) ≡ o → 0 ≡ refusal_of o →
            Looking t s from (set counts q (get_or counts q 0 + 1)) (at + feed_bytes) (spot + 1)
        go (refuse k) e g = absurd (some_number (view_sheet t) r.machine (drop at s) k e (sym g))
        go (done m) e g =
            record {
              machine = m;
              passing = passing_goes_on r.passing h m e;
              counted = counts_more (view_sheet t) r.machine counts (drop at s) r.counted m e q d.queue;
              inputs = r.inputs;
              few = r.few;
            }
