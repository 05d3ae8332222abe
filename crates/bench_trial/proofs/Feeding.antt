-- The loop that makes the feeds, none of which is refused: what holds at its head, one turn, and how it ends.
-- Assumes nothing.
use mathlib.Core.Path.{◌≡◌, refl, sym, ap, ◌∙◌, subst}
use mathlib.Core.Bool.{true, false}
use mathlib.Core.List.{List}
use Prim.Native.Nat.{ℕ, ◌+◌, ◌≤◌}
use native.Mathlib.Omega.{arith}
use lib.ListN.{length, get_or, drop, length-map}
use lib.Seq.{get_or-drop}
use lib.IntN.{ℤ}
use Rattle.sheet_format.specs.Record.{HEADER}
use Rattle.base_bounds.specs.Bounds.{VARIABLES, QUEUES}
use Rattle.std.specs.Prelude.{Result}
use Rattle.std.specs.Result.{result_unwrap_or}
use Rattle.base_refusal.specs.declared.Refusal.{Refusal}
use Rattle.sheet.specs.declared.Sheet.{Sheet}
use Rattle.sheet.specs.Sheet.{view_sheet}
use Rattle.run_store.specs.declared.Item.{Item}
use Rattle.run_machine.specs.declared.State.{State}
use Rattle.run_machine.specs.Machine.{Machine, Outcome, refuse, done, feed_m}
use Rattle.run_machine.specs.Numbers.{decode, state_of, store_in, GoodM}
use Rattle.run_machine.specs.Calls.{Call, saved}
use Rattle.run_machine.specs.Working.{Stands}
use Rattle.run_machine.specs.Answers.{Answers}
use Rattle.run_machine.proofs.Good.{decode_of_encode, good_of_machine, machine_of_good}
use Rattle.run_machine.proofs.Keeps.{feed_keeps}
use Rattle.run_machine.proofs.Sound.{sound_of_accepted}
use Rattle.bench_records.specs.Records.{queue_at, item_at, feed_bytes, is_feed, feed_next, all_fed, machine_in}
use Rattle.bench_records.specs.Looks.{feeds_after}
use Rattle.bench_records.proofs.Feeding.{whole_body, item_wide, Passing, passing_starts, passing_ends, passing_stops, passing_goes_on}
use Rattle.bench_trial.specs.Tries.{Feedable, FeedsTo}

pub record Feeding (t : Sheet) (s : List ℕ) (from : ℕ) (m₀ : Machine) (st : State) (store : List ℤ) (at : ℕ) : Type 0 where
  pub stands : Stands t st store
  pub counts : length st.counts ≡ QUEUES
  pub vars : length st.vars ≡ VARIABLES
  pub spot : ℕ
  pub passing : Passing (view_sheet t) m₀ (t.count + 1) s from (decode st store) at spot
  pub all : all_fed (feeds_after t m₀ (drop from s)) ≡ true

pub feeding_starts : (t : Sheet) (s : List ℕ) (from : ℕ) (st : State) (store : List ℤ) → Feedable t st store s from →
    length st.counts ≡ QUEUES → length st.vars ≡ VARIABLES → Feeding t s from (decode st store) st store from
feeding_starts t s from st store h c v =
    record {
      stands = h.stands;
      counts = c;
      vars = v;
      spot = t.count + 1;
      passing = passing_starts (view_sheet t) (decode st store) (t.count + 1) s from h.inside;
      all = h.all;
    }

module _ {t : Sheet} {s : List ℕ} {from : ℕ} {m₀ : Machine} {st : State} {store : List ℤ} {at : ℕ} (r : Feeding t s from m₀ st store at) where
  -- no feed stands here
  pub feeding_ends : is_feed (drop at s) ≡ false → FeedsTo (feeds_after t m₀ (drop from s)) t st store
  feeding_ends h = record { machine = sym (ap machine_in (passing_ends r.passing h)); stands = r.stands }

  -- the feed that stands here is made
  record Made : Type 0 where
    pub machine : Machine
    pub next : feed_next (view_sheet t) (decode st store) (drop at s) ≡ done machine

  module _ (h : is_feed (drop at s) ≡ true) where
    made : Made
    made = go (feed_next (view_sheet t) (decode st store) (drop at s)) refl
      where
        go : (o : Outcome) → feed_next (view_sheet t) (decode st store) (drop at s) ≡ o → Made
        go (refuse k) e =
            let z = sym r.all ∙ ap all_fed (passing_stops r.passing h k e) in
            let y : ◌≡◌ {A = ℕ} 0 1 = cc in absurd (omega arith)
        go (done m) e = record { machine = m; next = e }

    pub feeding_room : at + feed_bytes ≤ length s
    feeding_room = (passing_goes_on r.passing h made.machine made.next).inside

    -- the call is the feed's
    called : (q : ℕ) (x : Item) → q ≡ get_or s (at + HEADER) 0 → x ≡ item_at (drop at s) →
        feed_m (view_sheet t) (decode st store) q x ≡ done made.machine
    called q x d f =
        ap (λ (k : ℕ). feed_m (view_sheet t) (decode st store) k x) (d ∙ sym (get_or-drop at s HEADER 0))
        ∙ ap (feed_m (view_sheet t) (decode st store) (queue_at (drop at s))) f
        ∙ (whole_body (view_sheet t) (decode st store) made.machine (drop at s) made.next).1

    good_then : GoodM (view_sheet t) made.machine
    good_then =
        let u = drop at s in
        feed_keeps (view_sheet t) (sound_of_accepted t r.stands.sheet) (decode st store)
        (machine_of_good (view_sheet t) st store r.stands.numbers r.counts r.vars) (queue_at u) (item_at u) made.machine (item_wide u)
        (whole_body (view_sheet t) (decode st store) made.machine u made.next).1

    stored_as : (st' : State) (store' : List ℤ) → st' ≡ state_of made.machine → store' ≡ store_in made.machine →
        Feeding t s from m₀ st' store' (at + feed_bytes)
    stored_as st' store' b c =
        let m = made.machine in
        let back : decode st' store' ≡ m = rw (b, c) (decode_of_encode (view_sheet t) m good_then) in
        record {
          stands = record { sheet = r.stands.sheet; numbers = rw (b, c) (good_of_machine (view_sheet t) m good_then) };
          counts = ap (λ (x : State). length x.counts) b ∙ length-map m.queues length ∙ good_then.many;
          vars = ap (λ (x : State). length x.vars) b ∙ good_then.size;
          spot = r.spot + 1;
          passing = subst (λ (x : Machine). Passing (view_sheet t) m₀ (t.count + 1) s from x (at + feed_bytes) (r.spot + 1)) (sym back)
              (passing_goes_on r.passing h m made.next);
          all = r.all;
        }

    pub feeding_goes_on : (q : ℕ) (x : Item) → q ≡ get_or s (at + HEADER) 0 → x ≡ item_at (drop at s) →
        {a : Result State Refusal} {store' : List ℤ} → Answers (saved st store (feed_m (view_sheet t) (decode st store) q x)) st a store' →
        Feeding t s from m₀ (result_unwrap_or a st) store' (at + feed_bytes)
    feeding_goes_on q x d f {a} {store'} h =
        let e = ap (saved st store) (called q x d f) in
        stored_as (result_unwrap_or a st) store' (h.stated ∙ ap (λ (c : Call). c.state) e) (h.stored ∙ ap (λ (c : Call). c.store) e)
