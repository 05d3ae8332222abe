-- Runs one after the other, and single firings, are one run: of machines, of calls where sheet and state stand, and of refused calls.
-- Assumes nothing.
use mathlib.Core.Path.{◌≡◌, refl, sym, ap, ap₂, ◌∙◌}
use mathlib.Core.Bool.{Bool, true, false, cond}
use mathlib.Core.List.{List, [], ◌∷◌, ◌++◌}
use Prim.Native.Nat.{ℕ, ◌+◌}
use native.Mathlib.Omega.{arith}
use lib.ListN.{length-map, length}
use lib.IntN.{ℤ}
use Rattle.base_lists.specs.Lists.{bit}
use Rattle.sheet.specs.declared.Sheet.{Sheet}
use Rattle.sheet.specs.Answer.{Paper, accepted, is_accepted}
use Rattle.sheet.specs.Sheet.{view_sheet}
use Rattle.sheet.specs.Check.{check_of}
use Rattle.sheet.proofs.AnswerLaws.{accepted_of, both_stand}
use Rattle.sheet_operator.specs.Op.{Abstract}
use Rattle.run_machine.specs.declared.State.{State}
use Rattle.run_machine.specs.Machine.{Machine, Outcome, refuse, done, fire_m, Ran, ran_on, run_from, run_m}
use Rattle.run_machine.specs.Numbers.{decode, state_of, store_in, good, GoodM}
use Rattle.run_machine.specs.Calls.{Call, RunCall, stands_of, unchanged, saved, saved_run, fire_of, run_of}
use Rattle.run_machine.proofs.Good.{encode_of_decode}
use Rattle.run_machine.proofs.Sound.{Sound, sound_of_accepted}
use Rattle.run_machine.proofs.Keeps.{run_keeps}
use Rattle.run_machine.proofs.RunLaws.{run_append}
use Rattle.order.specs.Firings.{Sized, GoodStart}
use Rattle.order.specs.Sequences.{LeavesAs, Turn, firing, running, turned, fired_of, entries_of, called, fired_in, entries}
use Rattle.order.specs.Sequences.{Joined, RunsJoin, FiringIsRun, OneRun, SequenceIsRun, AllStand}
use Rattle.order.proofs.Held.{held, held_stands, run_saved, fire_saved}
use Rattle.order.proofs.Starts.{start_sheet, start_good, run_of_start}

-- ---- runs of machines

abbrev from : Machine → Ran
from m = record { fired = 0; skipped = 0; machine = m }

-- a run with counts of its own ends where one from 0 does, and its counts are added
record Onto (a : Abstract) (qs : List ℕ) (r : Ran) : Type 0 where
  machine : (run_from a qs r).machine ≡ (run_m a qs r.machine).machine
  fired : (run_from a qs r).fired ≡ r.fired + (run_m a qs r.machine).fired
  skipped : (run_from a qs r).skipped ≡ r.skipped + (run_m a qs r.machine).skipped

run_onto : (a : Abstract) (qs : List ℕ) (r : Ran) → Onto a qs r
unfolding run_from
run_onto a [] r = record { machine = refl; fired = omega arith; skipped = omega arith }
run_onto a (q ∷ qs) r =
    let e = go (fire_m a r.machine q) (λ x. run_onto a qs x) in record { machine = e.0; fired = e.1; skipped = e.2 }
  where
    go : (o : Outcome) → ((x : Ran) → Onto a qs x) →
        ((run_from a qs (ran_on o r)).machine ≡ (run_from a qs (ran_on o (from r.machine))).machine)
        × ((run_from a qs (ran_on o r)).fired ≡ r.fired + (run_from a qs (ran_on o (from r.machine))).fired)
        × ((run_from a qs (ran_on o r)).skipped ≡ r.skipped + (run_from a qs (ran_on o (from r.machine))).skipped)
    go (refuse k) ih =
        let x = ih (ran_on (refuse k) r) in
        let y = ih (ran_on (refuse k) (from r.machine)) in
        (x.machine ∙ sym y.machine, omega (arith, x.fired, y.fired), omega (arith, x.skipped, y.skipped))
    go (done m) ih =
        let x = ih (ran_on (done m) r) in
        let y = ih (ran_on (done m) (from r.machine)) in
        (x.machine ∙ sym y.machine, omega (arith, x.fired, y.fired), omega (arith, x.skipped, y.skipped))

module _ (a : Abstract) (l l' : List ℕ) (m : Machine) where
  joins : Onto a l' (run_m a l m)
  joins = run_onto a l' (run_m a l m)

  run_machine : (run_m a (l ++ l') m).machine ≡ (run_m a l' (run_m a l m).machine).machine
  run_machine = ap (λ (r : Ran). r.machine) (run_append a l l' (from m)) ∙ joins.machine

  run_fired : (run_m a (l ++ l') m).fired ≡ (run_m a l m).fired + (run_m a l' (run_m a l m).machine).fired
  run_fired = ap (λ (r : Ran). r.fired) (run_append a l l' (from m)) ∙ joins.fired

  run_skipped : (run_m a (l ++ l') m).skipped ≡ (run_m a l m).skipped + (run_m a l' (run_m a l m).machine).skipped
  run_skipped = ap (λ (r : Ran). r.skipped) (run_append a l l' (from m)) ∙ joins.skipped

-- ---- calls from the numbers of a good machine

pub record At (t : Sheet) (c : Call) (m : Machine) : Type 0 where
  pub state : c.state ≡ state_of m
  pub store : c.store ≡ store_in m
  pub good : GoodM (view_sheet t) m

pub at_held : (t : Sheet) (m : Machine) → GoodM (view_sheet t) m → At t (held m) m
at_held t m g = record { state = refl; store = refl; good = g }

module _ (t : Sheet) (h : check_of t ≡ accepted) where
  sound : Sound (view_sheet t)
  sound = sound_of_accepted t h

  module _ (c : Call) (m : Machine) (at : At t c m) where
    run_at : (qs : List ℕ) → run_of t c.state c.store qs ≡ saved_run (run_m (view_sheet t) qs m)
    run_at qs = rw (at.state, at.store) (run_saved t h m at.good qs)

    fire_at : (q : ℕ) → fire_of t c.state c.store q ≡ saved (state_of m) (store_in m) (fire_m (view_sheet t) m q)
    fire_at q = rw (at.state, at.store) (fire_saved t h m at.good q)

    pub start_at : GoodStart t c.state c.store
    start_at =
        record {
          size = record {
            counts = ap (λ (k : State). length k.counts) at.state ∙ length-map m.queues length ∙ at.good.many;
            vars = ap (λ (k : State). length k.vars) at.state ∙ at.good.size;
          };
          stands = rw (at.state, at.store) (held_stands t h m at.good);
        }

    kept : (qs : List ℕ) → GoodM (view_sheet t) (run_m (view_sheet t) qs m).machine
    kept qs = run_keeps (view_sheet t) sound qs (from m) at.good

    -- a firing and a run of its one entry, by what the firing comes to
    entry_at : (q : ℕ) →
        ((fire_of t c.state c.store q).state ≡ state_of (run_m (view_sheet t) (q ∷ []) m).machine)
        × ((fire_of t c.state c.store q).store ≡ store_in (run_m (view_sheet t) (q ∷ []) m).machine)
        × (bit (is_accepted (fire_of t c.state c.store q).answer) ≡ (run_m (view_sheet t) (q ∷ []) m).fired)
    unfolding run_from
    entry_at q = rw (fire_at q) (go (fire_m (view_sheet t) m q))
      where
        go : (o : Outcome) →
            ((saved (state_of m) (store_in m) o).state ≡ state_of (ran_on o (from m)).machine)
            × ((saved (state_of m) (store_in m) o).store ≡ store_in (ran_on o (from m)).machine)
            × (bit (is_accepted (saved (state_of m) (store_in m) o).answer) ≡ (ran_on o (from m)).fired)
        go (refuse k) = (refl, refl, refl)
        go (done n) = (refl, refl, refl)

    turn_at : (x : Turn) → At t (turned t c x) (run_m (view_sheet t) (entries_of x) m).machine
    turn_at (firing q) = record { state = (entry_at q).0; store = (entry_at q).1; good = kept (q ∷ []) }
    turn_at (running l) =
        record { state = ap (λ (k : RunCall). k.call.state) (run_at l); store = ap (λ (k : RunCall). k.call.store) (run_at l); good = kept l }

    turn_fired : (x : Turn) → fired_of t c x ≡ (run_m (view_sheet t) (entries_of x) m).fired
    turn_fired (firing q) = (entry_at q).2
    turn_fired (running l) = ap (λ (k : RunCall). k.fired) (run_at l)

  -- a sequence of calls
  calls_at : (xs : List Turn) (c : Call) (m : Machine) → At t c m → At t (called t c xs) (run_m (view_sheet t) (entries xs) m).machine
  unfolding run_from
  calls_at [] c m at = at
  calls_at (x ∷ xs) c m at =
      let n = (run_m (view_sheet t) (entries_of x) m).machine in
      rw (run_machine (view_sheet t) (entries_of x) (entries xs) m) (calls_at xs (turned t c x) n (turn_at c m at x))

  calls_fired : (xs : List Turn) (c : Call) (m : Machine) → At t c m → fired_in t c xs ≡ (run_m (view_sheet t) (entries xs) m).fired
  unfolding run_from
  calls_fired [] c m at = refl
  calls_fired (x ∷ xs) c m at =
      let n = (run_m (view_sheet t) (entries_of x) m).machine in
      omega (
        arith,
        turn_fired c m at x,
        calls_fired xs (turned t c x) n (turn_at c m at x),
        run_fired (view_sheet t) (entries_of x) (entries xs) m,
      )

  pub calls_stand : (xs : List Turn) (c : Call) (m : Machine) → At t c m → AllStand t c xs
  calls_stand [] c m at = tt
  calls_stand (x ∷ xs) c m at = (start_at c m at, calls_stand xs (turned t c x) _ (turn_at c m at x))

-- ---- where sheet and state stand

module _ (t : Sheet) (st : State) (s : List ℤ) (start : GoodStart t st s) where
  here : (p : Paper) → At t (record { answer = p; state = st; store = s }) (decode st s)
  here p =
      let e = encode_of_decode (view_sheet t) st s (both_stand (check_of t) (good (view_sheet t) st s) start.stands).1 start.size.counts in
      record { state = sym e.0; store = sym e.1; good = start_good t st s start }

  ran : (qs : List ℕ) → run_of t st s qs ≡ saved_run (run_m (view_sheet t) qs (decode st s))
  ran = run_of_start t st s start

  joined_standing : (l l' : List ℕ) →
      Joined (run_of t st s l) (run_of t (run_of t st s l).call.state (run_of t st s l).call.store l') (run_of t st s (l ++ l'))
  joined_standing l l' =
      let a = view_sheet t in
      let m = decode st s in
      let n = (run_m a l m).machine in
      let second : run_of t (run_of t st s l).call.state (run_of t st s l).call.store l' ≡ saved_run (run_m a l' n) =
      ap (λ (k : RunCall). run_of t k.call.state k.call.store l') (ran l)
      ∙ run_saved t (start_sheet t st s start) n (kept t (start_sheet t st s start) (held m) m (at_held t m (start_good t st s start)) l) l' in
      record {
        call = ap (λ (k : RunCall). k.call) second ∙ ap held (sym (run_machine a l l' m)) ∙ sym (ap (λ (k : RunCall). k.call) (ran (l ++ l')));
        fired =
            ap (λ (k : RunCall). k.fired) (ran (l ++ l')) ∙ run_fired a l l' m
            ∙ sym (ap₂ ◌+◌ (ap (λ (k : RunCall). k.fired) (ran l)) (ap (λ (k : RunCall). k.fired) second));
        skipped =
            ap (λ (k : RunCall). k.skipped) (ran (l ++ l')) ∙ run_skipped a l l' m
            ∙ sym (ap₂ ◌+◌ (ap (λ (k : RunCall). k.skipped) (ran l)) (ap (λ (k : RunCall). k.skipped) second));
      }

  sequence_standing : (p : Paper) (xs : List Turn) → OneRun t (record { answer = p; state = st; store = s }) xs
  sequence_standing p xs =
      let c : Call = record { answer = p; state = st; store = s } in
      let h = start_sheet t st s start in
      let e = calls_at t h xs c (decode st s) (here p) in
      record {
        left = record {
          state = e.state ∙ sym (ap (λ (k : RunCall). k.call.state) (ran (entries xs)));
          store = e.store ∙ sym (ap (λ (k : RunCall). k.call.store) (ran (entries xs)));
        };
        fired = calls_fired t h xs c (decode st s) (here p) ∙ sym (ap (λ (k : RunCall). k.fired) (ran (entries xs)));
      }

-- ---- where they do not

module _ (t : Sheet) (st : State) (s : List ℤ) (no : is_accepted (stands_of t st s) ≡ false) where
  abbrev nothing : RunCall
  nothing = record { call = unchanged (stands_of t st s) st s; fired = 0; skipped = 0 }

  run_refuses : (qs : List ℕ) → run_of t st s qs ≡ nothing
  unfolding run_of
  run_refuses qs = ap (λ (b : Bool). cond b (saved_run (run_m (view_sheet t) qs (decode st s))) nothing) no

  fire_refuses : (q : ℕ) → fire_of t st s q ≡ unchanged (stands_of t st s) st s
  unfolding fire_of
  fire_refuses q =
      ap (λ (b : Bool). cond b (saved st s (fire_m (view_sheet t) (decode st s) q)) (unchanged (stands_of t st s) st s)) no

  turn_refuses : (p : Paper) (x : Turn) → turned t (record { answer = p; state = st; store = s }) x ≡ unchanged (stands_of t st s) st s
  turn_refuses p (firing q) = fire_refuses q
  turn_refuses p (running l) = ap (λ (k : RunCall). k.call) (run_refuses l)

  turn_fires_none : (p : Paper) (x : Turn) → fired_of t (record { answer = p; state = st; store = s }) x ≡ 0
  turn_fires_none p (firing q) = ap (λ (k : Call). bit (is_accepted k.answer)) (fire_refuses q) ∙ ap bit no
  turn_fires_none p (running l) = ap (λ (k : RunCall). k.fired) (run_refuses l)

  calls_refuse : (xs : List Turn) (p : Paper) →
      LeavesAs (called t (record { answer = p; state = st; store = s }) xs) nothing.call
      × (fired_in t (record { answer = p; state = st; store = s }) xs ≡ 0)
  calls_refuse [] p = (record { state = refl; store = refl }, refl)
  calls_refuse (x ∷ xs) p =
      rw (turn_refuses p x)
      ((calls_refuse xs (stands_of t st s)).0, omega (arith, turn_fires_none p x, (calls_refuse xs (stands_of t st s)).1))

  joined_refused : (l l' : List ℕ) →
      Joined (run_of t st s l) (run_of t (run_of t st s l).call.state (run_of t st s l).call.store l') (run_of t st s (l ++ l'))
  joined_refused l l' =
      rw (run_refuses l, run_refuses (l ++ l'), run_refuses l') (record { call = refl; fired = refl; skipped = refl })

  sequence_refused : (p : Paper) (xs : List Turn) → OneRun t (record { answer = p; state = st; store = s }) xs
  sequence_refused p xs =
      let e = calls_refuse xs p in
      let r = run_refuses (entries xs) in
      record {
        left = record {
          state = e.0.state ∙ sym (ap (λ (k : RunCall). k.call.state) r);
          store = e.0.store ∙ sym (ap (λ (k : RunCall). k.call.store) r);
        };
        fired = e.1 ∙ sym (ap (λ (k : RunCall). k.fired) r);
      }

-- ---- on any sheet and store

stands_or_not : {A : Type 0} (t : Sheet) (st : State) (s : List ℤ) → Sized st →
    (GoodStart t st s → A) → (is_accepted (stands_of t st s) ≡ false → A) → A
stands_or_not {A = A} t st s z f g = go (is_accepted (stands_of t st s)) refl
  where
    go : (b : Bool) → is_accepted (stands_of t st s) ≡ b → A
    go true e = f (record { size = z; stands = accepted_of (stands_of t st s) e })
    go false e = g e

pub runs_join : RunsJoin
runs_join t st s z l l' = stands_or_not t st s z (λ g. joined_standing t st s g l l') (λ n. joined_refused t st s n l l')

pub sequence_is_run : SequenceIsRun
sequence_is_run t c z xs =
    stands_or_not t c.state c.store z (λ g. sequence_standing t c.state c.store g c.answer xs)
    (λ n. sequence_refused t c.state c.store n c.answer xs)

pub firing_is_run : FiringIsRun
firing_is_run t st s z q =
    let e = sequence_is_run t (record { answer = accepted; state = st; store = s }) z (firing q ∷ []) in
    record { left = e.left; fired = omega (arith, e.fired) }
