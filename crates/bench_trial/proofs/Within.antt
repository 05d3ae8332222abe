-- What every input of bytes comes to is within bounds: small numbers, and a good machine of 32-bit numbers.
-- Assumes nothing.
use mathlib.Core.Path.{◌≡◌, refl, sym, subst}
use mathlib.Core.Logic.{◌⊎◌, inl, inr, ⊎_elim}
use mathlib.Core.Bool.{Bool, true, false, cond}
use mathlib.Core.List.{List, [], ◌∷◌}
use Prim.Native.Nat.{ℕ, zero, suc, ◌+◌, ◌-◌, ◌≤◌, ◌<◌}
use native.Mathlib.Omega.{arith}
use lib.Dec.{eqb, ltb}
use lib.ListN.{length, get_or, drop, length-drop}
use Rattle.base_number.specs.Number.{short_of}
use Rattle.base_lists.proofs.Build.{order, same_or}
use Rattle.sheet_operator.specs.Op.{Abstract}
use Rattle.sheet_judge.specs.Judge.{known, whole}
use Rattle.sheet_format.specs.Record.{cut}
use Rattle.base_bounds.specs.Bounds.{OPERATORS, INPUT_BYTES}
use Rattle.sheet.specs.Answer.{accepted}
use Rattle.sheet.specs.Sheet.{view_sheet, memory_sheet}
use Rattle.sheet.specs.Check.{Kept, stopped, kept, next_record, check_of}
use Rattle.codec_read.specs.Read.{front_of}
use Rattle.run_machine.specs.Machine.{Machine, Outcome, refuse, done, full, feed_m, Ran, run_m}
use Rattle.run_machine.specs.Numbers.{GoodM}
use Rattle.run_machine.proofs.FreshLaws.{fresh_good}
use Rattle.run_machine.proofs.Keeps.{feed_keeps, run_keeps}
use Rattle.run_machine.proofs.RunLaws.{run_counts}
use Rattle.run_machine.proofs.Sound.{Sound, sound_of_accepted}
use Rattle.bench_records.specs.Records.{kind_at, queue_at, item_at, feed_body, feed_bytes, firing_kind, firing_body, firing_bytes, is_feed, feed_next, firing_number}
use Rattle.bench_records.specs.Records.{start, Feeds, unfed, fed, feeds_from, Firings, unfired, firings, before, firings_from}
use Rattle.bench_records.proofs.Listing.{firings_end, firings_stop, firings_next}
use Rattle.bench_records.proofs.Feeding.{some_number, whole_body, item_wide, feeds_over, feeds_by}
use Rattle.bench_trial.specs.Trial.{Trial, refusal, ended, fired_trial, fed_trial, kept_trial, trial_of}
use Rattle.bench_trial.proofs.Front.{front_keeps, front_stops, front_small, input_long, input_front}
use Rattle.bench_trial.proofs.Narrow.{NarrowM, item_narrow, feed_narrow, run_narrow, start_narrow}
use Rattle.sheet_format.proofs.Fronts.{drop_below}

-- the first record after the longest sheet
abbrev pub AFTER : ℕ
AFTER = OPERATORS + 1

abbrev Below : List ℕ → Type 0
Below s = (k : ℕ) → get_or s k 0 < 256

-- ---- firings

abbrev FiringsIn : ℕ → ℕ → Firings → Type 0
FiringsIn n b (unfired r k) = (1 ≤ r) × (r ≤ 2) × (k ≤ b)
FiringsIn n b (firings qs) = length qs ≤ n

number_tests : (x y z : Bool) → cond {A = ℕ} x 1 (cond y (cond z 0 1) 2) ≤ 2
number_tests true y z = omega arith
number_tests false true true = omega arith
number_tests false true false = omega arith
number_tests false false z = omega arith

number_small : (s : List ℕ) → firing_number s ≤ 2
unfolding firing_number
number_small s = number_tests (cut s) (eqb (kind_at s) firing_kind) (eqb (short_of s) firing_body)

firings_more : (n m b : ℕ) → n ≤ m → (f : Firings) → FiringsIn n b f → FiringsIn m b f
firings_more n m b l (unfired r k) h = h
firings_more n m b l (firings qs) h = omega arith

before_in : (n b q : ℕ) (f : Firings) → FiringsIn n b f → FiringsIn (suc n) b (before q f)
before_in n b q (unfired r k) h = h
before_in n b q (firings qs) h = omega arith

firings_zero : (k : ℕ) (s : List ℕ) → firings_from 0 k s ≡ firings []
unfolding firings_from
firings_zero k s = refl

firings_in : (n k b : ℕ) (s : List ℕ) → k + n ≤ b → FiringsIn n b (firings_from n k s)
firings_in zero k b s l = subst (FiringsIn 0 b) (sym (firings_zero k s)) (omega arith)
firings_in (suc n) k b s l =
    ⊎_elim (λ (e : length s ≡ 0). subst (FiringsIn (suc n) b) (sym (firings_end (suc n) k s e)) (omega arith))
    (λ (ne : length s ≡ 0 → ⊥).
    ⊎_elim
    (λ (z : firing_number s ≡ 0).
    subst (FiringsIn (suc n) b) (sym (firings_next n k s ne z))
    (before_in n b (queue_at s) (firings_from n (k + 1) (drop firing_bytes s))
    (firings_in n (k + 1) b (drop firing_bytes s) (omega arith))))
    (λ (nz : firing_number s ≡ 0 → ⊥). subst (FiringsIn (suc n) b) (sym (firings_stop n k s ne nz)) (omega arith, number_small s, omega arith))
    (same_or (firing_number s) 0))
    (same_or (length s) 0)

-- ---- feeds

abbrev FeedsIn : Abstract → ℕ → ℕ → Feeds → Type 0
FeedsIn a size b (unfed r k) = (1 ≤ r) × (r ≤ 12) × (k ≤ b)
FeedsIn a size b (fed m k rest) = GoodM a m × NarrowM m × (k ≤ b) × (length rest ≤ size)

feed_tests : (x y z : Bool) (m : Machine) (k : ℕ) → cond x (cond y (cond z (refuse 12) (done m)) (refuse 9)) (refuse 1) ≡ refuse k → k ≤ 12
feed_tests true true true m k e = let q : 12 ≡ k = cc in omega arith
feed_tests true true false m k e = let q : ◌≡◌ {A = ℕ} 0 1 = cc in absurd (omega arith)
feed_tests true false z m k e = let q : 9 ≡ k = cc in omega arith
feed_tests false y z m k e = let q : 1 ≡ k = cc in omega arith

feed_number_lem : (a : Abstract) (m : Machine) (s : List ℕ) (k : ℕ) → feed_next a m s ≡ refuse k → k ≤ 12
unfolding feed_next feed_m
feed_number_lem a m s k e = feed_tests (eqb (short_of s) feed_body) (ltb (queue_at s) a.inputs) (full m.queues (queue_at s ∷ [])) _ k e

feeds_zero : (k : ℕ) (a : Abstract) (m : Machine) (s : List ℕ) → feeds_from 0 a m k s ≡ fed m k s
unfolding feeds_from
feeds_zero k a m s = refl

module _ (a : Abstract) (sound : Sound a) (size b : ℕ) where
  -- one feed, where those after it are within the bounds
  feeds_step : (n k : ℕ) (m : Machine) (s : List ℕ) → k + suc n ≤ b → Below s → GoodM a m → NarrowM m → (o : Outcome) → is_feed s ≡ true →
      feed_next a m s ≡ o → ((m' : Machine) → GoodM a m' → NarrowM m' → FeedsIn a size b (feeds_from n a m' (k + 1) (drop feed_bytes s))) →
      FeedsIn a size b (feeds_from (suc n) a m k s)
  feeds_step n k m s l h g w (refuse r) e d more =
      subst (FeedsIn a size b) (sym (feeds_by n k a m s (refuse r) e d))
      (let z = some_number a m s r d in omega arith, feed_number_lem a m s r d, omega arith)
  feeds_step n k m s l h g w (done m') e d more =
      let p = whole_body a m m' s d in
      subst (FeedsIn a size b) (sym (feeds_by n k a m s (done m') e d))
      (more m' (feed_keeps a sound m g (queue_at s) (item_at s) m' (item_wide s) p.1)
      (feed_narrow a m m' (queue_at s) (item_at s) p.1 w (item_narrow s h)))

  feeds_turn : (n k : ℕ) (m : Machine) (s : List ℕ) → k + suc n ≤ b → length s ≤ size → Below s → GoodM a m → NarrowM m → (c : Bool) →
      is_feed s ≡ c →
      ((m' : Machine) → GoodM a m' → NarrowM m' → FeedsIn a size b (feeds_from n a m' (k + 1) (drop feed_bytes s))) →
      FeedsIn a size b (feeds_from (suc n) a m k s)
  feeds_turn n k m s l i h g w false e more = subst (FeedsIn a size b) (sym (feeds_over (suc n) k a m s e)) (g, w, omega arith, i)
  feeds_turn n k m s l i h g w true e more = feeds_step n k m s l h g w (feed_next a m s) e refl more

  feeds_in_lem : (n k : ℕ) (m : Machine) (s : List ℕ) → k + n ≤ b → length s ≤ size → Below s → GoodM a m → NarrowM m →
      FeedsIn a size b (feeds_from n a m k s)
  feeds_in_lem zero k m s l i h g w = subst (FeedsIn a size b) (sym (feeds_zero k a m s)) (g, w, omega arith, i)
  feeds_in_lem (suc n) k m s l i h g w =
      feeds_turn n k m s l i h g w (is_feed s) refl
      (λ m' g' w'. feeds_in_lem n (k + 1) m' (drop feed_bytes s) (omega arith) (omega (arith, length-drop feed_bytes s))
      (drop_below feed_bytes s h) g' w')

-- ---- the whole input

-- a refusal has small numbers, and its own is not 0; else a good machine of 32-bit numbers on an accepted sheet, with small counts
pub record Ended (f : Trial) : Type 0 where
  pub sheet : Abstract
  pub accepted : check_of (memory_sheet sheet) ≡ accepted
  pub view : view_sheet (memory_sheet sheet) ≡ sheet
  pub sound : Sound sheet
  pub ran : Ran
  pub good : GoodM sheet ran.machine
  pub narrow : NarrowM ran.machine
  pub few : ran.fired + ran.skipped ≤ INPUT_BYTES
  pub same : f ≡ ended sheet ran

pub record Refused (f : Trial) : Type 0 where
  pub number : ℕ
  pub spot : ℕ
  pub some : 1 ≤ number
  pub small : number ≤ 18
  pub early : spot ≤ INPUT_BYTES + INPUT_BYTES + AFTER
  pub same : f ≡ refusal number spot

refusal_in_lem : (r k : ℕ) → 1 ≤ r → r ≤ 18 → k ≤ INPUT_BYTES + INPUT_BYTES + AFTER → Refused (refusal r k)
refusal_in_lem r k i a b = record { number = r; spot = k; some = i; small = a; early = b; same = refl }

module _ (a : Abstract) (ok : check_of (memory_sheet a) ≡ accepted) (view : view_sheet (memory_sheet a) ≡ a) (sound : Sound a) where
  fired_in_lem : (m : Machine) (f : Firings) → GoodM a m → NarrowM m → FiringsIn INPUT_BYTES (INPUT_BYTES + INPUT_BYTES + AFTER) f →
      Ended (fired_trial a m f) ⊎ Refused (fired_trial a m f)
  fired_in_lem m (unfired r k) g w h = inr (refusal_in_lem r k h.0 (omega (arith, h.1)) h.2)
  fired_in_lem m (firings qs) g w h =
      inl
      (record {
        sheet = a;
        accepted = ok;
        view = view;
        sound = sound;
        ran = run_m a qs m;
        good = run_keeps a sound qs (record { fired = 0; skipped = 0; machine = m }) g;
        narrow = run_narrow a sound qs (record { fired = 0; skipped = 0; machine = m }) w;
        few = omega (arith, run_counts a qs m);
        same = refl;
      })

  fed_in : (f : Feeds) → FeedsIn a INPUT_BYTES (INPUT_BYTES + AFTER) f → Ended (fed_trial a f) ⊎ Refused (fed_trial a f)
  fed_in (unfed r k) h = inr (refusal_in_lem r k h.0 (omega (arith, h.1)) (omega (arith, h.2)))
  fed_in (fed m k rest) h =
      fired_in_lem m (firings_from (length rest) k rest) h.0 h.1
      (firings_more (length rest) INPUT_BYTES (INPUT_BYTES + INPUT_BYTES + AFTER) h.3 (firings_from (length rest) k rest)
      (firings_in (length rest) k (INPUT_BYTES + INPUT_BYTES + AFTER) rest (omega (arith, h.2, h.3))))

-- ---- the front

gap_or_fed : (w : Bool) (a : Abstract) (f : Feeds) (k : ℕ) → k ≤ AFTER → (w ≡ true → Ended (fed_trial a f) ⊎ Refused (fed_trial a f)) →
    Ended (cond w (fed_trial a f) (refusal 5 k)) ⊎ Refused (cond w (fed_trial a f) (refusal 5 k))
gap_or_fed true a f k l h = h refl
gap_or_fed false a f k l h = inr (refusal_in_lem 5 k (omega arith) (omega arith) (omega arith))

module _ (s : List ℕ) (below : (k : ℕ) → get_or s k 0 < 256) (l : length s ≤ INPUT_BYTES) where
  kept_in : (k : Kept) → front_of s ≡ k → Ended (kept_trial k) ⊎ Refused (kept_trial k)
  kept_in (stopped r k) e = let p = front_small s r k e in let z = front_stops s r k e in
      inr (refusal_in_lem r k (omega arith) (omega (arith, p.0)) (omega (arith, p.1)))
  kept_in (kept a rest) e =
      let g = front_keeps s a rest below e in
      let few = g.few in
      let n = g.shorter in
      let under : (k : ℕ) → get_or rest k 0 < 256 =
      λ k. subst (λ (u : List ℕ). get_or u k 0 < 256) (sym g.after) (drop_below (length s - length rest) s below k) in
      gap_or_fed (whole a.queues (known a)) a (feeds_from (length rest) a start (next_record a) rest) (next_record a) (omega arith)
      (λ w.
      let sound : Sound a = subst (λ (b : Abstract). Sound b) g.view (sound_of_accepted (memory_sheet a) (g.accepted w)) in
      fed_in a (g.accepted w) g.view sound (feeds_from (length rest) a start (next_record a) rest)
      (feeds_in_lem a sound INPUT_BYTES (INPUT_BYTES + AFTER) (length rest) (next_record a) start rest (omega arith) (omega arith) under
      (fresh_good a sound) start_narrow))

-- every input of bytes
pub trial_within : (s : List ℕ) → ((k : ℕ) → get_or s k 0 < 256) → Ended (trial_of s) ⊎ Refused (trial_of s)
trial_within s below =
    ⊎_elim
    (λ (l : INPUT_BYTES < length s). subst (λ (f : Trial). Ended f ⊎ Refused f) (sym (input_long s l))
    (inr (refusal_in_lem 18 0 (omega arith) (omega arith) (omega arith))))
    (λ (l : length s ≤ INPUT_BYTES). subst (λ (f : Trial). Ended f ⊎ Refused f) (sym (input_front s (front_of s) l refl))
    (kept_in s below l (front_of s) refl))
    (order INPUT_BYTES (length s))
