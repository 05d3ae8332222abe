-- The loop that lists the firings: what holds at its head, one turn, and how it stops and ends.
-- Assumes nothing.
use mathlib.Core.Path.{◌≡◌, refl, sym, ap, ◌∙◌}
use mathlib.Core.List.{List, [], ◌∷◌, ◌++◌, append_assoc, append-nil}
use Prim.Native.Nat.{ℕ, zero, suc, ◌+◌, ◌-◌, ◌*◌, ◌^◌, ◌≤◌, ◌<◌}
use native.Mathlib.Numerals.{add-one}
use native.Mathlib.Omega.{arith}
use lib.ListN.{length, take, drop, set, length-set, length-drop}
use lib.Seq.{drop-drop, take-suc-set}
use borrow.Author.Tests.{eq-eqb, ne_eqb}
use Rattle.std.specs.Prelude.{Ok, Err, Some}
use Rattle.base_refusal.specs.declared.Reason.{Reason}
use Rattle.base_refusal.specs.Refusal.{refusal}
use Rattle.base_refusal.proofs.Reasons.{some_number}
use Rattle.bench_records.specs.Records.{queue_at, firing_bytes, Firings, unfired, firings, before, firing_number, firings_from}
use Rattle.bench_records.specs.Looks.{FiredQueue, Listable, Lists}
use Rattle.bench_records.proofs.RecordLaws.{firing_room}

-- ---- one record

pub firings_end : (n k : ℕ) (s : List ℕ) → length s ≡ 0 → firings_from n k s ≡ firings []
unfolding firings_from
firings_end zero k s e = refl
firings_end (suc n) k s e = rw (eq-eqb (length s) 0 e)

pub firings_stop : (n k : ℕ) (s : List ℕ) → (length s ≡ 0 → ⊥) → (firing_number s ≡ 0 → ⊥) →
    firings_from (suc n) k s ≡ unfired (firing_number s) k
unfolding firings_from
firings_stop n k s e ne = rw (ne_eqb (length s) 0 e, ne_eqb (firing_number s) 0 ne)

pub firings_next : (n k : ℕ) (s : List ℕ) → (length s ≡ 0 → ⊥) → firing_number s ≡ 0 →
    firings_from (suc n) k s ≡ before (queue_at s) (firings_from n (k + 1) (drop firing_bytes s))
unfolding firings_from
firings_next n k s e z = rw (ne_eqb (length s) 0 e, eq-eqb (firing_number s) 0 z)

-- ---- the firings listed before those to come

abbrev before_all : List ℕ → Firings → Firings
before_all qs (unfired r k) = unfired r k
before_all qs (firings rs) = firings (qs ++ rs)

before_none : (f : Firings) → before_all [] f ≡ f
before_none (unfired r k) = refl
before_none (firings rs) = refl

before_more : (qs : List ℕ) (q : ℕ) (f : Firings) → before_all qs (before q f) ≡ before_all (qs ++ (q ∷ [])) f
before_more qs q (unfired r k) = refl
before_more qs q (firings rs) = ap firings (sym (append_assoc qs (q ∷ []) rs))

-- n firings are listed, and with what is left they come to the whole; the list is as long as it was
pub record Listing (s : List ℕ) (from spot : ℕ) (list₀ list : List ℕ) (at n : ℕ) : Type 0 where
  pub size : length list ≡ length list₀
  pub asked : Listable s from spot list₀
  pub place : at ≡ from + firing_bytes * n
  pub inside : at ≤ length s
  pub left : before_all (take n list) (firings_from (length (drop from s) - n) (spot + n) (drop at s)) ≡ firings_from
      (length (drop from s)) spot (drop from s)

pub listing_starts : (s : List ℕ) (from spot : ℕ) (list : List ℕ) → Listable s from spot list → Listing s from spot list list from 0
listing_starts s from spot list h =
    let f = length (drop from s) in
    let a : f - 0 ≡ f = omega arith in
    let b : spot + 0 ≡ spot = omega arith in
    record {
      size = refl;
      asked = h;
      place = omega arith;
      inside = h.inside;
      left = before_none (firings_from (f - 0) (spot + 0) (drop from s)) ∙ rw (a, b);
    }

module _ {s : List ℕ} {from spot : ℕ} {list₀ list : List ℕ} {at n : ℕ} (r : Listing s from spot list₀ list at n) where
  pub listing_place : at < length s → n < length list
  listing_place l = omega (arith, r.place, r.asked.room, r.size)

  -- the numbers fit
  pub listing_small : spot + n < 2 ^ 32
  listing_small = omega (arith, r.place, r.inside, r.asked.small)

  some_left : at < length s → length (drop at s) ≡ 0 → ⊥
  some_left l e = omega (arith, length-drop at s)

  fuel : at < length s → length (drop from s) - n ≡ suc (length (drop from s) - (n + 1))
  fuel l = omega (arith, length-drop from s, r.place)

  pub listing_goes_on : at < length s → (q : ℕ) → FiredQueue (drop at s) (Ok q) → Listing s from spot list₀ (set list n q) (at + firing_bytes) (n + 1)
  listing_goes_on l q d =
      let z = sym d.number in
      let k = length (drop from s) - (n + 1) in
      let b = listing_place l in
      let f = firings_from k (spot + n + 1) (drop (at + firing_bytes) s) in
      let i : spot + (n + 1) ≡ spot + n + 1 = omega arith in
      record {
        size = length-set list n q ∙ r.size;
        asked = r.asked;
        place = omega (arith, r.place);
        inside = firing_room s at z;
        left =
            ap (λ (p : ℕ). before_all (take (n + 1) (set list n q)) (firings_from k p (drop (at + firing_bytes) s))) i
            ∙ ap (λ (p : ℕ). before_all (take p (set list n q)) f) (add-one n)
            ∙ ap (λ (u : List ℕ). before_all u f) (take-suc-set list n q (omega arith))
            ∙ sym (before_more (take n list) q f)
            ∙ ap (λ (p : ℕ). before_all (take n list) (before p f)) d.queue
            ∙ ap (λ (u : List ℕ). before_all (take n list) (before (queue_at (drop at s)) (firings_from k (spot + n + 1) u)))
            (sym (drop-drop firing_bytes at s))
            ∙ ap (before_all (take n list)) (sym (firings_next k (spot + n) (drop at s) (some_left l) z))
            ∙ ap (λ (p : ℕ). before_all (take n list) (firings_from p (spot + n) (drop at s))) (sym (fuel l))
            ∙ r.left;
      }

  pub listing_stops : at < length s → (reason : Reason) → FiredQueue (drop at s) (Err reason) →
      Lists (firings_from (length (drop from s)) spot (drop from s)) (Err (refusal reason (Some (spot + n)))) list
  listing_stops l reason d =
      let k = length (drop from s) - (n + 1) in (
        sym r.left ∙ ap (λ (p : ℕ). before_all (take n list) (firings_from p (spot + n) (drop at s))) (fuel l)
            ∙ ap (before_all (take n list)) (firings_stop k (spot + n) (drop at s) (some_left l) (λ z. omega (arith, d.number, some_number reason)))
            ∙ ap (λ (p : ℕ). unfired p (spot + n)) (sym d.number),
        refl,
      )

  pub listing_ends : length s ≤ at → Lists (firings_from (length (drop from s)) spot (drop from s)) (Ok n) list
  listing_ends l =
      let e : length (drop at s) ≡ 0 = omega (arith, length-drop at s) in (
        sym r.left ∙ ap (before_all (take n list)) (firings_end (length (drop from s) - n) (spot + n) (drop at s) e)
            ∙ ap firings (append-nil (take n list)),
        omega (arith, r.place, r.inside, r.asked.room, r.size),
      )
