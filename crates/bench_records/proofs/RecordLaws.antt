-- Records after the sheet, where they stand in the bytes: what the tests on a record come to, and what they say of the room.
-- Assumes nothing.
use mathlib.Core.Path.{◌≡◌, refl, sym, ap, ◌∙◌}
use mathlib.Core.Bool.{Bool, true, false, cond, not}
use mathlib.Core.List.{List}
use Prim.Native.Nat.{ℕ, ◌+◌, ◌*◌, ◌≤◌, ◌<◌}
use native.Mathlib.Omega.{arith}
use lib.Dec.{eqb}
use lib.ListN.{length, drop, set}
use lib.IntN.{ℤ, pos}
use lib.Seq.{drop-drop}
use borrow.Author.Tests.{eq-eqb, ne_eqb, eqb-true, not-true}
use Rattle.base_number.specs.Number.{short_of, int_of}
use Rattle.base_lists.specs.Lists.{build, pad}
use Rattle.base_lists.proofs.Build.{build_length, build_ext}
use Rattle.base_lists.proofs.Pad.{pad_full, pad_build_more}
use Rattle.base_lists.proofs.Tests.{both}
use Rattle.sheet_format.specs.Record.{HEADER, cut}
use Rattle.sheet_decode.proofs.Cut.{whole_at}
use Rattle.base_bounds.specs.Bounds.{FIELDS}
use Rattle.run_store.specs.declared.Item.{Item}
use Rattle.bench_records.specs.Records.{kind_at, item_at, is_feed, firing_number, feed_kind, firing_kind, firing_body, firing_bytes}

module _ (s : List ℕ) (at : ℕ) where
  kind_from : (n : ℕ) → n ≡ short_of (drop (at + 2) s) → kind_at (drop at s) ≡ n
  kind_from n e = ap short_of (drop-drop 2 at s) ∙ sym e

  pub not_cut_room : (b : Bool) → b ≡ cut (drop at s) → b ≡ false → at + HEADER ≤ length s
  not_cut_room b e h = (whole_at s at (sym e ∙ h)).0

  -- ---- feeds

  pub feed_cut : (b : Bool) → b ≡ cut (drop at s) → b ≡ true → is_feed (drop at s) ≡ false
  unfolding is_feed
  feed_cut b e h = rw (sym e ∙ h)

  pub feed_kind_lem : (b : Bool) → b ≡ cut (drop at s) → b ≡ false → (n : ℕ) → n ≡ short_of (drop (at + 2) s) → is_feed (drop at s) ≡ eqb n feed_kind
  unfolding is_feed
  feed_kind_lem b e h n k = rw (sym e ∙ h, kind_from n k)

  feed_whole : is_feed (drop at s) ≡ true → cut (drop at s) ≡ false
  unfolding is_feed
  feed_whole h = not-true (cut (drop at s)) (both (not (cut (drop at s))) (eqb (kind_at (drop at s)) feed_kind) h).0

  pub feed_room : is_feed (drop at s) ≡ true → (at + HEADER ≤ length s) × (at + HEADER + short_of (drop at s) ≤ length s)
  feed_room h = whole_at s at (feed_whole h)

  -- ---- firings

  pub firing_cut : (b : Bool) → b ≡ cut (drop at s) → b ≡ true → firing_number (drop at s) ≡ 1
  unfolding firing_number
  firing_cut b e h = rw (sym e ∙ h)

  module _ (b : Bool) (e : b ≡ cut (drop at s)) (h : b ≡ false) (n : ℕ) (k : n ≡ short_of (drop (at + 2) s)) where
    pub firing_kind_lem : (n ≡ firing_kind → ⊥) → firing_number (drop at s) ≡ 2
    unfolding firing_number
    firing_kind_lem ne = rw (sym e ∙ h, kind_from n k, ne_eqb n firing_kind ne)

    module _ (i : n ≡ firing_kind) (m : ℕ) (j : m ≡ short_of (drop at s)) where
      pub firing_body_lem : (m ≡ firing_body → ⊥) → firing_number (drop at s) ≡ 1
      unfolding firing_number
      firing_body_lem ne = rw (sym e ∙ h, kind_from n k, eq-eqb n firing_kind i, sym j, ne_eqb m firing_body ne)

      pub firing_good : m ≡ firing_body → firing_number (drop at s) ≡ 0
      unfolding firing_number
      firing_good o = rw (sym e ∙ h, kind_from n k, eq-eqb n firing_kind i, sym j, eq-eqb m firing_body o)

  firing_tests : (x y z : Bool) → ◌≡◌ {A = ℕ} (cond x 1 (cond y (cond z 0 1) 2)) 0 → (x ≡ false) × (z ≡ true)
  firing_tests true y z h = absurd (omega arith)
  firing_tests false true true h = (refl, refl)
  firing_tests false true false h = absurd (omega arith)
  firing_tests false false z h = absurd (omega arith)

  pub firing_room : firing_number (drop at s) ≡ 0 → at + firing_bytes ≤ length s
  unfolding firing_number
  firing_room h =
      let p = firing_tests (cut (drop at s)) (eqb (kind_at (drop at s)) firing_kind) (eqb (short_of (drop at s)) firing_body) h in
      omega (arith, (whole_at s at p.0).1, eqb-true (short_of (drop at s)) firing_body p.1)

-- ---- the item of a feed, field by field

abbrev pub fields_to : List ℕ → ℕ → ℕ → List ℤ
fields_to s at i = pad FIELDS (pos 0) (build i (λ (k : ℕ). int_of (drop (at + (HEADER + 1) + 4 * k) s)))

pub fields_more : (s : List ℕ) (at i : ℕ) (l : List ℤ) (z y : ℤ) → i < FIELDS → l ≡ fields_to s at i → z ≡ int_of (drop (at + (HEADER + 1) + 4 * i) s) →
    y ≡ z →
    set l i y ≡ fields_to s at (i + 1)
fields_more s at i l z y h e q d = rw (d, e, q) (pad_build_more FIELDS i (pos 0) (λ (k : ℕ). int_of (drop (at + (HEADER + 1) + 4 * k) s)) h)

pub fields_all : (s : List ℕ) (at i : ℕ) (x : Item) → i ≡ FIELDS → x.f ≡ fields_to s at i → x ≡ item_at (drop at s)
unfolding item_at
fields_all s at i x e h =
    let g : List ℤ = build FIELDS (λ (k : ℕ). int_of (drop (at + (HEADER + 1) + 4 * k) s)) in
    ap (λ (l : List ℤ). record { f = l })
    (h ∙ ap (fields_to s at) e ∙ pad_full FIELDS (pos 0) g (build_length FIELDS (λ (k : ℕ). int_of (drop (at + (HEADER + 1) + 4 * k) s)))
    ∙ build_ext FIELDS (λ (k : ℕ). int_of (drop (at + (HEADER + 1) + 4 * k) s)) (λ (k : ℕ). int_of (drop (HEADER + 1 + 4 * k) (drop at s)))
    (λ k l. let n : at + (HEADER + 1) + 4 * k ≡ at + (HEADER + 1 + 4 * k) = omega arith in ap (λ (j : ℕ). int_of (drop j s)) n ∙ ap int_of
    (sym (drop-drop (HEADER + 1 + 4 * k) at s))))
