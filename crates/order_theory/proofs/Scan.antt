-- From a scan of the records in order, as a reader of sheets makes it, to acceptance by counting.
-- d: the queues defined so far (the inputs at first); r: the queues read so far.
-- Assumes nothing.
use mathlib.Core.Path.{◌≡◌, refl}
use mathlib.Core.Bool.{Bool, true, false, ◌||◌}
use mathlib.Core.List.{List, [], ◌∷◌}
use Prim.Native.Nat.{ℕ, zero, suc, ◌+◌, ◌≤◌, ◌<◌}
use native.Mathlib.Omega.{arith}
use lib.Dec.{ltb}
use borrow.Author.Tests.{ltb-true}
use Rattle.base_lists.specs.Lists.{bit}
use Rattle.base_lists.proofs.Bits.{bit_one}
use Rattle.order_theory.proofs.Equations.{Kind, Ways}
use Rattle.order_theory.proofs.Denote.{takes_from}
use Rattle.order_theory.proofs.Sheets.{gives}
use Rattle.order_theory.proofs.Rewrites.{All, none_left, also}
use Rattle.order_theory.proofs.Accept.{tot, gives_n, reads_n, holds_n, Ord, ord_end, ord_on, Acc, gives_one, not_gives, not_reads, reads_one}

pub record Passes (Q : ℕ) (d r : ℕ → Bool) (κ : Kind) : Type 0 where
  pub ways : Ways κ
  pub known : (q : ℕ) → 1 ≤ reads_n q κ → d q ≡ true
  pub unread : (q : ℕ) → reads_n q κ + bit (r q) ≤ 1
  pub undefined : (q : ℕ) → gives_n q κ + bit (d q) ≤ 1
  pub low : (q : ℕ) → 1 ≤ gives_n q κ → q < Q

pub data Scan (Q : ℕ) : (ℕ → Bool) → (ℕ → Bool) → List Kind → Type 0 where
  at_end_lem : {d r : ℕ → Bool} → ((q : ℕ) → q < Q → d q ≡ true) → Scan Q d r []
  next : {d r : ℕ → Bool} {κ : Kind} {κs : List Kind} → Passes Q d r κ → Scan Q (λ q. d q || gives κ q) (λ q. r q || takes_from κ q) κs
      → Scan Q d r (κ ∷ κs)

bits : (a b : Bool) (n : ℕ) → (b ≡ true → 1 ≤ n) → (b ≡ false → n ≡ 0) → n + bit a ≤ 1 → bit (a || b) ≡ bit a + n
bits true b n f g h = omega arith
bits false true n f g h = omega (arith, f refl)
bits false false n f g h = omega (arith, g refl)

module _ (Q : ℕ) where
  gives_bit : (d r : ℕ → Bool) (κ : Kind) → Passes Q d r κ → (q : ℕ) → bit (d q || gives κ q) ≡ bit (d q) + gives_n q κ
  gives_bit d r κ p q = bits (d q) (gives κ q) (gives_n q κ) (gives_one κ q) (not_gives κ q) (p.undefined q)

  pub scan_gives : {d r : ℕ → Bool} {ops : List Kind} → Scan Q d r ops → (q : ℕ) → tot (gives_n q) ops + bit (d q) ≤ 1
  unfolding tot
  scan_gives {d} (at_end_lem e) q = go (d q)
    where
      go : (b : Bool) → 0 + bit b ≤ 1
      go true = omega arith
      go false = omega arith
  scan_gives (next {d} {r} {κ} p s) q = omega (arith, scan_gives s q, gives_bit d r κ p q)

  pub scan_full : {d r : ℕ → Bool} {ops : List Kind} → Scan Q d r ops → (q : ℕ) → q < Q → 1 ≤ tot (gives_n q) ops + bit (d q)
  unfolding tot
  scan_full {d} (at_end_lem e) q h = omega (arith, bit_one (d q) (e q h))
  scan_full (next {d} {r} {κ} p s) q h = omega (arith, scan_full s q h, gives_bit d r κ p q)

  pub scan_low : {d r : ℕ → Bool} {ops : List Kind} → Scan Q d r ops → (q : ℕ) → Q ≤ q → tot (gives_n q) ops ≡ 0
  unfolding tot
  scan_low (at_end_lem e) q h = refl
  scan_low (next {d} {r} {κ} p s) q h = let z = scan_low s q h in omega (arith, none_past (gives_n q κ) q h (p.low q))
    where
      none_past : (n q : ℕ) → Q ≤ q → (1 ≤ n → q < Q) → n ≡ 0
      none_past zero q h f = refl
      none_past (suc n) q h f = absurd (omega (arith, f (omega arith)))

  pub scan_ord : {d r : ℕ → Bool} {ops : List Kind} → Scan Q d r ops → Ord ops
  scan_ord (at_end_lem e) = ord_end
  scan_ord (next {d} {r} {κ} {κs} p s) =
      ord_on {κ = κ} {κs = κs} (λ q h. omega (arith, scan_gives s q, gives_bit d r κ p q, bit_one (d q) (p.known q h))) (scan_ord s)

  pub scan_ways : {d r : ℕ → Bool} {ops : List Kind} → Scan Q d r ops → All Ways ops
  scan_ways (at_end_lem e) = none_left
  scan_ways (next p s) = also p.ways (scan_ways s)

  reads_bit : (d r : ℕ → Bool) (κ : Kind) → Passes Q d r κ → (q : ℕ) → bit (r q || takes_from κ q) ≡ bit (r q) + reads_n q κ
  reads_bit d r κ p q = bits (r q) (takes_from κ q) (reads_n q κ) (reads_one κ q) (not_reads κ q) (p.unread q)

  pub scan_reads : {d r : ℕ → Bool} {ops : List Kind} → Scan Q d r ops → (q : ℕ) → tot (reads_n q) ops + bit (r q) ≤ 1
  unfolding tot
  scan_reads {r} (at_end_lem e) q = go (r q)
    where
      go : (b : Bool) → 0 + bit b ≤ 1
      go true = omega arith
      go false = omega arith
  scan_reads (next {d} {r} {κ} p s) q = omega (arith, scan_reads s q, reads_bit d r κ p q)

  or_cases : (a b : Bool) (q : ℕ) → (a ≡ true → q < Q) → (b ≡ true → q < Q) → (a || b) ≡ true → q < Q
  or_cases true b q f g h = f refl
  or_cases false b q f g h = g h

  none_past : (n q : ℕ) → Q ≤ q → (1 ≤ n → q < Q) → n ≡ 0
  none_past zero q h f = refl
  none_past (suc n) q h f = absurd (omega (arith, f (omega arith)))

  pub scan_reads_low : {d r : ℕ → Bool} {ops : List Kind} → Scan Q d r ops → ((q : ℕ) → d q ≡ true → q < Q) → (q : ℕ) → Q ≤ q
      → tot (reads_n q) ops ≡ 0
  unfolding tot
  scan_reads_low (at_end_lem e) l q h = refl
  scan_reads_low (next {d} {r} {κ} p s) l q h =
      let z = scan_reads_low s (λ q e. or_cases (d q) (gives κ q) q (l q) (λ g. p.low q (gives_one κ q g)) e) q h in
      omega (arith, none_past (reads_n q κ) q h (λ o. l q (p.known q o)))

  pub scan_acc : (I : ℕ) (ops : List Kind) → I ≤ Q → Scan Q (λ q. ltb q I) (λ q. false) ops → ((k : ℕ) → tot (holds_n k) ops ≤ 1)
      → Acc I Q ops
  scan_acc I ops h s c = record {
    fit = h;
    defs = λ q l. omega (arith, scan_gives s q, scan_full s q l);
    defs_out = λ q l. scan_low s q l;
    reads = λ q. omega (arith, scan_reads s q);
    reads_out = λ q l. scan_reads_low s (λ q e. omega (arith, ltb-true q I e)) q l;
    calm = c;
    ways = scan_ways s;
    ord = scan_ord s;
  }
