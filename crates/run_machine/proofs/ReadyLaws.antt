-- Laws of the ready set: its bits, when it is empty, its count of ones and its trailing zeros, and one turn of the loop that builds it.
-- Assumes nothing.
use mathlib.Core.Path.{◌≡◌, refl, sym, ap, ap₂, ◌∙◌}
use mathlib.Core.Logic.{⊎_elim}
use mathlib.Core.Bool.{Bool, true, false}
use mathlib.Core.List.{List, map}
use Prim.Native.Nat.{ℕ, zero, suc, ◌+◌, ◌-◌, ◌*◌, ◌/◌, ◌%◌, ◌^◌, ◌≤◌, ◌<◌}
use native.Mathlib.Nat.{lt_of_lt_of_le, pow-suc, add-zero, zero-add, mul_comm, div-one, div-div-eq-div-mul}
use native.Mathlib.Numerals.{add-one}
use native.Mathlib.Omega.{arith}
use lib.Count.{ones, ones_step, count_trailing_zeros, trailing_of_zero, trailing_le, under}
use lib.ListN.{length, get_or}
use lib.Pow.{pow_mono}
use Rattle.base_lists.specs.Lists.{bit, build, sum, member}
use Rattle.base_lists.proofs.Build.{order, build_ext}
use Rattle.base_lists.proofs.Bits.{bit_le, bit_false}
use Rattle.sheet_operator.specs.Op.{Op, Abstract, reads}
use Rattle.run_machine.specs.Machine.{Machine, fire_m}
use Rattle.run_machine.specs.Ready.{SET, accepts, ready_at, bits_from, ready_set}
use Rattle.run_machine.proofs.ReaderLaws.{unread_past, fire_unread}

-- a set's lowest bit, and the rest
bits_low : (f : ℕ → Bool) (q n : ℕ) → bits_from f q (suc n) % 2 ≡ bit (f q)
bits_low f q n = omega (arith, bit_le (f q))

bits_high : (f : ℕ → Bool) (q n : ℕ) → bits_from f q (suc n) / 2 ≡ bits_from f (suc q) n
bits_high f q n = omega (arith, bit_le (f q))

pub bits_below : (f : ℕ → Bool) (q n : ℕ) → bits_from f q n < 2 ^ n
bits_below f q zero = omega arith
bits_below f q (suc n) = omega (arith, pow-suc 2 n, bits_below f (suc q) n, bit_le (f q))

pub bits_fit : (f : ℕ → Bool) (q n m : ℕ) → n ≤ m → bits_from f q n < 2 ^ m
bits_fit f q n m h = lt_of_lt_of_le (bits_below f q n) (pow_mono h)

-- bit k is the test at k
pub bits_bit : (f : ℕ → Bool) (q n k : ℕ) → k < n → (bits_from f q n / 2 ^ k) % 2 ≡ bit (f (q + k))
bits_bit f q zero k h = absurd (omega arith)
bits_bit f q (suc n) zero h = ap (λ (x : ℕ). x % 2) (div-one (bits_from f q (suc n))) ∙ bits_low f q n ∙ ap (λ (x : ℕ). bit (f x)) (sym (add-zero q))
bits_bit f q (suc n) (suc k) h =
    ap (λ (d : ℕ). bits_from f q (suc n) / d % 2) (pow-suc 2 k ∙ mul_comm (2 ^ k) 2)
    ∙ ap (λ (x : ℕ). x % 2) (sym (div-div-eq-div-mul (bits_from f q (suc n)) 2 (2 ^ k)) ∙ ap (λ (x : ℕ). x / 2 ^ k) (bits_high f q n))
    ∙ bits_bit f (suc q) n k (omega arith) ∙ ap (λ (x : ℕ). bit (f x)) (omega arith)

pub ready_bit : (a : Abstract) (m : Machine) (q : ℕ) → q < SET → (ready_set a m / 2 ^ q) % 2 ≡ bit (ready_at a m q)
unfolding ready_set
ready_bit a m q h = bits_bit (ready_at a m) 0 SET q h ∙ ap (λ (x : ℕ). bit (ready_at a m x)) (zero-add q)

-- a set is 0 exactly where no test passes
pub bits_zero : (f : ℕ → Bool) (q n : ℕ) → bits_from f q n ≡ 0 → (k : ℕ) → k < n → f (q + k) ≡ false
bits_zero f q zero h k l = absurd (omega arith)
bits_zero f q (suc n) h zero l = ap f (add-zero q) ∙ bit_false (f q) (omega arith)
bits_zero f q (suc n) h (suc k) l = ap f (omega arith) ∙ bits_zero f (suc q) n (omega arith) k (omega arith)

pub bits_zero_of : (f : ℕ → Bool) (q n : ℕ) → ((k : ℕ) → k < n → f (q + k) ≡ false) → bits_from f q n ≡ 0
bits_zero_of f q zero h = refl
bits_zero_of f q (suc n) h =
    let z : f q ≡ false = ap f (sym (add-zero q)) ∙ h 0 (omega arith) in
    let r : bits_from f (suc q) n ≡ 0 = bits_zero_of f (suc q) n (λ k l. ap f (omega arith) ∙ h (suc k) (omega arith)) in
    omega (arith, ap bit z)

pub bits_none : (f : ℕ → Bool) (q n : ℕ) → ((k : ℕ) → q ≤ k → f k ≡ false) → bits_from f q n ≡ 0
bits_none f q n h = bits_zero_of f q n (λ k l. h (q + k) (omega arith))

-- at rest: the set is empty exactly where every queue number is refused, if operators read only queues below SET
pub ready_rest : (a : Abstract) (m : Machine) (d : Op) → ready_set a m ≡ 0 →
    ((i p : ℕ) → i < length a.ops → member p (reads (get_or a.ops i d)) ≡ true → p < SET) → (q : ℕ) → accepts (fire_m a m q) ≡ false
unfolding ready_set
ready_rest a m d h o q =
    ⊎_elim (λ (l : q < SET). ap (ready_at a m) (sym (zero-add q)) ∙ bits_zero (ready_at a m) 0 SET h q l)
    (λ (l : SET ≤ q). ap accepts (fire_unread a.ops m q (unread_past a.ops d SET q o l)))
    (order q SET)

pub rest_ready : (a : Abstract) (m : Machine) → ((q : ℕ) → accepts (fire_m a m q) ≡ false) → ready_set a m ≡ 0
unfolding ready_set
rest_ready a m h = bits_none (ready_at a m) 0 SET (λ k l. h k)

-- how many tests pass
bits_count : (f : ℕ → Bool) (q n : ℕ) → ones (bits_from f q n) ≡ sum (map (λ (k : ℕ). bit (f k)) (build n (λ (k : ℕ). q + k)))
unfolding ones
bits_count f q zero = refl
bits_count f q (suc n) =
    ones_step (bits_from f q (suc n))
    ∙ ap₂ (λ (x y : ℕ). x + ones y) (bits_low f q n) (bits_high f q n)
    ∙ ap₂ (λ (x y : ℕ). x + y) (ap (λ (x : ℕ). bit (f x)) (sym (add-zero q))) (bits_count f (suc q) n
    ∙ ap (λ (l : List ℕ). sum (map (λ (k : ℕ). bit (f k)) l)) (build_ext n (λ (k : ℕ). suc q + k) (λ (k : ℕ). q + suc k) (λ k l. omega arith)))

pub ready_count : (a : Abstract) (m : Machine) → ones (ready_set a m) ≡ sum (map (λ (q : ℕ). bit (ready_at a m q)) (build SET (λ (q : ℕ). q)))
unfolding ready_set
ready_count a m =
    bits_count (ready_at a m) 0 SET
    ∙ ap (λ (l : List ℕ). sum (map (λ (q : ℕ). bit (ready_at a m q)) l)) (build_ext SET (λ (k : ℕ). 0 + k) (λ (k : ℕ). k) (λ k l. zero-add k))

-- the first test that passes
bits_trailing : (f : ℕ → Bool) (q n : ℕ) → count_trailing_zeros (suc n) (bits_from f q (suc n)) ≡ under (bit (f q)) (count_trailing_zeros n (bits_from f (suc q) n))
unfolding count_trailing_zeros
bits_trailing f q n = ap₂ (λ (x y : ℕ). under x (count_trailing_zeros n y)) (bits_low f q n) (bits_high f q n)

under_none : (f : ℕ → Bool) (q t : ℕ) (b : Bool) → f q ≡ b → ((k : ℕ) → k < t → f (suc q + k) ≡ false) →
    (k : ℕ) → k < under (bit b) t → f (q + k) ≡ false
under_none f q t true e h k l = absurd (omega arith)
under_none f q t false e h zero l = ap f (add-zero q) ∙ e
under_none f q t false e h (suc k) l = ap f (omega arith) ∙ h k (omega arith)

under_at : (f : ℕ → Bool) (q t n : ℕ) (b : Bool) → f q ≡ b → (t < n → f (suc q + t) ≡ true) →
    under (bit b) t < suc n → f (q + under (bit b) t) ≡ true
under_at f q t n true e h l = ap f (add-zero q) ∙ e
under_at f q t n false e h l = ap f (omega arith) ∙ h (omega arith)

pub bits_lowest_none : (f : ℕ → Bool) (q n k : ℕ) → k < count_trailing_zeros n (bits_from f q n) → f (q + k) ≡ false
bits_lowest_none f q zero k h = absurd (omega (arith, trailing_le 0 0))
bits_lowest_none f q (suc n) k h =
    under_none f q (count_trailing_zeros n (bits_from f (suc q) n)) (f q) refl (bits_lowest_none f (suc q) n) k (omega (arith, bits_trailing f q n))

pub bits_lowest_at : (f : ℕ → Bool) (q n : ℕ) → count_trailing_zeros n (bits_from f q n) < n → f (q + count_trailing_zeros n (bits_from f q n)) ≡ true
bits_lowest_at f q zero h = absurd (omega arith)
bits_lowest_at f q (suc n) h =
    ap (λ (t : ℕ). f (q + t)) (bits_trailing f q n)
    ∙ under_at f q (count_trailing_zeros n (bits_from f (suc q) n)) n (f q) refl (bits_lowest_at f (suc q) n) (omega (arith, bits_trailing f q n))

-- the least queue that is ready, and SET where none is
pub record Lowest (a : Abstract) (m : Machine) (t : ℕ) : Type 0 where
  pub within : t ≤ SET
  pub below : (q : ℕ) → q < t → ready_at a m q ≡ false
  pub ready : t < SET → ready_at a m t ≡ true

pub ready_lowest : (a : Abstract) (m : Machine) → Lowest a m (count_trailing_zeros SET (ready_set a m))
unfolding ready_set
ready_lowest a m =
    record {
      within = trailing_le SET (ready_set a m);
      below = λ q h. ap (ready_at a m) (sym (zero-add q)) ∙ bits_lowest_none (ready_at a m) 0 SET q h;
      ready = λ h. ap (ready_at a m) (sym (zero-add (count_trailing_zeros SET (ready_set a m)))) ∙ bits_lowest_at (ready_at a m) 0 SET h;
    }

pub ready_lowest_none : (a : Abstract) (m : Machine) → ready_set a m ≡ 0 → count_trailing_zeros SET (ready_set a m) ≡ SET
ready_lowest_none a m h = ap (count_trailing_zeros SET) h ∙ trailing_of_zero SET

-- a loop that builds the set from the top: one queue more
pub bits_more : (f : ℕ → Bool) (q n : ℕ) → q < n → bits_from f q (n - q) ≡ bit (f q) + 2 * bits_from f (q + 1) (n - (q + 1))
bits_more f q n h =
    let e : n - q ≡ suc (n - (q + 1)) = omega arith in
    ap (bits_from f q) e ∙ ap (λ (p : ℕ). bit (f q) + 2 * bits_from f p (n - (q + 1))) (sym (add-one q))

-- the same with the place counted down
pub bits_down : (f : ℕ → Bool) (i n : ℕ) → 0 < i → i ≤ n → bits_from f (i - 1) (n - (i - 1)) ≡ bit (f (i - 1)) + 2 * bits_from f i (n - i)
bits_down f i n h l =
    let e : i - 1 + 1 ≡ i = omega arith in
    bits_more f (i - 1) n (omega arith) ∙ ap (λ (p : ℕ). bit (f (i - 1)) + 2 * bits_from f p (n - p)) e
