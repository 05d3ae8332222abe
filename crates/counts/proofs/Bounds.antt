-- How large a worst count grows: an operator puts at most four times as much onto a queue as any queue holds before it.
-- Assumes nothing.
use mathlib.Core.Path.{◌≡◌}
use mathlib.Core.Logic.{⊎_elim}
use mathlib.Core.List.{List, [], ◌∷◌, map}
use Prim.Native.Nat.{ℕ, zero, suc, ◌+◌, ◌*◌, ◌/◌, ◌<◌, ◌≤◌, ◌^◌}
use native.Mathlib.Nat.{div-eq_of_lt, div-le_of_le-mul, mul-suc, le_trans, mul-le-mul_right}
use native.Mathlib.Omega.{arith}
use lib.ListN.{length, get_or, set}
use lib.Seq.{get_or-set_same, get_or-set_other, set_out}
use Rattle.base_lists.specs.Lists.{sum}
use Rattle.base_lists.proofs.Build.{order, same_or}
use Rattle.sheet_operator.specs.Op.{Op, line, latest, double, deal, gather}
use Rattle.sheet_operator.proofs.ViewLaws.{Small}
use Rattle.base_bounds.specs.Bounds.{OPERATORS, ROOM}
use Rattle.counts.specs.Worst.{deal_worst, dealt, worst_op}

-- every count is at most b
abbrev pub Within : ℕ → List ℕ → Type 0
Within b w = (q : ℕ) → get_or w q 0 ≤ b

pub within_more : (b c : ℕ) (w : List ℕ) → b ≤ c → Within b w → Within c w
within_more b c w l h q = omega (arith, h q)

pub within_set : (b : ℕ) (w : List ℕ) (p n : ℕ) → Within b w → n ≤ b → Within b (set w p n)
within_set b w p n h l q =
    ⊎_elim
    (λ (e : q ≡ p).
    ⊎_elim (λ (u : p < length w). rw (e, get_or-set_same w p n 0 u) l) (λ (u : length w ≤ p). rw (set_out w p n u) (h q)) (order p (length w)))
    (λ (ne : q ≡ p → ⊥). rw (get_or-set_other w p q n 0 ne) (h q))
    (same_or q p)

-- no output of a deal gets more than there is
deal_some : (m k : ℕ) → (suc m + k) / suc k ≤ suc m
deal_some m k = div-le_of_le-mul (suc k) (omega (arith, mul-suc (suc k) m))

pub deal_within : (n k j : ℕ) → deal_worst n k j ≤ n
deal_within n zero j = omega arith
deal_within zero (suc k) j = let e : (0 + k) / suc k ≡ 0 = div-eq_of_lt (omega arith) in rw e (omega arith)
deal_within (suc m) (suc k) j = deal_some m k

pub within_dealt : (b : ℕ) (n k j : ℕ) (qs w : List ℕ) → n ≤ b → Within b w → Within b (dealt w n k j qs)
within_dealt b n k j [] w l h = h
within_dealt b n k j (q ∷ qs) w l h =
    within_dealt b n k (suc j) qs (set w q (deal_worst n k j)) l (within_set b w q (deal_worst n k j) h (omega (arith, deal_within n k j)))

-- a sum of so many counts
pub sum_within : (b : ℕ) (w ps : List ℕ) → Within b w → sum (map (λ (p : ℕ). get_or w p 0) ps) ≤ length ps * b
sum_within b w [] h = omega arith
sum_within b w (p ∷ ps) h = omega (arith, h p, sum_within b w ps h)

pub within_worst : (b : ℕ) (w : List ℕ) (o : Op) → Small o → Within b w → Within (4 * b) (worst_op w o)
within_worst b w (line p q ss) s h = within_more b (4 * b) (worst_op w (line p q ss)) (omega arith) (within_set b w q (get_or w p 0) h (h p))
within_worst b w (latest p v f) s h = within_more b (4 * b) w (omega arith) h
within_worst b w (double p q r) s h =
    within_more b (4 * b) (worst_op w (double p q r)) (omega arith)
    (within_set b (set w q (get_or w p 0)) r (get_or w p 0) (within_set b w q (get_or w p 0) h (h p)) (h p))
within_worst b w (deal c p qs) s h =
    within_more b (4 * b) (worst_op w (deal c p qs)) (omega arith) (within_dealt b (get_or w p 0) (length qs) 0 qs w (h p) h)
within_worst b w (gather c q ps) s h =
    within_set (4 * b) w q (sum (map (λ (p : ℕ). get_or w p 0) ps)) (within_more b (4 * b) w (omega arith) h)
    (le_trans (sum_within b w ps h) (mul-le-mul_right b s.1))

-- after i operators
abbrev pub bound : ℕ → ℕ
bound zero = ROOM
bound (suc i) = 4 * bound i

bound_grows : (i j : ℕ) → i ≤ j → bound i ≤ bound j
bound_grows i zero h = let e : i ≡ 0 = omega arith in rw e (omega arith)
bound_grows i (suc j) h =
    ⊎_elim (λ (l : i < suc j). omega (arith, bound_grows i j (omega arith))) (λ (l : suc j ≤ i). let e : i ≡ suc j = omega arith in rw e (omega arith))
    (order i (suc j))

pub bound_most : (i : ℕ) → i ≤ OPERATORS → bound i ≤ 2 ^ 60
bound_most i h = omega (arith, bound_grows i OPERATORS h)
