-- Worst counts: the most items that a queue can hold, from the numbers fed, worked out in record order.
use Rattle.std.specs.Prelude.{ℕ, zero, suc, ◌+◌, ◌/◌, Bool, cond, List, [], ◌∷◌, map, eqb, ltb, leb, length, get_or, set}
use Rattle.base_lists.specs.Lists.{build, all, sum}
use Rattle.sheet_operator.specs.Op.{Op, line, latest, double, deal, gather}
use Rattle.base_bounds.specs.Bounds.{QUEUES, ROOM}

-- 8: at most ROOM for each input, and 0 for a queue that is none
unfoldable pub feed_good : ℕ → List ℕ → Bool
feed_good inputs fed =
    all (λ (q : ℕ). cond (ltb q inputs) (leb (get_or fed q 0) ROOM) (eqb (get_or fed q 0) 0)) (build QUEUES (λ (q : ℕ). q))

-- of output j of a k-way deal of n items: n/k rounded up
abbrev pub deal_worst : ℕ → ℕ → ℕ → ℕ
deal_worst n zero j = 0
deal_worst n (suc k) j = (n + k) / suc k

abbrev pub dealt : List ℕ → ℕ → ℕ → ℕ → List ℕ → List ℕ
dealt w n k j [] = w
dealt w n k j (q ∷ qs) = dealt (set w q (deal_worst n k j)) n k (suc j) qs

-- a line's or double's outputs have its input's count, a gather's the sum of its inputs'
abbrev pub worst_op : List ℕ → Op → List ℕ
worst_op w (line p q ss) = set w q (get_or w p 0)
worst_op w (latest p v f) = w
worst_op w (double p q r) = set (set w q (get_or w p 0)) r (get_or w p 0)
worst_op w (deal c p qs) = dealt w (get_or w p 0) (length qs) 0 qs
worst_op w (gather c q ps) = set w q (sum (map (λ (p : ℕ). get_or w p 0) ps))

abbrev pub worst_from : List ℕ → List Op → List ℕ
worst_from w [] = w
worst_from w (o ∷ os) = worst_from (worst_op w o) os
