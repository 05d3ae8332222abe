-- Worst counts worked out in record order satisfy every operator's rule at the end.
-- Assumes nothing.
use mathlib.Core.Path.{◌≡◌, refl, sym, ◌∙◌}
use mathlib.Core.List.{List, [], ◌∷◌}
use Prim.Native.Nat.{ℕ, ◌≤◌}
use native.Mathlib.Omega.{arith}
use lib.ListN.{length, get_or}
use lib.Dec.{eqb}
use borrow.Author.Tests.{eq-eqb}
use Rattle.base_lists.proofs.Bits.{bit_one}
use Rattle.base_lists.proofs.Times.{times_member}
use Rattle.base_lists.proofs.Members.{member_at}
use Rattle.order_theory.proofs.Equations.{Kind, line, latest, double, deal, gather, Queues, Ways}
use Rattle.order_theory.proofs.Counts.{WEq}
use Rattle.order_theory.proofs.Rewrites.{All, none_left, also, first, rest}
use Rattle.order_theory.proofs.Accept.{tot, gives_n, reads_n, Ord, ord_head, ord_rest}
use Rattle.order_theory.proofs.WorstOf.{wput, worst_of, worst_frame, sum_ext, weq_own}

queue_all : (κ : Kind) (P : ℕ → Type 0) → ((r : ℕ) → 1 ≤ reads_n r κ → P r) → ((r : ℕ) → 1 ≤ gives_n r κ → P r) → Queues κ P
unfolding Queues reads_n gives_n
queue_all (line p o ss) P f g = (f p (bit_one (eqb p p) (eq-eqb p p refl)), g o (bit_one (eqb o o) (eq-eqb o o refl)))
queue_all (latest p k h) P f g = f p (bit_one (eqb p p) (eq-eqb p p refl))
queue_all (double p o o') P f g = (
  f p (bit_one (eqb p p) (eq-eqb p p refl)),
  g o (omega (arith, bit_one (eqb o o) (eq-eqb o o refl))),
  g o'
      (omega (arith, bit_one (eqb o' o') (eq-eqb o' o' refl))),
)
queue_all (deal c p os) P f g =
    (f p (bit_one (eqb p p) (eq-eqb p p refl)), λ j h. g (get_or os j 0) (times_member (get_or os j 0) os (member_at os j h)))
queue_all (gather c o is) P f g =
    (g o (bit_one (eqb o o) (eq-eqb o o refl)), λ j h. f (get_or is j 0) (times_member (get_or is j 0) is (member_at is j h)))

weq_same : (κ : Kind) (W W' : ℕ → ℕ) → Queues κ (λ r. W' r ≡ W r) → WEq κ W → WEq κ W'
unfolding WEq Queues
weq_same (line p o ss) W W' q e = rw (q.0, q.1) e
weq_same (latest p k f) W W' q e = tt
weq_same (double p o o') W W' q e = rw (q.0, q.1, q.2) e
weq_same (deal c p os) W W' q e = λ j h. rw (q.0, q.1 j h) (e j h)
weq_same (gather c o is) W W' q e =
    rw q.0 (e ∙ sum_ext (length is) (λ j. W (get_or is j 0)) (λ j. W' (get_or is j 0)) (λ j h. sym (q.1 j h)))

pub worst_all : (ops : List Kind) (W : ℕ → ℕ) → Ord ops → All Ways ops → ((q : ℕ) → tot (gives_n q) ops ≤ 1)
    → All (λ κ. WEq κ (worst_of W ops)) ops
unfolding worst_of tot
worst_all [] W o w d = none_left
worst_all (κ ∷ κs) W o w d = also {x = κ}
    (weq_same κ (wput κ W) (worst_of (wput κ W) κs)
    (queue_all κ (λ r. worst_of (wput κ W) κs r ≡ wput κ W r) (λ r h. worst_frame κs (wput κ W) r (omega (arith, ord_head o r h)))
    (λ r h. worst_frame κs (wput κ W) r (omega (arith, d r))))
    (weq_own κ W (first w) (λ q h. omega (arith, ord_head o q h))))
    (worst_all κs (wput κ W) (ord_rest o) (rest w) (λ q. omega (arith, d q)))
