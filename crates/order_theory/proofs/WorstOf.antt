-- Worst counts worked out in record order: an operator's own satisfy its rule (at the end all do: WorstRules).
-- Assumes nothing.
use mathlib.Core.Path.{◌≡◌, refl, ◌∙◌}
use mathlib.Core.Bool.{Bool, true, false, cond, ◌||◌}
use mathlib.Core.List.{List, [], ◌∷◌}
use Prim.Native.Nat.{ℕ, zero, suc, ◌+◌, ◌-◌, ◌/◌, ◌≤◌, ◌<◌}
use native.Mathlib.Omega.{arith}
use lib.ListN.{length, get_or}
use lib.Dec.{eqb}
use borrow.Author.Tests.{eq-eqb}
use Rattle.base_lists.specs.Lists.{member, times}
use Rattle.base_lists.proofs.Bits.{bit_false, bit_one}
use Rattle.base_lists.proofs.Times.{times_member}
use Rattle.base_lists.proofs.Members.{member_at}
use Rattle.base_lists.proofs.Tests.{false_of}
use Rattle.order_theory.proofs.Kahn.{sum}
use Rattle.order_theory.proofs.Equations.{Kind, line, latest, double, deal, gather, Ways}
use Rattle.order_theory.proofs.Counts.{WEq, rounded_up}
use Rattle.order_theory.proofs.Accept.{tot, gives_n, reads_n}

abbrev pub upn : ℕ → ℕ → (ℕ → ℕ) → ℕ → ℕ
upn o n W q = cond (eqb q o) n (W q)

unfoldable pub wput : Kind → (ℕ → ℕ) → ℕ → ℕ
wput (line p o ss) W = upn o (W p) W
wput (latest p k f) W = W
wput (double p o o') W = λ q. cond (eqb q o || eqb q o') (W p) (W q)
wput (deal c p os) W = λ q. cond (member q os) ((W p + (length os - 1)) / length os) (W q)
wput (gather c o is) W = upn o (sum (length is) (λ j. W (get_or is j 0))) W

unfoldable pub worst_of : (ℕ → ℕ) → List Kind → ℕ → ℕ
worst_of W [] = W
worst_of W (κ ∷ κs) = worst_of (wput κ W) κs

times_none : (q : ℕ) (l : List ℕ) → times q l ≡ 0 → member q l ≡ false
times_none q l h = false_of (member q l) (λ m. omega (arith, times_member q l m))

wput_frame : (κ : Kind) (W : ℕ → ℕ) (q : ℕ) → gives_n q κ ≡ 0 → wput κ W q ≡ W q
unfolding wput gives_n
wput_frame (line p o ss) W q h = rw (bit_false (eqb q o) h)
wput_frame (latest p k f) W q h = refl
wput_frame (double p o o') W q h = rw (bit_false (eqb q o) (omega arith), bit_false (eqb q o') (omega arith))
wput_frame (deal c p os) W q h = rw (times_none q os h)
wput_frame (gather c o is) W q h = rw (bit_false (eqb q o) h)

pub worst_frame : (ops : List Kind) (W : ℕ → ℕ) (q : ℕ) → tot (gives_n q) ops ≡ 0 → worst_of W ops q ≡ W q
unfolding worst_of tot
worst_frame [] W q h = refl
worst_frame (κ ∷ κs) W q h = worst_frame κs (wput κ W) q (omega arith) ∙ wput_frame κ W q (omega arith)

pub sum_ext : (n : ℕ) (f g : ℕ → ℕ) → ((k : ℕ) → k < n → f k ≡ g k) → sum n f ≡ sum n g
unfolding sum
sum_ext zero f g h = refl
sum_ext (suc n) f g h = rw (h n (omega arith), sum_ext n f g (λ k l. h k (omega arith)))

pub weq_own : (κ : Kind) (W : ℕ → ℕ) → Ways κ → ((q : ℕ) → 1 ≤ reads_n q κ → gives_n q κ ≡ 0) → WEq κ (wput κ W)
unfolding WEq wput reads_n gives_n Ways
weq_own (line p o ss) W w h = rw (eq-eqb o o refl, bit_false (eqb p o) (h p (bit_one (eqb p p) (eq-eqb p p refl))))
weq_own (latest p k f) W w h = tt
weq_own (double p o o') W w h =
    let z = h p (bit_one (eqb p p) (eq-eqb p p refl)) in (
      rw (eq-eqb o o refl, bit_false (eqb p o) (omega arith), bit_false (eqb p o') (omega arith)),
      rw (bit_false (eqb p o) (omega arith), bit_false (eqb p o') (omega arith), eq-eqb o' o' refl) (go (eqb o' o)),
    )
  where
    go : (b : Bool) → cond (b || true) (W p) (W o') ≡ W p
    go true = refl
    go false = refl
weq_own (deal c p os) W w h = λ j l.
    rw (times_none p os (h p (bit_one (eqb p p) (eq-eqb p p refl))), member_at os j l) (rounded_up (W p) (length os) j w l)
weq_own (gather c o is) W w h =
    rw (eq-eqb o o refl) (sum_ext (length is) (λ j. W (get_or is j 0)) (λ j. upn o (sum (length is) (λ j. W (get_or is j 0))) W (get_or is j 0))
    (λ j l. rw (bit_false (eqb (get_or is j 0) o) (h (get_or is j 0) (times_member (get_or is j 0) is (member_at is j l))))))
