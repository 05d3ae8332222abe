-- `sheet_sets::is_fresh` meets its contract: the loop's set has the queues passed, none of which was known or stood there twice.
use mathlib.Core.Path.{◌≡◌, refl, ◌∙◌, sym, ap}
use mathlib.Core.Bool.{Bool, true, false, ◌||◌}
use mathlib.Core.List.{List}
use Prim.Native.Nat.{ℕ, ◌≤◌, ◌<◌}
use native.Mathlib.Omega.{arith}
use lib.Dec.{ltb}
use lib.ListN.{get_or, length-set}
use borrow.Author.Tests.{ltb-true}
use Rattle.base_lists.specs.Lists.{build, member, fresh, has}
use Rattle.base_lists.proofs.Tests.{all_build}
use Rattle.base_lists.proofs.Flags.{has_more}
use Rattle.base_lists.proofs.Fresh.{fresh_more, fresh_stop}
use Rattle.sheet_operator.specs.Memory.{ways}
use Rattle.sheet_sets.specs.Sets.{FLAGS}
use Rattle.sheet_sets.proofs.is_fresh.Goals as goal
use Rattle.sheet_sets.proofs.is_fresh.Goals.{In-loop-j}

small : (c : In-loop-j) → get_or c.args.qs c.loop-j.j 0 < FLAGS
small c =
    let a = c.args in
    ltb-true _ FLAGS (all_build (λ (q : ℕ). ltb q FLAGS) a.n (λ (k : ℕ). get_or a.qs k 0) c.requires.1 c.loop-j.j c.loop-j-test.true)

-- what the test of the flag says of the queue
told : (t : List Bool) (d : ℕ → Bool) (l : List ℕ) (q : ℕ) (b : Bool) → has t ≡ (λ (k : ℕ). member k l || d k) → has t q ≡ b → (member q l || d q) ≡ b
told t d l q b h e = sym (ap (λ (f : ℕ → Bool). f q) h) ∙ e

done : (d : ℕ → Bool) (qs : List ℕ) (n j : ℕ) → j ≤ n → n ≤ j → fresh d (ways j qs) ≡ true → true ≡ fresh d (ways n qs)
done d qs n j p q h = let e : j ≡ n = omega arith in sym (rw e at h)

pub loop-j-init : goal.loop-j-init
loop-j-init c = (omega arith, omega arith, refl, refl)

pub overflow_cast-q : goal.overflow_cast-q
overflow_cast-q c = omega (arith, small (goal.at.overflow_cast-q c).In-loop-j)

pub bounds-t-q : goal.bounds-t-q
bounds-t-q c = small (goal.at.bounds-t-q c).In-loop-j

pub returns-then-t-q : goal.returns-then-t-q
returns-then-t-q c =
    let a = c.args in
    let g : ℕ → ℕ = λ (k : ℕ). get_or a.qs k 0 in
    sym (fresh_stop (has a.s) a.n c.loop-j.j g c.loop-j-test.true
    (told c.loop-j.t (has a.s) (build c.loop-j.j g) (g c.loop-j.j) true c.loop-j.invariant.2 c.if-t-q.true))

pub bounds-t-q-in-loop-j : goal.bounds-t-q-in-loop-j
bounds-t-q-in-loop-j c = small (goal.at.bounds-t-q-in-loop-j c).In-loop-j

pub loop-j-preserved : goal.loop-j-preserved
loop-j-preserved c =
    let a = c.args in
    let g : ℕ → ℕ = λ (k : ℕ). get_or a.qs k 0 in (
      omega arith,
      simp length-set c.loop-j.invariant.1,
      has_more c.loop-j.t (has a.s) c.loop-j.j g c.loop-j.invariant.2 (omega (arith, small (goal.at.loop-j-preserved c).In-loop-j)),
      fresh_more (has a.s) c.loop-j.j g c.loop-j.invariant.3
          (told c.loop-j.t (has a.s) (build c.loop-j.j g) (g c.loop-j.j) false c.loop-j.invariant.2 c.if-t-q.false),
    )

pub returns : goal.returns
returns c =
    done (has c.args.s) c.args.qs c.args.n c.loop-j.j c.loop-j.invariant.0 c.loop-j-test.false c.loop-j.invariant.3
