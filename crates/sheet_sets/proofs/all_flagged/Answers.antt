-- `sheet_sets::all_flagged` meets its contract: the loop keeps that the set has the queues passed.
use mathlib.Core.Path.{◌≡◌, refl}
use mathlib.Core.Bool.{Bool, ◌||◌}
use mathlib.Core.List.{List}
use Prim.Native.Nat.{ℕ, ◌≤◌, ◌<◌}
use native.Mathlib.Omega.{arith}
use lib.Dec.{ltb}
use lib.ListN.{get_or, length-set}
use borrow.Author.Tests.{ltb-true}
use Rattle.base_lists.specs.Lists.{member, has}
use Rattle.base_lists.proofs.Tests.{all_build}
use Rattle.base_lists.proofs.Flags.{has_more}
use Rattle.sheet_operator.specs.Memory.{ways}
use Rattle.sheet_sets.specs.Sets.{FLAGS}
use Rattle.sheet_sets.proofs.all_flagged.Goals as goal
use Rattle.sheet_sets.proofs.all_flagged.Goals.{In-loop-j}

small : (c : In-loop-j) → get_or c.args.qs c.loop-j.j 0 < FLAGS
small c =
    let a = c.args in
    ltb-true _ FLAGS (all_build (λ (q : ℕ). ltb q FLAGS) a.n (λ (k : ℕ). get_or a.qs k 0) c.requires.1 c.loop-j.j c.loop-j-test.true)

done : (r s : List Bool) (qs : List ℕ) (n j : ℕ) → j ≤ n → n ≤ j → has r ≡ (λ (k : ℕ). member k (ways j qs) || has s k) →
    has r ≡ (λ (k : ℕ). member k (ways n qs) || has s k)
done r s qs n j p q h = let e : j ≡ n = omega arith in rw e at h

pub loop-j-init : goal.loop-j-init
loop-j-init c = (omega arith, omega arith, refl)

pub overflow_cast-q : goal.overflow_cast-q
overflow_cast-q c = omega (arith, small (goal.at.overflow_cast-q c).In-loop-j)

pub bounds-r-q : goal.bounds-r-q
bounds-r-q c = small (goal.at.bounds-r-q c).In-loop-j

pub loop-j-preserved : goal.loop-j-preserved
loop-j-preserved c =
    let a = c.args in (
      omega arith,
      simp length-set c.loop-j.invariant.1,
      has_more c.loop-j.r (has a.s) c.loop-j.j (λ (k : ℕ). get_or a.qs k 0) c.loop-j.invariant.2
          (omega (arith, small (goal.at.loop-j-preserved c).In-loop-j)),
    )

pub returns : goal.returns
returns c =
    done c.loop-j.r c.args.s c.args.qs c.args.n c.loop-j.j c.loop-j.invariant.0 c.loop-j-test.false c.loop-j.invariant.2
