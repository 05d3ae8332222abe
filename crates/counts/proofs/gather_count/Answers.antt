-- `counts::gather_count` meets its contract: the sum of the inputs passed, each at most 2 ^ 60.
use mathlib.Core.Path.{◌≡◌, refl, sym}
use mathlib.Core.List.{List, map}
use Prim.Native.Nat.{ℕ, ◌+◌, ◌≤◌}
use native.Mathlib.Omega.{arith}
use lib.ListN.{get_or}
use Rattle.base_lists.specs.Lists.{sum}
use Rattle.sheet_operator.specs.Memory.{ways}
use Rattle.counts.proofs.Turns.{sum_turn}
use Rattle.counts.proofs.gather_count.Goals as goal

abbrev total : List ℕ → ℕ → List ℕ → ℕ
total w j ps = sum (map (λ (p : ℕ). get_or w p 0) (ways j ps))

turn : (w ps : List ℕ) (n m j : ℕ) → n ≡ total w j ps → m ≡ get_or w (get_or ps j 0) 0 → n + m ≡ total w (j + 1) ps
turn w ps n m j h e = rw (h, e) (sym (sum_turn (λ (p : ℕ). get_or w p 0) j (λ (k : ℕ). get_or ps k 0)))

end : (w ps : List ℕ) (n k j : ℕ) → j ≤ k → k ≤ j → n ≡ total w j ps → n ≡ total w k ps
end w ps n k j a b h = let e : j ≡ k = omega arith in rw e at h

pub loop-j-init : goal.loop-j-init
loop-j-init c = (omega arith, refl, omega arith)

pub overflow_add-n : goal.overflow_add-n
overflow_add-n c =
    omega (arith, c.count_at-n.ensures, c.requires.1 (get_or c.args.ps c.loop-j.j 0))

pub loop-j-preserved : goal.loop-j-preserved
loop-j-preserved c =
    let a = c.args in (
      omega arith,
      turn a.w a.ps c.loop-j.n c.count_at-n.result c.loop-j.j c.loop-j.invariant.1 c.count_at-n.ensures,
      omega (arith, c.count_at-n.ensures, c.requires.1 (get_or a.ps c.loop-j.j 0)),
    )

pub returns : goal.returns
returns c =
    let a = c.args in
    end a.w a.ps c.loop-j.n a.k c.loop-j.j c.loop-j.invariant.0 c.loop-j-test.false c.loop-j.invariant.1
