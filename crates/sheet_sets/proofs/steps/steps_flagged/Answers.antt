-- `sheet_sets::steps::steps_flagged` meets its contract: the loop keeps that the set has what the steps passed name.
use mathlib.Core.Path.{◌≡◌, refl}
use mathlib.Core.Bool.{Bool, ◌||◌}
use mathlib.Core.List.{List}
use Prim.Native.Nat.{ℕ, ◌≤◌}
use native.Mathlib.Omega.{arith}
use lib.Dec.{ltb}
use lib.ListN.{get_or}
use Rattle.base_lists.specs.Lists.{member, chain, has}
use Rattle.base_lists.proofs.Chains.{all_chain_at}
use Rattle.base_lists.proofs.Flags.{has_chain_more}
use Rattle.sheet_step.specs.Step.{no_step, step_names}
use Rattle.sheet_step.specs.declared.Step.{Step}
use Rattle.sheet_operator.specs.Memory.{steps_in}
use Rattle.sheet_sets.specs.Sets.{FLAGS}
use Rattle.sheet_sets.proofs.steps.steps_flagged.Goals as goal

done : (r s : List Bool) (ss : List Step) (n j : ℕ) → j ≤ n → n ≤ j → has r ≡ (λ (k : ℕ). member k (chain step_names (steps_in j ss)) || has s k) →
    has r ≡ (λ (k : ℕ). member k (chain step_names (steps_in n ss)) || has s k)
done r s ss n j p q h = let e : j ≡ n = omega arith in rw e at h

pub loop-j-init : goal.loop-j-init
loop-j-init c = (omega arith, refl)

pub step_flagged-next-requires : goal.step_flagged-next-requires
step_flagged-next-requires c =
    let a = c.args in
    all_chain_at (λ (v : ℕ). ltb v FLAGS) step_names a.n (λ (k : ℕ). get_or a.ss k no_step) c.requires.1 c.loop-j.j c.loop-j-test.true

pub loop-j-preserved : goal.loop-j-preserved
loop-j-preserved c =
    let a = c.args in (
      omega arith,
      has_chain_more c.step_flagged-next.result c.loop-j.r (has a.s) step_names c.loop-j.j (λ (k : ℕ). get_or a.ss k no_step)
          c.step_flagged-next.ensures c.loop-j.invariant.1,
    )

pub returns : goal.returns
returns c =
    done c.loop-j.r c.args.s c.args.ss c.args.n c.loop-j.j c.loop-j.invariant.0 c.loop-j-test.false c.loop-j.invariant.1
