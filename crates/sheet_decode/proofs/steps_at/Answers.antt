-- `sheet_decode::steps_at` meets its contract: the places hold the steps read so far, and then no step.
use mathlib.Core.Path.{◌≡◌, refl, ap, ◌∙◌}
use mathlib.Core.List.{List}
use Prim.Native.Nat.{ℕ, ◌+◌, ◌*◌, ◌<◌}
use native.Mathlib.Omega.{arith}
use lib.ListN.{drop, set}
use Rattle.base_lists.specs.Lists.{build, pad}
use Rattle.base_lists.proofs.Pad.{pad_build_more}
use Rattle.sheet_step.specs.Step.{step_of, no_step}
use Rattle.sheet_step.specs.declared.Step.{Step}
use Rattle.sheet_decode.proofs.steps_at.Goals as goal

abbrev steps_to : List ℕ → ℕ → ℕ → List Step
steps_to s at i = pad 4 no_step (build i (λ (k : ℕ). step_of (drop (at + 12 * k) s)))

-- one step more
more : (s : List ℕ) (at i : ℕ) (l : List Step) (t : Step) → i < 4 → l ≡ steps_to s at i → t ≡ step_of (drop (at + 12 * i) s) →
    set l i t ≡ steps_to s at (i + 1)
more s at i l t h e q = rw (e, q) (pad_build_more 4 i no_step (λ (k : ℕ). step_of (drop (at + 12 * k) s)) h)

pub loop-i-init : goal.loop-i-init
loop-i-init c = (omega arith, refl)

pub loop-i-preserved : goal.loop-i-preserved
loop-i-preserved c =
    (omega arith, more _ c.args.at c.loop-i.i _ _ (omega arith) c.loop-i.invariant.1 c.step_at.ensures)

pub returns : goal.returns
returns c =
    let e : c.loop-i.i ≡ c.args.n = omega arith in
    c.loop-i.invariant.1 ∙ ap (steps_to _ _) e
