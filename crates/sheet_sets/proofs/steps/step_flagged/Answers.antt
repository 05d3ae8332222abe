-- `sheet_sets::steps::step_flagged` meets its contract: the row says whether the step names a variable.
use mathlib.Core.Path.{◌≡◌}
use mathlib.Core.Bool.{Bool, true, false, ◌||◌}
use mathlib.Core.List.{List, [], ◌∷◌}
use Prim.Native.Nat.{ℕ}
use native.Mathlib.Omega.{arith}
use lib.Dec.{ltb}
use lib.ListN.{length, set}
use Rattle.base_lists.specs.Lists.{all, member, has}
use Rattle.sheet_step.specs.Step.{row_of, step_names}
use Rattle.sheet_step.specs.declared.Row.{Row}
use Rattle.sheet_step.specs.declared.Step.{Step}
use Rattle.sheet_sets.specs.Sets.{FLAGS}
use Rattle.sheet_sets.proofs.Sets.{has_flagged}
use Rattle.sheet_sets.proofs.steps.step_flagged.Goals as goal

named_flagged : (s : List Bool) (t : Step) (w : Row) (r : List Bool) → length s ≡ FLAGS → all (λ (v : ℕ). ltb v FLAGS) (step_names t) ≡ true →
    w ≡ row_of t.func → w.variable ≡ true → r ≡ set s t.variable true → has r ≡ (λ (k : ℕ). member k (step_names t) || has s k)
unfolding step_names
named_flagged s t w r l b e v h =
    let names : step_names t ≡ t.variable ∷ [] = rw (← e, v) in
    rw names (has_flagged s t.variable r l (rw names at b) h)

none_flagged : (s : List Bool) (t : Step) (w : Row) → w ≡ row_of t.func → w.variable ≡ false → has s ≡ (λ (k : ℕ). member k (step_names t) || has s k)
unfolding step_names
none_flagged s t w e v = rw (← e, v)

pub returns-then-w : goal.returns-then-w
returns-then-w c =
    named_flagged c.args.s _ _ _ (omega arith) c.requires c.row_of-w.ensures c.if-w.true c.flagged.ensures

pub returns : goal.returns
returns c = none_flagged c.args.s _ _ c.row_of-w.ensures c.if-w.false
