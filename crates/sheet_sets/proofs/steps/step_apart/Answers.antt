-- `sheet_sets::steps::step_apart` meets its contract: the row says whether the step names a variable.
use mathlib.Core.Path.{◌≡◌}
use mathlib.Core.Bool.{Bool, true, false, not}
use mathlib.Core.List.{List, [], ◌∷◌}
use Prim.Native.Nat.{ℕ}
use Rattle.base_lists.specs.Lists.{all, has}
use Rattle.sheet_step.specs.Step.{row_of, step_names}
use Rattle.sheet_step.specs.declared.Row.{Row}
use Rattle.sheet_step.specs.declared.Step.{Step}
use Rattle.sheet_sets.proofs.Sets.{one_apart}
use Rattle.sheet_sets.proofs.steps.step_apart.Goals as goal

named_apart : (s : List Bool) (t : Step) (w : Row) (r : Bool) → w ≡ row_of t.func → w.variable ≡ true → r ≡ has s t.variable →
    not r ≡ all (λ (v : ℕ). not (has s v)) (step_names t)
unfolding step_names
named_apart s t w r e v h =
    let names : step_names t ≡ t.variable ∷ [] = rw (← e, v) in
    rw names (one_apart s t.variable r h)

none_apart : (s : List Bool) (t : Step) (w : Row) → w ≡ row_of t.func → w.variable ≡ false → true ≡ all (λ (v : ℕ). not (has s v)) (step_names t)
unfolding step_names
none_apart s t w e v = rw (← e, v)

pub returns-then-w : goal.returns-then-w
returns-then-w c = named_apart c.args.s _ _ _ c.row_of-w.ensures c.if-w.true c.flag.ensures

pub returns : goal.returns
returns c = none_apart c.args.s _ _ c.row_of-w.ensures c.if-w.false
