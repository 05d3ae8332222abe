-- `sheet_sets::names_apart` meets its contract: each arm looks at the names of its kind.
use mathlib.Core.Path.{◌∙◌, sym}
use mathlib.Core.Bool.{Bool, not}
use mathlib.Core.List.{List}
use Prim.Native.Nat.{ℕ}
use Rattle.base_lists.specs.Lists.{all, has}
use Rattle.base_lists.proofs.Tests.{all_chain}
use Rattle.sheet_step.specs.Step.{step_names}
use Rattle.sheet_operator.specs.Op.{Op, names}
use Rattle.sheet_operator.specs.Memory.{steps_in}
use Rattle.sheet_operator.specs.declared.Kind.TheVariants.{Line}
use Rattle.sheet_operator.proofs.ViewLaws.{by_kind}
use Rattle.sheet_sets.proofs.names_apart.Goals as goal

abbrev apart : List Bool → List ℕ → Bool
apart s l = all (λ (v : ℕ). not (has s v)) l

abbrev apart_by : List Bool → Op → Bool
apart_by s x = apart s (names x)

pub returns-in-Line : goal.returns-in-Line
returns-in-Line c =
    let a = c.args in
    c.steps_apart.ensures ∙ sym (all_chain (λ (v : ℕ). not (has a.s v)) step_names (steps_in a.o.count a.o.steps))
    ∙ by_kind (apart_by a.s) a.o Line c.in-Line.is
