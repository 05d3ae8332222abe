-- `sheet_decode::line_at` meets its contract: the steps are read from the third byte on.
use mathlib.Core.Path.{◌≡◌}
use mathlib.Core.List.{List, [], ◌∷◌}
use Prim.Native.Nat.{ℕ, ◌+◌, ◌*◌, ◌-◌, ◌/◌}
use native.Mathlib.Nat.{add-zero}
use native.Mathlib.Omega.{arith}
use lib.ListN.{get_or, drop}
use lib.Seq.{get_or-drop}
use Rattle.base_lists.specs.Lists.{build, pad}
use Rattle.base_lists.proofs.Build.{build_length}
use Rattle.sheet_step.specs.Step.{no_step, step_of}
use Rattle.sheet_step.specs.declared.Step.{Step}
use Rattle.sheet_operator.specs.Memory.{memory}
use Rattle.sheet_operator.specs.declared.Kind.TheVariants.{Line}
use Rattle.sheet_operator.specs.declared.Operator.{Operator}
use Rattle.sheet_format.specs.Record.{op_of}
use Rattle.sheet_decode.proofs.Bodies.{line_body, steps_of_drop}
use Rattle.sheet_decode.proofs.line_at.Goals as goal

abbrev line_with : List ℕ → ℕ → ℕ → List Step → Operator
line_with s at n w =
    record {
      kind = Line;
      count = (n - 2) / 12;
      variable = 0;
      field = 0;
      ins = pad 4 0 (get_or s at 0 ∷ []);
      outs = pad 4 0 (get_or s (at + 1) 0 ∷ []);
      steps = w;
    }

line_from : (s : List ℕ) (at n : ℕ) (w : List Step) → w ≡ pad 4 no_step (build ((n - 2) / 12) (λ (k : ℕ). step_of (drop (at + 2 + 12 * k) s))) →
    line_with s at n w ≡ memory (op_of Line n (drop at s))
line_from s at n w e = rw (e, steps_of_drop s at ((n - 2) / 12)) (simp (build_length, get_or-drop, add-zero))

pub overflow_sub-count : goal.overflow_sub-count
overflow_sub-count c = omega (arith, line_body c.args.n c.requires.1)

pub steps_at-steps-requires : goal.steps_at-steps-requires
steps_at-steps-requires c = omega (arith, line_body c.args.n c.requires.1)

pub overflow_cast-result : goal.overflow_cast-result
overflow_cast-result c = omega (arith, line_body c.args.n c.requires.1)

pub bounds-s-at : goal.bounds-s-at
bounds-s-at c = omega (arith, line_body c.args.n c.requires.1)

pub bounds-s-at-2 : goal.bounds-s-at-2
bounds-s-at-2 c = omega (arith, line_body c.args.n c.requires.1)

pub returns : goal.returns
returns c =
    let a = c.args in
    line_from a.s.now a.at a.n _ c.steps_at-steps.ensures
