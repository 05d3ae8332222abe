-- A line by its places, and an operator put into a sheet's places.
-- Assumes nothing.
use mathlib.Core.Path.{◌≡◌, refl, sym, ap, ◌∙◌}
use mathlib.Core.Bool.{true}
use mathlib.Core.List.{List, map}
use Prim.Native.Nat.{ℕ, ◌<◌, ◌≤◌}
use native.Mathlib.Omega.{arith}
use lib.ListN.{length, get_or, set, length-map}
use Rattle.base_lists.specs.Lists.{pad}
use Rattle.base_lists.proofs.Build.{never, build_length}
use Rattle.base_lists.proofs.Places.{map_set}
use Rattle.base_lists.proofs.Pad.{set_pad}
use Rattle.sheet_step.specs.Step.{no_step}
use Rattle.sheet_operator.specs.Op.{Op}
use Rattle.sheet_operator.specs.Memory.{PLACES, view, view_as, memory, steps_in, no_operator}
use Rattle.sheet_operator.specs.declared.Kind.{Kind}
use Rattle.sheet_operator.specs.declared.Kind.TheVariants.{Empty, Line, Latest, Double, Deal, Gather}
use Rattle.sheet_operator.specs.declared.Operator.{Operator}
use Rattle.base_bounds.specs.Bounds.{OPERATORS}
use Rattle.sheet.proofs.Placed.{places}
use Rattle.rewrite_rules.specs.Rewrite.{is_line, out_of, steps_of}

line_as : (k : Kind) (o : Operator) → is_line (view_as k o) ≡ true → k ≡ Line
line_as Empty o h = never h
line_as Line o h = refl
line_as Latest o h = never h
line_as Double o h = never h
line_as Deal o h = never h
line_as Gather o h = never h

module _ (o : Operator) (h : is_line (view o) ≡ true) where
  pub line_view : view o ≡ view_as Line o
  line_view = ap (λ (k : Kind). view_as k o) (line_as o.kind o h)

  pub line_out : out_of (view o) ≡ get_or o.outs 0 0
  line_out = ap out_of line_view

  pub line_steps : steps_of (view o) ≡ steps_in o.count o.steps
  line_steps = ap steps_of line_view

  pub line_length : length (steps_of (view o)) ≡ o.count
  line_length = ap length line_steps ∙ build_length o.count (λ (k : ℕ). get_or o.steps k no_step)

  pub line_places : memory (view o) ≡ o → o.steps ≡ pad PLACES no_step (steps_in o.count o.steps)
  line_places e = sym (ap (λ (x : Operator). x.steps) e) ∙ ap (λ (x : Op). (memory x).steps) line_view

-- an operator stored at its place
pub set_places : (os : List Op) (i : ℕ) (x : Op) → i < length os → length os ≤ OPERATORS → set (places os) i (memory x) ≡ places (set os i x)
set_places os i x h b =
    set_pad OPERATORS no_operator (map memory os) i (memory x) (omega (arith, length-map os memory)) (omega (arith, length-map os memory))
    ∙ ap (pad OPERATORS no_operator) (sym (map_set memory os i x))
