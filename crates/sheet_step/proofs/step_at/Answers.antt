-- `sheet_step::step_at` meets its contract: each place is read where `step_of` reads it.
use mathlib.Core.Path.{◌≡◌, ◌∙◌}
use mathlib.Core.List.{List}
use Prim.Native.Nat.{ℕ, ◌+◌}
use native.Mathlib.Nat.{add-zero}
use lib.ListN.{get_or, drop}
use lib.Seq.{get_or-drop, drop-drop}
use lib.IntN.{ℤ}
use mir.Syntax.{w32}
use mir.Facts.{to_z-of_z}
use borrow.Author.Rules.{sfits_of}
use Rattle.base_number.specs.Number.{int_of}
use Rattle.sheet_step.specs.Step.{func_of, step_of}
use Rattle.sheet_step.specs.declared.Func.{Func}
use Rattle.sheet_step.specs.declared.Step.{Step}
use Rattle.sheet_step.proofs.step_at.Goals as goal

abbrev step_with : List ℕ → ℕ → Func → ℤ → ℤ → Step
step_with s at f low high =
    record { func = f; variable = get_or s (at + 1) 0; p = get_or s (at + 2) 0; r = get_or s (at + 3) 0; low = low; high = high }

step_from : (s : List ℕ) (at : ℕ) → step_with s at (func_of (get_or s at 0)) (int_of (drop (at + 4) s)) (int_of (drop (at + 8) s)) ≡ step_of (drop at s)
unfolding step_of
step_from s at = simp (get_or-drop, drop-drop, add-zero)

pub returns : goal.returns
returns c =
    let low = to_z-of_z {w = w32} (sfits_of c.int_at.type_inv) ∙ c.int_at.ensures in
    let high = to_z-of_z {w = w32} (sfits_of c.int_at-2.type_inv) ∙ c.int_at-2.ensures in
    rw (c.from.ensures, low, high) (step_from c.args.s.now c.args.at)
