-- What reorder's inner functions answer: the test of two lines, step by step and whole.
use Rattle.std.specs.Prelude.{ℕ, Bool, not, ◌&&◌, ◌||◌, ◌++◌}
use Rattle.base_lists.specs.Lists.{all, member}
use Rattle.sheet_step.specs.Step.{row_of}
use Rattle.sheet_step.specs.declared.Step.{Step}
use Rattle.sheet_operator.specs.Op.{Op}
use Rattle.rewrite_rules.specs.Rewrite.{steps_of, touches_none, masked, leaves}

-- the step reads or writes the field; no field that s writes is one that t reads or writes
abbrev pub touched : Step → ℕ → Bool
touched t f = member f (masked (row_of t.func).reads t) || member f (masked (row_of t.func).writes t)

abbrev pub step_leaves : Step → Step → Bool
step_leaves s t = all (λ (f : ℕ). not (touched t f)) (masked (row_of s.func).writes s)

-- the two lines may exchange their steps
abbrev pub may_exchange : Op → Op → Bool
may_exchange x y = all touches_none (steps_of x ++ steps_of y) && (leaves (steps_of x) (steps_of y) && leaves (steps_of y) (steps_of x))
