-- What the steps of a line do to an item on its way and to the variables.
use Rattle.std.specs.Prelude.{ℕ, false, cond, List, [], ◌∷◌, get_or, set, ℤ, pos}
use Rattle.base_number.specs.Number.{wrap_add, between}
use Rattle.sheet_step.specs.declared.Func.{Func}
use Rattle.sheet_step.specs.declared.Func.TheVariants.{None, Keep, Add, Copy, Count, Stamp}
use Rattle.sheet_step.specs.declared.Step.{Step}
use Rattle.run_effect.specs.declared.Flow.{Flow}

abbrev pub field_of : Flow → ℕ → ℤ
field_of x p = get_or x.item.f p (pos 0)

abbrev pub var_of : Flow → ℕ → ℤ
var_of x v = get_or x.vars v (pos 0)

abbrev pub with_field : Flow → ℕ → ℤ → Flow
with_field x p z = record { kept = x.kept; item = record { f = set x.item.f p z }; vars = x.vars }

abbrev pub with_var : Flow → ℕ → ℤ → Flow
with_var x v z = record { kept = x.kept; item = x.item; vars = set x.vars v z }

abbrev pub dropped : Flow → Flow
dropped x = record { kept = false; item = x.item; vars = x.vars }

-- what Add puts in its field, and what Count puts in its variable
abbrev pub add_of : ℤ → ℤ → ℤ
add_of a b = wrap_add a b

abbrev pub count_of : ℤ → ℤ
count_of a = wrap_add a (pos 1)

-- the paper's column "Does"
unfoldable pub does : Func → Step → Flow → Flow
does None s x = x
does Keep s x = cond (between s.low (field_of x s.p) s.high) x (dropped x)
does Add s x = with_field x s.p (add_of (field_of x s.p) s.low)
does Copy s x = with_field x s.r (field_of x s.p)
does Count s x = with_field (with_var x s.variable (count_of (var_of x s.variable))) s.p (count_of (var_of x s.variable))
does Stamp s x = with_field x s.p (var_of x s.variable)

-- a dropped item skips the rest
unfoldable pub stepped : Step → Flow → Flow
stepped s x = cond x.kept (does s.func s x) x

abbrev pub lined : List Step → Flow → Flow
lined [] x = x
lined (s ∷ ss) x = lined ss (stepped s x)
