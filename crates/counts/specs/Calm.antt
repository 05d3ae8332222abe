-- A calm sheet: no variable is named by two operators.
use Rattle.std.specs.Prelude.{ℕ, Bool, true, false, not, ◌&&◌, ◌||◌, List, [], ◌∷◌}
use Rattle.base_lists.specs.Lists.{all, member}
use Rattle.sheet_operator.specs.Op.{Op, Abstract, names}

-- none of the operators names a variable that was named before it
abbrev pub calm_from : (ℕ → Bool) → List Op → Bool
calm_from named [] = true
calm_from named (o ∷ os) = all (λ (v : ℕ). not (named v)) (names o) && calm_from (λ (v : ℕ). member v (names o) || named v) os

abbrev pub is_calm : Abstract → Bool
is_calm a = calm_from (λ (v : ℕ). false) a.ops
