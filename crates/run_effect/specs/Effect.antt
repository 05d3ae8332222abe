-- What an operator does with the item that it takes: the report's F_b, from the item and the variables to what is put where and the variables.
use Rattle.std.specs.Prelude.{ℕ, ◌+◌, ◌%◌, Bool, true, false, cond, not, List, [], ◌∷◌, eqb, ltb, length, get_or, set, ℤ, pos, negsuc}
use Rattle.sheet_operator.specs.Op.{Op, line, latest, double, deal, gather}
use Rattle.run_store.specs.declared.Item.{Item}
use Rattle.run_effect.specs.declared.Effect.{Effect}
use Rattle.run_effect.specs.declared.Flow.{Flow}
use Rattle.run_effect.specs.declared.Puts.{Puts}
use Rattle.run_effect.specs.declared.Puts.TheVariants.{Nowhere, One, Two}
use Rattle.run_effect.specs.Flow.{lined}

-- the queues that get the item, the item, and the variables afterwards
pub record Result : Type 0 where
  pub puts : List ℕ
  pub item : Item
  pub vars : List ℤ

abbrev pub sent : List ℕ → Item → List ℤ → Result
sent puts x vs = record { puts = puts; item = x; vars = vs }

-- a cursor: a variable that holds 0 to ways - 1; it moves on by one, modulo the ways
abbrev pub nat_of : ℤ → ℕ
nat_of (pos n) = n
nat_of (negsuc n) = 0

abbrev pub cursor_at : ℕ → List ℤ → ℕ
cursor_at c vs = nat_of (get_or vs c (pos 0))

abbrev pub moved_on : ℕ → ℕ → List ℤ → List ℤ
moved_on c ways vs = set vs c (pos ((cursor_at c vs + 1) % ways))

abbrev pub line_result : ℕ → Flow → Result
line_result q y = record { puts = cond y.kept (q ∷ []) []; item = y.item; vars = y.vars }

-- the report's split and join go round; its split prints the chosen output with a wrong letter: the cursor decides
unfoldable pub effect : Op → Item → List ℤ → Result
effect (line p q ss) x vs = line_result q (lined ss (record { kept = true; item = x; vars = vs }))
effect (latest p v f) x vs = record { puts = []; item = x; vars = set vs v (get_or x.f f (pos 0)) }
effect (double p q r) x vs = record { puts = q ∷ r ∷ []; item = x; vars = vs }
effect (deal c p qs) x vs = record { puts = get_or qs (cursor_at c vs) 0 ∷ []; item = x; vars = moved_on c (length qs) vs }
effect (gather c q ps) x vs = record { puts = q ∷ []; item = x; vars = moved_on c (length ps) vs }

-- a gather takes from the queue at its cursor alone
unfoldable pub waits : Op → ℕ → List ℤ → Bool
waits (line p q ss) r vs = false
waits (latest p v f) r vs = false
waits (double p q s) r vs = false
waits (deal c p qs) r vs = false
waits (gather c q ps) r vs = not (eqb (get_or ps (cursor_at c vs) 0) r)

-- a cursor lies in 0 to ways - 1
abbrev pub in_ways : ℤ → ℕ → Bool
in_ways (pos n) ways = ltb n ways
in_ways (negsuc n) ways = false

unfoldable pub cursor_good : Op → List ℤ → Bool
cursor_good (line p q ss) vs = true
cursor_good (latest p v f) vs = true
cursor_good (double p q r) vs = true
cursor_good (deal c p qs) vs = in_ways (get_or vs c (pos 0)) (length qs)
cursor_good (gather c q ps) vs = in_ways (get_or vs c (pos 0)) (length ps)

-- the program's effect in these words
abbrev pub puts_of : Puts → List ℕ
puts_of Nowhere = []
puts_of (One a) = a ∷ []
puts_of (Two a b) = a ∷ b ∷ []

abbrev pub result_of : Effect → Result
result_of e = record { puts = puts_of e.puts; item = e.item; vars = e.vars }
