-- Sheets in memory that no reading gives: a count out of its range, something in a place that is not used, an empty operator where one is due.
use Rattle.std.specs.Prelude.{List, [], ◌∷◌, ℕ, pos}
use Rattle.base_lists.specs.Lists.{pad}
use Rattle.sheet_step.specs.declared.Func.TheVariants.{None}
use Rattle.sheet_step.specs.declared.Step.{Step}
use Rattle.sheet_operator.specs.Memory.{placed, no_operator}
use Rattle.sheet_operator.specs.declared.Kind.TheVariants.{Empty, Line, Deal, Gather}
use Rattle.sheet_operator.specs.declared.Operator.{Operator}
use Rattle.base_bounds.specs.Bounds.{OPERATORS}
use Rattle.sheet.specs.declared.Sheet.{Sheet}
use Rattle.order.specs.Samples.{add_one}

-- a head with one input, five queues, two variables and n operators over any places
abbrev pub places : ℕ → List Operator → Sheet
places n os = record { inputs = 1; queues = 5; variables = 2; count = n; operators = pad OPERATORS no_operator os }

-- a line from 0 to 1 with a count, a variable and a field, and more ins, outs and steps than it uses
abbrev pub line_with : ℕ → ℕ → ℕ → List ℕ → List ℕ → List Step → Operator
line_with n v f ps qs ss = placed Line n v f (0 ∷ ps) (1 ∷ qs) (add_one ∷ ss)

-- a line without steps, and one with five; a deal one way, and a gather of five
abbrev pub no_steps : Operator
no_steps = placed Line 0 0 0 (0 ∷ []) (1 ∷ []) []

abbrev pub five_steps : Operator
five_steps = line_with 5 0 0 [] [] (add_one ∷ add_one ∷ add_one ∷ [])

abbrev pub one_way : Operator
one_way = placed Deal 1 0 0 (0 ∷ []) (1 ∷ []) []

abbrev pub five_ways : Operator
five_ways = placed Gather 5 0 0 (0 ∷ 1 ∷ 2 ∷ 3 ∷ []) (4 ∷ []) []

-- a step that is none but for one number
abbrev pub step_left : Step
step_left = record { func = None; variable = 0; p = 0; r = 0; low = pos 0; high = pos 1 }

-- an empty operator with something in it
abbrev pub empty_with : Operator
empty_with = placed Empty 0 0 0 (1 ∷ []) [] []
