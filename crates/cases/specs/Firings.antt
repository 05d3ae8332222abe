-- Sheets and items for the cases on firing.
use Rattle.std.specs.Prelude.{List, [], ◌∷◌, ℕ, ℤ, pos, negsuc, replicate}
use Rattle.sheet_step.specs.declared.Step.{Step}
use Rattle.sheet_operator.specs.Op.{Op, line, deal, gather}
use Rattle.sheet.specs.declared.Sheet.{Sheet}
use Rattle.run_store.specs.declared.Item.{Item}
use Rattle.order.specs.Samples.{sheet_of, of, keep_in, count_to}

-- the ends of the 32-bit range
abbrev pub LEAST : ℤ
LEAST = negsuc 2147483647

abbrev pub MOST : ℤ
MOST = pos 2147483647

-- a sheet of one operator
abbrev pub only : ℕ → ℕ → ℕ → Op → Sheet
only i q v o = sheet_of i q v (o ∷ [])

abbrev pub keep : ℤ → ℤ → Step
keep low high = keep_in 0 low high

abbrev pub count_first : Step
count_first = count_to 0 3

-- a line from 0 to 1, a three-way deal of 0, a gather of 0 and 1
abbrev pub line_of_steps : List Step → Sheet
line_of_steps ss = only 1 2 1 (line 0 1 ss)

abbrev pub deal_three : Sheet
deal_three = only 1 4 1 (deal 0 0 (1 ∷ 2 ∷ 3 ∷ []))

abbrev pub gather_two : Sheet
gather_two = only 2 3 1 (gather 0 2 (0 ∷ 1 ∷ []))

-- many items of one kind
abbrev pub many : ℕ → List Item
many n = replicate n (of (pos 7))
