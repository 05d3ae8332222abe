-- Small parts that the instance, the slips and the cases are made of: sheets, items, steps, and machines that hold items.
use Rattle.std.specs.Prelude.{ℕ, List, [], ◌∷◌, ℤ, pos}
use Rattle.base_lists.specs.Lists.{pad}
use Rattle.sheet_step.specs.Step.{NO_VARIABLE}
use Rattle.sheet_step.specs.declared.Func.TheVariants.{Keep, Add, Copy, Count, Stamp}
use Rattle.sheet_step.specs.declared.Step.{Step}
use Rattle.sheet_operator.specs.Op.{Op}
use Rattle.base_bounds.specs.Bounds.{VARIABLES, FIELDS, QUEUES}
use Rattle.sheet.specs.declared.Sheet.{Sheet}
use Rattle.sheet.specs.Sheet.{memory_sheet}
use Rattle.run_store.specs.declared.Item.{Item}
use Rattle.run_machine.specs.Machine.{Machine}

-- I inputs, Q queues, V variables and the operators
abbrev pub sheet_of : ℕ → ℕ → ℕ → List Op → Sheet
sheet_of i q v os = memory_sheet (record { inputs = i; queues = q; variables = v; ops = os })

-- an item with its first fields, and 0 in the others
abbrev pub item : List ℤ → Item
item l = record { f = pad FIELDS (pos 0) l }

abbrev pub of : ℤ → Item
of a = item (a ∷ [])

-- a machine with items in its first queues and numbers in its first variables
abbrev pub holding : List (List Item) → List ℤ → Machine
holding qs vs = record { queues = pad QUEUES [] qs; vars = pad VARIABLES (pos 0) vs }

-- the steps: field and bounds, field and number, two fields, variable and field
abbrev pub keep_in : ℕ → ℤ → ℤ → Step
keep_in p low high = record { func = Keep; variable = NO_VARIABLE; p = p; r = 0; low = low; high = high }

abbrev pub add_to : ℕ → ℤ → Step
add_to p low = record { func = Add; variable = NO_VARIABLE; p = p; r = 0; low = low; high = pos 0 }

abbrev pub copy_to : ℕ → ℕ → Step
copy_to p r = record { func = Copy; variable = NO_VARIABLE; p = p; r = r; low = pos 0; high = pos 0 }

abbrev pub count_to : ℕ → ℕ → Step
count_to v p = record { func = Count; variable = v; p = p; r = 0; low = pos 0; high = pos 0 }

abbrev pub stamp_to : ℕ → ℕ → Step
stamp_to v p = record { func = Stamp; variable = v; p = p; r = 0; low = pos 0; high = pos 0 }

abbrev pub add_one : Step
add_one = add_to 0 (pos 1)
