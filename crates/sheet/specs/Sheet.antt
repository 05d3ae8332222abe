-- A sheet in memory, the sheet that it stands for, and back.
use Rattle.std.specs.Prelude.{◌≡◌, ℕ, ◌<◌, [], map, length, get_or}
use Rattle.base_lists.specs.Lists.{build, pad}
use Rattle.sheet_operator.specs.Op.{Abstract}
use Rattle.sheet_operator.specs.Memory.{view, memory, no_operator, Held}
use Rattle.sheet_operator.specs.declared.Kind.TheVariants.{Empty}
use Rattle.sheet_operator.specs.declared.Operator.{Operator}
use Rattle.base_bounds.specs.Bounds.{OPERATORS}
use Rattle.sheet.specs.declared.Sheet.{Sheet}

-- the operator at a place (past the end of the array, where nothing reads, one with no places)
abbrev pub missing : Operator
missing = record { kind = Empty; count = 0; variable = 0; field = 0; ins = []; outs = []; steps = [] }

abbrev pub op_at : Sheet → ℕ → Operator
op_at t i = get_or t.operators i missing

-- the head and the first n operators
abbrev pub view_to : Sheet → ℕ → Abstract
view_to t n =
    record {
      inputs = t.inputs;
      queues = t.queues;
      variables = t.variables;
      ops = build n (λ (k : ℕ). view (op_at t k));
    }

abbrev pub view_sheet : Sheet → Abstract
view_sheet t = view_to t t.count

-- a sheet's places: its operators, and then the empty operator
abbrev pub memory_sheet : Abstract → Sheet
memory_sheet a =
    record {
      inputs = a.inputs;
      queues = a.queues;
      variables = a.variables;
      count = length a.ops;
      operators = pad OPERATORS no_operator (map memory a.ops);
    }

-- what stands in a sheet's place on a refusal
abbrev pub no_sheet : Sheet
no_sheet = memory_sheet (record { inputs = 0; queues = 0; variables = 0; ops = [] })

-- what every sheet that the program holds satisfies: a full array, of operators that it holds
pub record HeldSheet (t : Sheet) : Type 0 where
  pub full : length t.operators ≡ OPERATORS
  pub each : (i : ℕ) → i < OPERATORS → Held (op_at t i)
