-- A step of a line: the paper's numbers, the table of what each function takes and touches, when a step is refused, and its twelve bytes.
use Rattle.std.specs.Prelude.{ℕ, ◌+◌, Bool, true, false, cond, ◌&&◌, List, [], ◌∷◌, ◌++◌, eqb, ltb, get_or, drop, ℤ, pos}
use Rattle.base_number.specs.Number.{int_of, int_bytes, is_zero}
use Rattle.base_lists.specs.Lists.{bit}
use Rattle.sheet_step.specs.declared.Func.{Func}
use Rattle.sheet_step.specs.declared.Func.TheVariants.{None, Keep, Add, Copy, Count, Stamp}
use Rattle.sheet_step.specs.declared.Row.{Row}
use Rattle.sheet_step.specs.declared.Step.{Step}
use Rattle.base_bounds.specs.Bounds.{FIELDS}

-- the variable that stands for none
abbrev pub NO_VARIABLE : ℕ
NO_VARIABLE = 255

-- the paper's numbers for the functions, both ways; None stands for every unknown one
abbrev pub code_of : Func → ℕ
code_of None = 0
code_of Keep = 1
code_of Add = 2
code_of Copy = 3
code_of Count = 4
code_of Stamp = 5

unfoldable pub func_of : ℕ → Func
func_of n = cond (eqb n 1) Keep (cond (eqb n 2) Add (cond (eqb n 3) Copy (cond (eqb n 4) Count (cond (eqb n 5) Stamp None))))

-- the paper's table: how many places a function takes and which (p always), and which of the fields p (1) and r (2) it reads and writes
abbrev pub row_of : Func → Row
row_of None = record { arity = 0; variable = false; r = false; low = false; high = false; reads = 0; writes = 0 }
row_of Keep = record { arity = 3; variable = false; r = false; low = true; high = true; reads = 1; writes = 0 }
row_of Add = record { arity = 2; variable = false; r = false; low = true; high = false; reads = 1; writes = 1 }
row_of Copy = record { arity = 2; variable = false; r = true; low = false; high = false; reads = 1; writes = 2 }
row_of Count = record { arity = 2; variable = true; r = false; low = false; high = false; reads = 0; writes = 1 }
row_of Stamp = record { arity = 2; variable = true; r = false; low = false; high = false; reads = 0; writes = 1 }

-- how many places a row takes: p, and those of variable, r, low and high that it marks
abbrev pub places_taken : Row → ℕ
places_taken w = 1 + (bit w.variable + (bit w.r + (bit w.low + bit w.high)))

abbrev pub known_func : Func → Bool
known_func None = false
known_func Keep = true
known_func Add = true
known_func Copy = true
known_func Count = true
known_func Stamp = true

-- the variable that a step names, if it takes one
unfoldable pub step_names : Step → List ℕ
step_names t = cond (row_of t.func).variable (t.variable ∷ []) []

-- 6: a variable below V where one is taken, 255 where none is; an unknown function's is not looked at
unfoldable pub step_variable : ℕ → Step → Bool
step_variable v t =
    cond (known_func t.func) (cond (row_of t.func).variable (ltb t.variable v) (eqb t.variable NO_VARIABLE)) true

-- a place that is not taken holds 0
unfoldable pub unused_z : Bool → ℤ → Bool
unused_z taken z = cond taken true (is_zero z)

unfoldable pub field_place : Bool → ℕ → Bool
field_place taken f = cond taken (ltb f FIELDS) (eqb f 0)

-- 7: a known function, its fields below FIELDS, and 0 in the places that it does not take
unfoldable pub step_places : Step → Bool
step_places t =
    known_func t.func && (ltb t.p FIELDS && (field_place (row_of t.func).r t.r
    && (unused_z (row_of t.func).low t.low && unused_z (row_of t.func).high t.high)))

-- what stands in a step's place that is not used
abbrev pub no_step : Step
no_step = record { func = None; variable = 0; p = 0; r = 0; low = pos 0; high = pos 0 }

unfoldable pub blank : Step → Bool
blank t =
    eqb (code_of t.func) 0 && (eqb t.variable 0 && (eqb t.p 0 && (eqb t.r 0 && (is_zero t.low && is_zero t.high))))

-- the bytes of a step, and the step that the first twelve bytes of a list hold, whatever they are
abbrev pub STEP_BYTES : ℕ
STEP_BYTES = 12

unfoldable pub step_bytes : Step → List ℕ
step_bytes t = code_of t.func ∷ t.variable ∷ t.p ∷ t.r ∷ (int_bytes t.low ++ int_bytes t.high)

unfoldable pub step_of : List ℕ → Step
step_of s =
    record {
      func = func_of (get_or s 0 0);
      variable = get_or s 1 0;
      p = get_or s 2 0;
      r = get_or s 3 0;
      low = int_of (drop 4 s);
      high = int_of (drop 8 s);
    }
