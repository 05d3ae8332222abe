-- An operator in memory: flat places, 0 in those that its kind or count does not use.
use Rattle.std.specs.Prelude.{◌≡◌, ℕ, ◌<◌, ◌≤◌, Bool, true, false, cond, ◌&&◌, ◌||◌, List, [], ◌∷◌, eqb, ltb, leb, length, get_or}
use Rattle.std.specs.Int.{w32}
use Rattle.std.proofs.Common.{SFits}
use Rattle.base_lists.specs.Lists.{build, pad, all}
use Rattle.sheet_step.specs.Step.{no_step, blank}
use Rattle.sheet_step.specs.declared.Step.{Step}
use Rattle.sheet_operator.specs.declared.Kind.{Kind}
use Rattle.sheet_operator.specs.declared.Kind.TheVariants.{Empty, Line, Latest, Double, Deal, Gather}
use Rattle.sheet_operator.specs.declared.Operator.{Operator}
use Rattle.sheet_operator.specs.declared.Shape.{Shape}
use Rattle.sheet_operator.specs.Op.{Op, line, latest, double, deal, gather}

-- a line's steps, or the ways of a deal or a gather, at the most
abbrev pub PLACES : ℕ
PLACES = 4

-- what each kind uses, given its count of steps or ways: the least and the most count, and how many ins, outs and steps; variable; field
abbrev pub shape_of : Kind → ℕ → Shape
shape_of Empty n = record { least = 0; most = 0; ins = 0; outs = 0; steps = 0; variable = false; field = false }
shape_of Line n = record { least = 1; most = PLACES; ins = 1; outs = 1; steps = n; variable = false; field = false }
shape_of Latest n = record { least = 0; most = 0; ins = 1; outs = 0; steps = 0; variable = true; field = true }
shape_of Double n = record { least = 0; most = 0; ins = 1; outs = 2; steps = 0; variable = false; field = false }
shape_of Deal n = record { least = 2; most = PLACES; ins = 1; outs = n; steps = 0; variable = true; field = false }
shape_of Gather n = record { least = 2; most = PLACES; ins = n; outs = 1; steps = 0; variable = true; field = false }

-- the places from n on hold 0; they hold no step
abbrev pub zeros_from : ℕ → List ℕ → Bool
zeros_from n l = all (λ (k : ℕ). ltb k n || eqb (get_or l k 0) 0) (build PLACES (λ (k : ℕ). k))

abbrev pub blanks_from : ℕ → List Step → Bool
blanks_from n l = all (λ (k : ℕ). ltb k n || blank (get_or l k no_step)) (build PLACES (λ (k : ℕ). k))

-- the count is in its range, and every place that the shape does not use is 0
unfoldable pub tidy_as : Shape → Operator → Bool
tidy_as s o =
    leb s.least o.count && (leb o.count s.most
    && (zeros_from s.ins o.ins && (zeros_from s.outs o.outs && (blanks_from s.steps o.steps
    && ((s.variable || eqb o.variable 0) && (s.field || eqb o.field 0))))))

abbrev pub tidy : Operator → Bool
tidy o = tidy_as (shape_of o.kind o.count) o

abbrev pub is_empty : Kind → Bool
is_empty Empty = true
is_empty Line = false
is_empty Latest = false
is_empty Double = false
is_empty Deal = false
is_empty Gather = false

-- below N: 2 for an empty operator, then 1 for one that is not tidy; past N: the empty operator
unfoldable pub memory_number : Operator → ℕ
memory_number o = cond (is_empty o.kind) 2 (cond (tidy o) 0 1)

unfoldable pub vacant : Operator → Bool
vacant o = is_empty o.kind && tidy o

-- the operator that the places stand for (an empty one is never asked)
abbrev pub ways : ℕ → List ℕ → List ℕ
ways n l = build n (λ (k : ℕ). get_or l k 0)

abbrev pub steps_in : ℕ → List Step → List Step
steps_in n l = build n (λ (k : ℕ). get_or l k no_step)

abbrev pub view_as : Kind → Operator → Op
view_as Empty o = double 0 0 0
view_as Line o = line (get_or o.ins 0 0) (get_or o.outs 0 0) (steps_in o.count o.steps)
view_as Latest o = latest (get_or o.ins 0 0) o.variable o.field
view_as Double o = double (get_or o.ins 0 0) (get_or o.outs 0 0) (get_or o.outs 1 0)
view_as Deal o = deal o.variable (get_or o.ins 0 0) (ways o.count o.outs)
view_as Gather o = gather o.variable (get_or o.outs 0 0) (ways o.count o.ins)

abbrev pub view : Operator → Op
view o = view_as o.kind o

-- and back: the places of an operator, filled up with zeros
abbrev pub placed : Kind → ℕ → ℕ → ℕ → List ℕ → List ℕ → List Step → Operator
placed k n v f ps qs ss =
    record {
      kind = k;
      count = n;
      variable = v;
      field = f;
      ins = pad PLACES 0 ps;
      outs = pad PLACES 0 qs;
      steps = pad PLACES no_step ss;
    }

abbrev pub memory : Op → Operator
memory (line p q ss) = placed Line (length ss) 0 0 (p ∷ []) (q ∷ []) ss
memory (latest p v f) = placed Latest 0 v f (p ∷ []) [] []
memory (double p q r) = placed Double 0 0 0 (p ∷ []) (q ∷ r ∷ []) []
memory (deal c p qs) = placed Deal (length qs) c 0 (p ∷ []) qs []
memory (gather c q ps) = placed Gather (length ps) c 0 ps (q ∷ []) []

abbrev pub no_operator : Operator
no_operator = placed Empty 0 0 0 [] [] []

-- what the functions on one operator ask of it: a count in range, and some kind
pub record Ready (o : Operator) : Type 0 where
  pub small : o.count ≤ PLACES
  pub some : is_empty o.kind ≡ false

-- what every operator that the program holds satisfies: full arrays, and numbers that fit their types
pub record Held (o : Operator) : Type 0 where
  pub ins_full : length o.ins ≡ PLACES
  pub outs_full : length o.outs ≡ PLACES
  pub steps_full : length o.steps ≡ PLACES
  pub count_byte : o.count < 256
  pub variable_byte : o.variable < 256
  pub field_byte : o.field < 256
  pub ins_bytes : (k : ℕ) → get_or o.ins k 0 < 256
  pub outs_bytes : (k : ℕ) → get_or o.outs k 0 < 256
  pub step_variables : (k : ℕ) → (get_or o.steps k no_step).variable < 256
  pub step_ps : (k : ℕ) → (get_or o.steps k no_step).p < 256
  pub step_rs : (k : ℕ) → (get_or o.steps k no_step).r < 256
  pub step_lows : (k : ℕ) → SFits w32 (get_or o.steps k no_step).low
  pub step_highs : (k : ℕ) → SFits w32 (get_or o.steps k no_step).high
