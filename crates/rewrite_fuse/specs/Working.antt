-- What fuse's inner functions answer: an operator that goes out of a list, and a queue that goes out of an operator's places.
use Rattle.std.specs.Prelude.{ℕ, ◌+◌, cond, List, ◌++◌, map, ltb, take, drop}
use Rattle.sheet_operator.specs.declared.Operator.{Operator}
use Rattle.rewrite_rules.specs.Rewrite.{fallen}

-- the list without element j, and the place where element k of what is left stood
abbrev pub without : {A : Type 0} → ℕ → List A → List A
without j l = take j l ++ drop (j + 1) l

abbrev pub skip : ℕ → ℕ → ℕ
skip j k = cond (ltb k j) k (k + 1)

-- queue m goes, in an operator's places: 0, which an unused place holds, stays
abbrev pub lowered_in : ℕ → Operator → Operator
lowered_in m o =
    record {
      kind = o.kind;
      count = o.count;
      variable = o.variable;
      field = o.field;
      ins = map (fallen m) o.ins;
      outs = map (fallen m) o.outs;
      steps = o.steps;
    }
