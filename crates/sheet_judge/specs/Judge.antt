-- The judge of one operator after those kept before it: refusals 4 to 7, each over all of the record's places before the next.
use Rattle.std.specs.Prelude.{ℕ, Bool, true, cond, not, ◌&&◌, ◌||◌, List, ltb}
use Rattle.base_lists.specs.Lists.{build, all, any, member, fresh}
use Rattle.sheet_step.specs.Step.{step_variable, step_places}
use Rattle.base_bounds.specs.Bounds.{FIELDS}
use Rattle.sheet_operator.specs.Op.{Op, line, latest, double, deal, gather, Abstract, reads, defines, names, cursors}

-- what is known of the operators kept: which queues are defined and which are read, which variables are named and which are cursors
pub record Known : Type 0 where
  pub defined : ℕ → Bool
  pub used : ℕ → Bool
  pub named : ℕ → Bool
  pub cursor : ℕ → Bool

-- of the operators after a head, which defines the inputs
abbrev pub known_of : ℕ → List Op → Known
known_of inputs os =
    record {
      defined = λ (q : ℕ). ltb q inputs || any (λ (o : Op). member q (defines o)) os;
      used = λ (q : ℕ). any (λ (o : Op). member q (reads o)) os;
      named = λ (v : ℕ). any (λ (o : Op). member v (names o)) os;
      cursor = λ (v : ℕ). any (λ (o : Op). member v (cursors o)) os;
    }

abbrev pub known : Abstract → Known
known a = known_of a.inputs a.ops

-- 4: queue numbers below Q, and every in queue defined
unfoldable pub four : ℕ → Known → Op → Bool
four Q k o = all (λ (p : ℕ). ltb p Q && k.defined p) (reads o) && all (λ (q : ℕ). ltb q Q) (defines o)

-- 5: no queue defined twice, none read twice
unfoldable pub five : Known → Op → Bool
five k o = fresh k.defined (defines o) && fresh k.used (reads o)

-- 6: variables below V, none given where none is taken; a cursor is named by no other operator
abbrev pub variables_good : ℕ → Op → Bool
variables_good vs (line p q ss) = all (step_variable vs) ss
variables_good vs (latest p v f) = ltb v vs
variables_good vs (double p q r) = true
variables_good vs (deal c p qs) = ltb c vs
variables_good vs (gather c q ps) = ltb c vs

unfoldable pub six : ℕ → Known → Op → Bool
six vs k o = variables_good vs o && (all (λ (v : ℕ). not (k.cursor v)) (names o) && all (λ (c : ℕ). not (k.named c)) (cursors o))

-- 7: functions known, fields below FIELDS, a step's unused places 0
unfoldable pub seven : Op → Bool
seven (line p q ss) = all step_places ss
seven (latest p v f) = ltb f FIELDS
seven (double p q r) = true
seven (deal c p qs) = true
seven (gather c q ps) = true

-- the number of the first that fails; 0 where none does
unfoldable pub judge_by : ℕ → ℕ → Known → Op → ℕ
judge_by Q vs k o = cond (four Q k o) (cond (five k o) (cond (six vs k o) (cond (seven o) 0 7) 6) 5) 4

abbrev pub judge : Abstract → Op → ℕ
judge a o = judge_by a.queues a.variables (known a) o

-- one operator more
abbrev pub after : Known → Op → Known
after k o =
    record {
      defined = λ (q : ℕ). member q (defines o) || k.defined q;
      used = λ (q : ℕ). member q (reads o) || k.used q;
      named = λ (v : ℕ). member v (names o) || k.named v;
      cursor = λ (v : ℕ). member v (cursors o) || k.cursor v;
    }

-- 5 at record N+1: a queue that is never defined
unfoldable pub whole : ℕ → Known → Bool
whole Q k = all k.defined (build Q (λ (q : ℕ). q))
