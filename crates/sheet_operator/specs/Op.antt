-- The sheet as the report writes it: inputs, queues, variables, and the operators in order.
use Rattle.std.specs.Prelude.{ℕ, List, [], ◌∷◌, ◌++◌}
use Rattle.base_lists.specs.Lists.{chain}
use Rattle.sheet_step.specs.Step.{step_names}
use Rattle.sheet_step.specs.declared.Step.{Step}

pub data Op : Type 0 where
  line : (input output : ℕ) (steps : List Step) → Op
  latest : (input variable field : ℕ) → Op
  double : (input first second : ℕ) → Op
  deal : (cursor input : ℕ) (outs : List ℕ) → Op
  gather : (cursor output : ℕ) (ins : List ℕ) → Op

pub record Abstract : Type 0 where
  pub inputs : ℕ
  pub queues : ℕ
  pub variables : ℕ
  pub ops : List Op

-- the queues that an operator reads, those that it puts onto, the variables that it names, and the cursor among them
abbrev pub reads : Op → List ℕ
reads (line p q ss) = p ∷ []
reads (latest p v f) = p ∷ []
reads (double p q r) = p ∷ []
reads (deal c p qs) = p ∷ []
reads (gather c q ps) = ps

abbrev pub defines : Op → List ℕ
defines (line p q ss) = q ∷ []
defines (latest p v f) = []
defines (double p q r) = q ∷ r ∷ []
defines (deal c p qs) = qs
defines (gather c q ps) = q ∷ []

abbrev pub names : Op → List ℕ
names (line p q ss) = chain step_names ss
names (latest p v f) = v ∷ []
names (double p q r) = []
names (deal c p qs) = c ∷ []
names (gather c q ps) = c ∷ []

abbrev pub cursors : Op → List ℕ
cursors (line p q ss) = []
cursors (latest p v f) = []
cursors (double p q r) = []
cursors (deal c p qs) = c ∷ []
cursors (gather c q ps) = c ∷ []

-- one operator more
abbrev pub with : Abstract → Op → Abstract
with a o = record { inputs = a.inputs; queues = a.queues; variables = a.variables; ops = a.ops ++ (o ∷ []) }
