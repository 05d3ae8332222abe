-- The text of a sheet, as it is read from its front.
use Rattle.std.specs.Prelude.{ℕ, zero, suc, ◌+◌, ◌-◌, cond, List, [], ◌∷◌, ◌++◌, eqb}
use Rattle.std.specs.Int.{w32}
use Rattle.std.proofs.Common.{to_z}
use Rattle.sheet_step.specs.declared.Step.{Step}
use Rattle.sheet_step.specs.declared.Func.{Func}
use Rattle.sheet_step.specs.declared.Func.TheVariants.{Keep, Add, Copy, Count, Stamp}
use Rattle.sheet_step.specs.Step.{NO_VARIABLE}
use Rattle.sheet_operator.specs.Op.{Op, line, latest, double, deal, gather}
use Rattle.base_words.specs.Text.{word, natural}
use Rattle.text_scan.specs.Reader.{Reader, Turn, again, last, got, ◌>>=◌, ◌>>◌, BLANKS, here, sign, spell, digits, repeat, to_end}

-- ---- names and numbers

-- a decimal up to `top`, its first digit at once
abbrev pub decimal : ℕ → Reader ℕ
decimal top = do
  b ← here (word "0123456789")
  digits top (b - 48)

abbrev pub byte : Reader ℕ
byte = do
  b ← sign (word "0123456789")
  digits 255 (b - 48)

-- a signed number, by its bits
abbrev pub negative : Reader ℕ
negative = do
  b ← here (word "123456789")
  n ← digits 2147483648 (b - 48)
  got (4294967295 - (n - 1))

abbrev pub number : Reader ℕ
number = do
  b ← sign (word "-0123456789")
  cond (eqb b 45) negative (digits 2147483647 (b - 48))

abbrev pub queue : Reader ℕ
queue = do
  sign (word "q")
  decimal 23

-- a variable, once its `$` is read; and one that has to be v
abbrev pub variable : Reader ℕ
variable = do
  here (word "v")
  decimal 15

abbrev pub variable_is_lem : ℕ → Reader ℕ
variable_is_lem v = do
  here (word "v")
  spell (natural v)

-- ---- steps

abbrev pub step_of : Func → ℕ → ℕ → ℕ → ℕ → ℕ → Step
step_of f v p r low high = record { func = f; variable = v; p = p; r = r; low = to_z w32 low; high = to_z w32 high }

abbrev pub keep : Reader Step
keep = do
  spell (word "eep")
  sign (word "[")
  p ← byte
  sign (word ",")
  low ← number
  sign (word ",")
  high ← number
  sign (word "]")
  got (step_of Keep NO_VARIABLE p 0 low high)

abbrev pub add : Reader Step
add = do
  spell (word "dd")
  sign (word "[")
  p ← byte
  sign (word ",")
  low ← number
  sign (word "]")
  got (step_of Add NO_VARIABLE p 0 low 0)

abbrev pub copy : Reader Step
copy = do
  spell (word "y")
  sign (word "[")
  p ← byte
  sign (word ",")
  r ← byte
  sign (word "]")
  got (step_of Copy NO_VARIABLE p r 0 0)

-- Count and Stamp
abbrev pub on_variable : Func → Reader Step
on_variable f = do
  sign (word "[")
  sign (word "$")
  v ← variable
  sign (word ",")
  p ← byte
  sign (word "]")
  got (step_of f v p 0 0 0)

abbrev pub count : Reader Step
count = do
  spell (word "nt")
  on_variable Count

abbrev pub stamp : Reader Step
stamp = do
  spell (word "tamp")
  on_variable Stamp

abbrev pub copy_or_count : Reader Step
copy_or_count = do
  spell (word "o")
  b ← here (word "pu")
  cond (eqb b 112) copy count

abbrev pub step : Reader Step
step = do
  b ← sign (word "KACS")
  cond (eqb b 75) keep (cond (eqb b 65) add (cond (eqb b 67) copy_or_count stamp))

abbrev pub snoc : {A : Type 0} → List A → A → List A
snoc l x = l ++ (x ∷ [])

-- a step and at most this many more, up to the `(` behind them
abbrev pub steps : ℕ → List Step → Reader (List Step)
steps zero ts = do
  t ← step
  sign (word "(")
  got (snoc ts t)
steps (suc k) ts = do
  t ← step
  b ← sign (word "|(")
  cond (eqb b 124) (steps k (snoc ts t)) (got (snoc ts t))

-- ---- operators

abbrev pub arrow : Reader ℕ
arrow = do
  sign (word "<")
  here (word "-")

abbrev pub line_to : ℕ → Reader Op
line_to q = do
  arrow
  ts ← steps 3 []
  p ← queue
  sign (word ")")
  got (line p q ts)

abbrev pub double_to : ℕ → ℕ → Reader Op
double_to q r = do
  arrow
  sign (word "D")
  spell (word "ouble")
  sign (word "(")
  p ← queue
  sign (word ")")
  got (double p q r)

-- after the `$` of the variable
abbrev pub latest_to : Reader Op
latest_to = do
  v ← variable
  sign (word ")")
  arrow
  sign (word "L")
  spell (word "atest")
  sign (word "[")
  f ← byte
  sign (word "]")
  sign (word "(")
  p ← queue
  sign (word ")")
  got (latest p v f)

-- the further ways, at most this many, up to the `$` of the variable; and what comes then
abbrev pub ways : {B : Type 0} → ℕ → List ℕ → (List ℕ → Reader B) → Reader B
ways zero qs K = do
  sign (word "$")
  K qs
ways (suc k) qs K = do
  b ← sign (word "q$")
  cond (eqb b 113)
      (decimal 23 >>= λ (q : ℕ). sign (word ",") >> ways k (snoc qs q) K)
      (K qs)

abbrev pub deal_from : List ℕ → Reader Op
deal_from qs = do
  v ← variable
  sign (word ")")
  arrow
  sign (word "D")
  spell (word "eal")
  sign (word "(")
  p ← queue
  sign (word ",")
  sign (word "$")
  variable_is_lem v
  sign (word ")")
  got (deal v p qs)

abbrev pub deal_to : ℕ → ℕ → Reader Op
deal_to q r = ways 2 (q ∷ r ∷ []) deal_from

abbrev pub gather_from : ℕ → ℕ → List ℕ → Reader Op
gather_from v q ps = do
  variable_is_lem v
  sign (word ")")
  got (gather v q ps)

abbrev pub gather_to : ℕ → Reader Op
gather_to q = do
  v ← variable
  sign (word ")")
  arrow
  sign (word "G")
  spell (word "ather")
  sign (word "(")
  a ← queue
  sign (word ",")
  b ← queue
  sign (word ",")
  ways 2 (a ∷ b ∷ []) (gather_from v q)

abbrev pub two_to : ℕ → Reader Op
two_to q = do
  r ← decimal 23
  b ← sign (word "),")
  cond (eqb b 41) (double_to q r) (deal_to q r)

abbrev pub more_to : ℕ → Reader Op
more_to q = do
  b ← sign (word "q$")
  cond (eqb b 113) (two_to q) (gather_to q)

abbrev pub queue_to : Reader Op
queue_to = do
  q ← decimal 23
  b ← sign (word "),")
  cond (eqb b 41) (line_to q) (more_to q)

abbrev pub operator : Reader Op
operator = do
  sign (word "(")
  b ← sign (word "q$")
  cond (eqb b 113) queue_to latest_to

-- ---- the text

pub record Tree : Type 0 where
  pub outputs : List ℕ
  pub inputs : List ℕ
  pub variables : ℕ
  pub ops : List Op

-- after the `q` of a name; `add` takes it up, for the list itself or for what the program keeps of it
abbrev pub name_turn : {A : Type 0} → (A → ℕ → A) → A → Reader (Turn A A)
name_turn add a = do
  q ← decimal 23
  b ← sign (word ",;")
  cond (eqb b 59) (got (last (add a q))) (sign (word "q") >> got (again (add a q)))

abbrev pub names_by : {A : Type 0} → (A → ℕ → A) → A → Reader A
names_by add a = do
  b ← here (59 ∷ BLANKS)
  cond (eqb b 59) (got a) (sign (word "q;") >>= λ (c : ℕ). cond (eqb c 59) (got a) (repeat (name_turn add) a))

abbrev pub names : Reader (List ℕ)
names = names_by snoc []

abbrev pub head : Reader Tree
head = do
  sign (word "o")
  spell (word "utput")
  outs ← names
  sign (word "i")
  spell (word "nput")
  ins ← names
  sign (word "v")
  spell (word "ars")
  here BLANKS
  v ← byte
  sign (word ";")
  got (record { outputs = outs; inputs = ins; variables = v; ops = [] })

-- an operator and its semicolon; `add` takes it up, for the text itself or for what the program keeps of it
abbrev pub item_by : {A : Type 0} → (A → Op → A) → A → Reader A
item_by add a = do
  o ← operator
  sign (word ";")
  got (add a o)

abbrev pub with_op : Tree → Op → Tree
with_op t o = record { outputs = t.outputs; inputs = t.inputs; variables = t.variables; ops = snoc t.ops o }

abbrev pub item : Tree → Reader Tree
item = item_by with_op

abbrev pub text : Reader Tree
text = do
  t ← head
  to_end item t
