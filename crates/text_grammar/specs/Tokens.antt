-- The grammar: a sheet's tokens, and a text that spells them with blanks freely chosen. The one printed form is one such choice.
use Rattle.std.specs.Prelude.{ℕ, ◌+◌, ◌<◌, ◌≤◌, ◌≡◌, Bool, true, false, List, [], ◌∷◌, ◌++◌, length, leb, ℤ, pos}
use Prim.Native.String as text
use Rattle.std.specs.Int.Signed.{mag}
use Rattle.base_lists.specs.Lists.{all, chain}
use Rattle.sheet_step.specs.declared.Func.{Func}
use Rattle.sheet_step.specs.declared.Func.TheVariants.{None, Keep, Add, Copy, Count, Stamp}
use Rattle.sheet_step.specs.declared.Step.{Step}
use Rattle.sheet_operator.specs.Op.{Op, line, latest, double, deal, gather}
use Rattle.base_words.specs.Text.{word, natural, integer}
use Rattle.text_scan.specs.Reader.{is_blank}
use Rattle.text_grammar.specs.Readers.{Tree}

-- what is printed before a token: nothing, or one space; and whether a blank has to stand there
pub data Gap : Type 0 where
  tight : Gap
  loose : Gap
  must : Gap

pub record Token : Type 0 where
  pub gap : Gap
  pub bytes : List ℕ

-- blanks that may stand before a token
abbrev pub may_stand : Gap → List ℕ → Bool
may_stand tight b = all is_blank b
may_stand loose b = all is_blank b
may_stand must [] = false
may_stand must (x ∷ b) = all is_blank (x ∷ b)

-- a token at the front of s, and m after it
pub record Starts (t : Token) (s m : List ℕ) : Type 0 where
  pub blanks : List ℕ
  pub free : may_stand t.gap blanks ≡ true
  pub text : s ≡ blanks ++ (t.bytes ++ m)

-- tokens one after the other, and r after them
pub data Spells : List Token → List ℕ → List ℕ → Type 0 where
  none : {s : List ℕ} → Spells [] s s
  more : {t : Token} {ts : List Token} {s m r : List ℕ} → Starts t s m → Spells ts m r → Spells (t ∷ ts) s r

-- the printed form
abbrev pub space_of : Gap → List ℕ
space_of tight = []
space_of loose = 32 ∷ []
space_of must = 32 ∷ []

abbrev pub printed : List Token → List ℕ
printed ts = chain (λ (t : Token). space_of t.gap ++ t.bytes) ts

-- ---- tokens

abbrev pub at_once : text.String → Token
at_once w = record { gap = tight; bytes = word w }

abbrev pub spaced : text.String → Token
spaced w = record { gap = loose; bytes = word w }

abbrev pub queue_as : Gap → ℕ → Token
queue_as g q = record { gap = g; bytes = word "q" ++ natural q }

abbrev pub variable_as : Gap → ℕ → Token
variable_as g v = record { gap = g; bytes = word "$v" ++ natural v }

abbrev pub byte_as : Gap → ℕ → Token
byte_as g n = record { gap = g; bytes = natural n }

abbrev pub number_as : ℤ → Token
number_as z = record { gap = tight; bytes = integer z }

-- ---- an operator's tokens

abbrev pub step_tokens : Func → Step → List Token
step_tokens None t = []
step_tokens Keep t =
    spaced "Keep" ∷ at_once "[" ∷ byte_as tight t.p ∷ at_once "," ∷ number_as t.low ∷ at_once "," ∷ number_as t.high ∷ at_once "]" ∷ []
step_tokens Add t = spaced "Add" ∷ at_once "[" ∷ byte_as tight t.p ∷ at_once "," ∷ number_as t.low ∷ at_once "]" ∷ []
step_tokens Copy t = spaced "Copy" ∷ at_once "[" ∷ byte_as tight t.p ∷ at_once "," ∷ byte_as tight t.r ∷ at_once "]" ∷ []
step_tokens Count t = spaced "Count" ∷ at_once "[" ∷ variable_as tight t.variable ∷ at_once "," ∷ byte_as tight t.p ∷ at_once "]" ∷ []
step_tokens Stamp t = spaced "Stamp" ∷ at_once "[" ∷ variable_as tight t.variable ∷ at_once "," ∷ byte_as tight t.p ∷ at_once "]" ∷ []

abbrev pub steps_tokens : List Step → List Token
steps_tokens [] = []
steps_tokens (t ∷ ts) = spaced "|" ∷ (step_tokens t.func t ++ steps_tokens ts)

abbrev pub line_tokens : List Step → List Token
line_tokens [] = []
line_tokens (t ∷ ts) = step_tokens t.func t ++ steps_tokens ts

-- queues, each with a comma after it; the first stands close
abbrev pub way_tokens : List ℕ → List Token
way_tokens qs = chain (λ (q : ℕ). queue_as loose q ∷ at_once "," ∷ []) qs

abbrev pub ways_tokens : List ℕ → List Token
ways_tokens [] = []
ways_tokens (q ∷ qs) = queue_as tight q ∷ at_once "," ∷ way_tokens qs

abbrev pub op_tokens : Op → List Token
op_tokens (line p q ts) =
    spaced "(" ∷ queue_as tight q ∷ at_once ")" ∷ spaced "<-" ∷ (line_tokens ts ++ (at_once "(" ∷ queue_as tight p ∷ at_once ")" ∷ []))
op_tokens (latest p v f) =
    spaced "(" ∷ variable_as tight v ∷ at_once ")" ∷ spaced "<-" ∷ spaced "Latest" ∷ at_once "[" ∷ byte_as tight f ∷ at_once "]" ∷ at_once "("
    ∷ queue_as tight p ∷ at_once ")" ∷ []
op_tokens (double p q r) =
    spaced "(" ∷ queue_as tight q ∷ at_once "," ∷ queue_as loose r ∷ at_once ")" ∷ spaced "<-" ∷ spaced "Double" ∷ at_once "("
    ∷ queue_as tight p ∷ at_once ")" ∷ []
op_tokens (deal v p qs) =
    spaced "(" ∷ (ways_tokens qs ++ (variable_as loose v ∷ at_once ")" ∷ spaced "<-" ∷ spaced "Deal" ∷ at_once "(" ∷ queue_as tight p ∷ at_once ","
    ∷ variable_as loose v ∷ at_once ")" ∷ []))
op_tokens (gather v q ps) =
    spaced "(" ∷ queue_as tight q ∷ at_once "," ∷ variable_as loose v ∷ at_once ")" ∷ spaced "<-" ∷ spaced "Gather" ∷ at_once "("
    ∷ (ways_tokens ps ++ (variable_as loose v ∷ at_once ")" ∷ []))

-- ---- the text's tokens

abbrev pub rest_tokens : List ℕ → List Token
rest_tokens qs = chain (λ (q : ℕ). at_once "," ∷ queue_as loose q ∷ []) qs

abbrev pub names_tokens : List ℕ → List Token
names_tokens [] = at_once ";" ∷ []
names_tokens (q ∷ qs) = queue_as must q ∷ (rest_tokens qs ++ (at_once ";" ∷ []))

abbrev pub text_tokens : Tree → List Token
text_tokens t =
    at_once "output" ∷ (names_tokens t.outputs ++ (spaced "input" ∷ (names_tokens t.inputs ++ (spaced "vars" ∷ byte_as must t.variables
    ∷ at_once ";" ∷ chain (λ (o : Op). op_tokens o ++ (at_once ";" ∷ [])) t.ops))))

-- ---- which operators and sheets have a text: numbers in range, places that a function does not take as 01's table has them

abbrev pub step_with : Func → ℕ → ℕ → ℕ → ℤ → ℤ → Step
step_with f v p r low high = record { func = f; variable = v; p = p; r = r; low = low; high = high }

-- a number of 32 bits
abbrev pub Wide : ℤ → Type 0
Wide z = mag z < 2147483648

pub data GoodStep : Step → Type 0 where
  good_keep : {p : ℕ} {low high : ℤ} → p ≤ 255 → Wide low → Wide high → GoodStep (step_with Keep 255 p 0 low high)
  good_add : {p : ℕ} {low : ℤ} → p ≤ 255 → Wide low → GoodStep (step_with Add 255 p 0 low (pos 0))
  good_copy : {p r : ℕ} → p ≤ 255 → r ≤ 255 → GoodStep (step_with Copy 255 p r (pos 0) (pos 0))
  good_count : {v p : ℕ} → v ≤ 15 → p ≤ 255 → GoodStep (step_with Count v p 0 (pos 0) (pos 0))
  good_stamp : {v p : ℕ} → v ≤ 15 → p ≤ 255 → GoodStep (step_with Stamp v p 0 (pos 0) (pos 0))

pub data GoodSteps : List Step → Type 0 where
  no_steps : GoodSteps []
  one_step : {t : Step} {ts : List Step} → GoodStep t → GoodSteps ts → GoodSteps (t ∷ ts)

abbrev pub queues : List ℕ → Bool
queues qs = all (λ (q : ℕ). leb q 23) qs

pub data GoodOp : Op → Type 0 where
  good_line : {p q : ℕ} {t : Step} {ts : List Step} → p ≤ 23 → q ≤ 23 → GoodStep t → GoodSteps ts → length ts ≤ 3 → GoodOp (line p q (t ∷ ts))
  good_latest : {p v f : ℕ} → p ≤ 23 → v ≤ 15 → f ≤ 255 → GoodOp (latest p v f)
  good_double : {p q r : ℕ} → p ≤ 23 → q ≤ 23 → r ≤ 23 → GoodOp (double p q r)
  good_deal : {v p q r : ℕ} {qs : List ℕ} → v ≤ 15 → p ≤ 23 → q ≤ 23 → r ≤ 23 → queues qs ≡ true → length qs ≤ 2 → GoodOp (deal v p (q ∷ r ∷ qs))
  good_gather : {v q a b : ℕ} {ps : List ℕ} → v ≤ 15 → q ≤ 23 → a ≤ 23 → b ≤ 23 → queues ps ≡ true → length ps ≤ 2 → GoodOp (gather v q (a ∷ b ∷ ps))

pub data GoodOps : List Op → Type 0 where
  no_ops : GoodOps []
  one_op : {o : Op} {os : List Op} → GoodOp o → GoodOps os → GoodOps (o ∷ os)

pub record GoodTree (t : Tree) : Type 0 where
  pub outputs : queues t.outputs ≡ true
  pub inputs : queues t.inputs ≡ true
  pub variables : t.variables ≤ 255
  pub ops : GoodOps t.ops

-- a text of the grammar that stands for t: t's tokens, and only blanks after them
pub record TextOf (t : Tree) (s : List ℕ) : Type 0 where
  pub good : GoodTree t
  pub rest : List ℕ
  pub spells : Spells (text_tokens t) s rest
  pub blank : all is_blank rest ≡ true
