-- The paper's bounds, each once.
use Rattle.std.specs.Prelude.{ℕ}

-- the fields of an item
abbrev pub FIELDS : ℕ
FIELDS = 4

-- the items that a queue has room for
abbrev pub ROOM : ℕ
ROOM = 64

-- the most inputs, queues, variables and operators of a sheet
abbrev pub INPUTS : ℕ
INPUTS = 4

abbrev pub QUEUES : ℕ
QUEUES = 24

abbrev pub VARIABLES : ℕ
VARIABLES = 16

abbrev pub OPERATORS : ℕ
OPERATORS = 16

-- the most bytes of an input of a program
abbrev pub INPUT_BYTES : ℕ
INPUT_BYTES = 32768
