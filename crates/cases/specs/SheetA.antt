-- Sheet A's bytes, its places in memory, and a bench input with its feeds and firings.
use Rattle.std.specs.Prelude.{List, [], ◌∷◌, ◌++◌, ℕ}
use Rattle.base_lists.specs.Lists.{pad, chain}
use Rattle.sheet_step.specs.Step.{no_step}
use Rattle.sheet_step.specs.declared.Step.{Step}
use Rattle.sheet_operator.specs.Memory.{no_operator}
use Rattle.sheet_operator.specs.declared.Kind.TheVariants.{Line}
use Rattle.sheet_operator.specs.declared.Operator.{Operator}
use Rattle.base_bounds.specs.Bounds.{OPERATORS}
use Rattle.sheet.specs.declared.Sheet.{Sheet}
use Rattle.order.specs.Instance.{keep_two, less_five}

abbrev pub bytes_a : List ℕ
bytes_a =
    0x04 ∷ 0x00 ∷ 0x01 ∷ 0x00 ∷ 0x01 ∷ 0x03 ∷ 0x00 ∷ 0x02
    ∷ 0x0e ∷ 0x00 ∷ 0x02 ∷ 0x00 ∷ 0x00 ∷ 0x01 ∷ 0x01 ∷ 0xff ∷ 0x00 ∷ 0x00 ∷ 0x02 ∷ 0x00 ∷ 0x00 ∷ 0x00 ∷ 0x02 ∷ 0x00 ∷ 0x00 ∷ 0x00
    ∷ 0x0e ∷ 0x00 ∷ 0x02 ∷ 0x00 ∷ 0x01 ∷ 0x02 ∷ 0x02 ∷ 0xff ∷ 0x01 ∷ 0x00 ∷ 0xfb ∷ 0xff ∷ 0xff ∷ 0xff ∷ 0x00 ∷ 0x00 ∷ 0x00 ∷ 0x00 ∷ []

-- the feeds (2, 50, 0, 0), (1, 40, 0, 0) and (2, -3, 7, 0) to queue 0
abbrev pub feed_bytes_a : List ℕ
feed_bytes_a =
    0x11 ∷ 0x00 ∷ 0x10 ∷ 0x00 ∷ 0x00 ∷ 2 ∷ 0 ∷ 0 ∷ 0 ∷ 50 ∷ 0 ∷ 0 ∷ 0 ∷ 0 ∷ 0 ∷ 0 ∷ 0 ∷ 0 ∷ 0 ∷ 0 ∷ 0
    ∷ 0x11 ∷ 0x00 ∷ 0x10 ∷ 0x00 ∷ 0x00 ∷ 1 ∷ 0 ∷ 0 ∷ 0 ∷ 40 ∷ 0 ∷ 0 ∷ 0 ∷ 0 ∷ 0 ∷ 0 ∷ 0 ∷ 0 ∷ 0 ∷ 0 ∷ 0
    ∷ 0x11 ∷ 0x00 ∷ 0x10 ∷ 0x00 ∷ 0x00 ∷ 2 ∷ 0 ∷ 0 ∷ 0 ∷ 0xfd ∷ 0xff ∷ 0xff ∷ 0xff ∷ 7 ∷ 0 ∷ 0 ∷ 0 ∷ 0 ∷ 0 ∷ 0 ∷ 0 ∷ []

abbrev pub firing : ℕ → List ℕ
firing q = 0x01 ∷ 0x00 ∷ 0x11 ∷ 0x00 ∷ q ∷ []

abbrev pub bench_a : List ℕ
bench_a = bytes_a ++ (feed_bytes_a ++ chain firing (0 ∷ 0 ∷ 1 ∷ 0 ∷ 1 ∷ []))

-- the feed (-2147483648, 2147483647, 0, 0) to queue 0
abbrev pub feed_bytes_ends : List ℕ
feed_bytes_ends =
    0x11 ∷ 0x00 ∷ 0x10 ∷ 0x00 ∷ 0x00 ∷ 0 ∷ 0 ∷ 0 ∷ 0x80 ∷ 0xff ∷ 0xff ∷ 0xff ∷ 0x7f ∷ 0 ∷ 0 ∷ 0 ∷ 0 ∷ 0 ∷ 0 ∷ 0 ∷ 0 ∷ []

-- a head alone: I inputs, Q queues, V variables
abbrev pub head_of : ℕ → ℕ → ℕ → List ℕ
head_of i q v = 0x04 ∷ 0x00 ∷ 0x01 ∷ 0x00 ∷ i ∷ q ∷ v ∷ 0x00 ∷ []

-- sheet A place by place, as it lies in memory: a line's count, queues and steps, and 0 in every place not used
abbrev pub line_of : ℕ → ℕ → Step → Operator
line_of p q s =
    record {
      kind = Line;
      count = 1;
      variable = 0;
      field = 0;
      ins = p ∷ 0 ∷ 0 ∷ 0 ∷ [];
      outs = q ∷ 0 ∷ 0 ∷ 0 ∷ [];
      steps = s ∷ no_step ∷ no_step ∷ no_step ∷ [];
    }

abbrev pub places_a : Sheet
places_a =
    record {
      inputs = 1;
      queues = 3;
      variables = 0;
      count = 2;
      operators = pad OPERATORS no_operator (line_of 0 1 keep_two ∷ line_of 1 2 less_five ∷ []);
    }
