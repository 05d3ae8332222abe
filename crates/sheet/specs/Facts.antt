-- What a sheet's operators define and read, in order, for the laws of accepted sheets.
use Rattle.std.specs.Prelude.{ℕ, List, ◌++◌}
use Rattle.base_lists.specs.Lists.{build, chain}
use Rattle.sheet_operator.specs.Op.{Abstract, reads, defines}

-- every queue that the head or an operator defines, once for each time that it does
abbrev pub defined_by : Abstract → List ℕ
defined_by a = build a.inputs (λ (k : ℕ). k) ++ chain defines a.ops

-- every queue that an operator reads, once for each time that it does
abbrev pub read_by : Abstract → List ℕ
read_by a = chain reads a.ops
