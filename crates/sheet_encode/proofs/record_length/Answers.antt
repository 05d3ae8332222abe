-- `sheet_encode::record_length` meets its contract: the header and the body.
use native.Mathlib.Omega.{arith}
use Rattle.sheet_operator.specs.Memory.{view}
use Rattle.sheet_format.specs.Record.{kind_code, kind_in, body_bytes, op_bytes}
use Rattle.sheet_format.proofs.Sizes.{length_record_bytes}
use Rattle.sheet_encode.proofs.record_length.Goals as goal

pub returns : goal.returns
unfolding op_bytes
returns c =
    let o = view c.args.o in
    let e = length_record_bytes (kind_code (kind_in o)) (body_bytes o) in
    (omega arith, omega arith)
