-- `sheet_encode::body_length` meets its contract: by the kind, a fixed length or one that the count gives.
use native.Mathlib.Omega.{arith}
use Rattle.sheet_encode.proofs.Bodies.{length_of_line, length_of_deal, length_of_gather}
use Rattle.sheet_encode.proofs.body_length.Goals as goal

pub returns-in-Line : goal.returns-in-Line
returns-in-Line c =
    let e = length_of_line c.args.o c.in-Line.is in
    (omega arith, omega arith)

pub returns-in-Deal : goal.returns-in-Deal
returns-in-Deal c =
    let e = length_of_deal c.args.o c.in-Deal.is in
    (omega arith, omega arith)

pub returns-in-Gather : goal.returns-in-Gather
returns-in-Gather c =
    let e = length_of_gather c.args.o c.in-Gather.is in
    (omega arith, omega arith)
