-- `sheet_encode::put_body` meets its contract: what each kind writes; an empty operator is never asked.
use native.Mathlib.Omega.{arith}
use Rattle.sheet_operator.proofs.ViewLaws.{not_empty}
use Rattle.sheet_encode.proofs.Bodies.{length_of_latest, length_of_double, length_of_deal, length_of_gather, writes_kind}
use Rattle.sheet_encode.proofs.put_body.Goals as goal

pub put_latest-requires : goal.put_latest-requires
put_latest-requires c =
    let kind = c.in-Latest.is in
    let e = length_of_latest c.args.o kind in
    (kind, omega arith)

pub put_double-requires : goal.put_double-requires
put_double-requires c =
    let kind = c.in-Double.is in
    let e = length_of_double c.args.o kind in
    (kind, omega arith)

pub put_branches-requires : goal.put_branches-requires
put_branches-requires c =
    let e = length_of_deal c.args.o c.in-Deal.is in
    (c.requires.0.small, omega arith)

pub put_branches-requires-in-Gather : goal.put_branches-requires-in-Gather
put_branches-requires-in-Gather c =
    let e = length_of_gather c.args.o c.in-Gather.is in
    (c.requires.0.small, omega arith)

pub returns-in-Empty : goal.returns-in-Empty
returns-in-Empty c =
    not_empty c.args.o c.requires.0 c.in-Empty.is

pub returns-in-Deal : goal.returns-in-Deal
returns-in-Deal c =
    let a = c.args in
    writes_kind a.o a.s.now _ a.at c.in-Deal.is c.put_branches.ensures

pub returns-in-Gather : goal.returns-in-Gather
returns-in-Gather c =
    let a = c.args in
    writes_kind a.o a.s.now _ a.at c.in-Gather.is c.put_branches-in-Gather.ensures
