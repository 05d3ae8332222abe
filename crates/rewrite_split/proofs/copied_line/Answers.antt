-- `rewrite_split::copied_line` meets its contract: the steps of a line in memory are its list's, filled up.
use Rattle.sheet_operator.proofs.Held.{held_of}
use Rattle.rewrite_split.proofs.Parting.{line_copied}
use Rattle.rewrite_split.proofs.copied_line.Goals as goal

pub returns : goal.returns
returns c = line_copied c.args.o c.args.p c.args.q (held_of c.args.o _ c.well_formed.0) c.requires
