-- `rewrite_split::piece` meets its contract: each return is one of the pieces, or the operator past them.
use mathlib.Core.Path.{◌∙◌}
use native.Mathlib.Omega.{arith}
use Rattle.rewrite_split.proofs.Parting.{piece_first, piece_line, piece_last, piece_past}
use Rattle.rewrite_split.proofs.piece.Goals as goal

pub returns-then-j-eq0 : goal.returns-then-j-eq0
returns-then-j-eq0 c =
    c.dealing.ensures
    ∙ piece_first c.args.o c.args.queues c.args.variables c.args.k c.args.j (omega arith) (c.requires.1 (omega arith))

pub returns-then-j-ways : goal.returns-then-j-ways
returns-then-j-ways c =
    c.copied_line.ensures
    ∙ piece_line c.args.o c.args.queues c.args.variables c.args.k c.args.j (omega arith) (omega arith)
    (c.requires.1 (omega arith))

pub returns-then-j-ways-2 : goal.returns-then-j-ways-2
returns-then-j-ways-2 c =
    c.gathering.ensures
    ∙ piece_last c.args.o c.args.queues c.args.variables c.args.k c.args.j (omega arith) (c.requires.1 (omega arith))

pub returns : goal.returns
returns c = piece_past c.args.o c.args.queues c.args.variables c.args.k c.args.j (omega arith)
