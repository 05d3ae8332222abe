-- `run_store::quiet_queue` meets its contract: the two tests in order.
use native.Mathlib.Omega.{arith}
use borrow.Author.Tests.{lt-leb, le-leb}
use Rattle.base_bounds.specs.Bounds.{ROOM}
use Rattle.run_store.specs.Quiet.{quiet_queue}
use Rattle.run_store.proofs.quiet_queue.Goals as goal

pub returns-then-count-gt-ROOM : goal.returns-then-count-gt-ROOM
unfolding quiet_queue
returns-then-count-gt-ROOM c = simp (lt-leb c.args.count ROOM (omega arith))

pub returns : goal.returns
unfolding quiet_queue
returns c = simp (le-leb _ _ c.if-count-gt-ROOM.false) c.zeros_from.ensures
