-- `text_lists::turns` meets its contract. The loop's invariant: what is read from here on with what is kept is what is read from the beginning.
-- Assumes nothing.
use Prim.Native.Nat.{◌-◌, ◌≤◌}
use mathlib.Core.Path.{◌≡◌}
use lib.ListN.{length, drop}
use Rattle.text_scan.specs.Reader.{repeat}
use Rattle.text_grammar.specs.Readers.{name_turn}
use Rattle.text_lists.specs.Names.{noted, none}
use Rattle.text_lists.proofs.turns.Given as goal

abbrev pub invariant-loop-t : goal.invariant-loop-t
invariant-loop-t l =
    record {
      within : l.from ≤ length l.s;
      rest : repeat (name_turn noted) l.names (drop l.from l.s) ≡ repeat (name_turn noted) none (drop l.at l.s);
    }

abbrev pub decreases-loop-t : goal.decreases-loop-t
decreases-loop-t l = length l.s - l.from
