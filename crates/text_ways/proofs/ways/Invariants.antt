-- `text_ways::ways` meets its contract. The loop's invariant: to read the ways left from here is to read two more from the beginning.
-- Assumes nothing.
use Prim.Native.Nat.{◌-◌, ◌≤◌}
use mathlib.Core.Path.{◌≡◌}
use mathlib.Core.List.{[], ◌∷◌}
use lib.ListN.{length, drop}
use Rattle.sheet_operator.specs.Memory.{PLACES}
use Rattle.text_scan.specs.Reader.{got}
use Rattle.text_grammar.specs.Readers.{ways}
use Rattle.text_ways.specs.Found.{FilledWays, queues_of}
use Rattle.text_ways.proofs.ways.Given as goal

abbrev pub invariant-loop-k : goal.invariant-loop-k
invariant-loop-k l =
    record {
      within : l.from ≤ length l.s;
      count : l.held.count ≡ l.k;
      filled : FilledWays l.held;
      reads : ways (PLACES - l.k) (queues_of l.held) got (drop l.from l.s) ≡ ways 2 (l.first ∷ l.second ∷ []) got (drop l.fn.at l.s);
    }
