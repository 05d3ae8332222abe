-- `text_steps::steps` meets its contract. The loop's invariant: what j steps more read from here, three more read from the beginning, where j and k make three.
-- Assumes nothing.
use Prim.Native.Nat.{ℕ, ◌+◌, ◌≤◌}
use mathlib.Core.Path.{◌≡◌}
use mathlib.Core.List.{[]}
use lib.ListN.{length}
use Rattle.std.specs.Prelude.{Result}
use Rattle.text_scan.specs.declared.Read.{Read}
use Rattle.text_scan.specs.declared.Lost.{Lost}
use Rattle.text_scan.specs.Reads.{Reads}
use Rattle.text_grammar.specs.Readers.{steps}
use Rattle.text_steps.specs.declared.HeldSteps.{HeldSteps}
use Rattle.text_steps.specs.Steps.{steps_of, Filled}
use Rattle.text_steps.proofs.steps.Given as goal

abbrev pub invariant-loop-k : goal.invariant-loop-k
invariant-loop-k l =
    record {
      within : l.from ≤ length l.s;
      turns : l.held.count ≡ l.k;
      filled : Filled l.held;
      rest : (j : ℕ) → j + l.k ≡ 3 → (r : Result (Read HeldSteps) Lost) → Reads steps_of l.s l.from (steps j (steps_of l.held)) r →
          Reads steps_of l.s l.at (steps 3 []) r;
    }
