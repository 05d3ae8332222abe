-- A line's steps, turn by turn.
-- Assumes nothing.
use Prim.Native.Nat.{ℕ, ◌+◌, ◌<◌, ◌≤◌}
use mathlib.Core.Path.{◌≡◌, refl, ap, ◌∙◌, sym}
use mathlib.Core.Bool.{cond}
use mathlib.Core.List.{List}
use native.Mathlib.Omega.{arith}
use lib.Dec.{eqb}
use lib.ListN.{length, set}
use borrow.Author.Tests.{ne_eqb}
use Rattle.std.specs.Prelude.{Ok}
use Rattle.base_lists.specs.Lists.{pad}
use Rattle.sheet_step.specs.declared.Step.{Step}
use Rattle.sheet_step.specs.Step.{no_step}
use Rattle.sheet_operator.specs.Memory.{PLACES}
use Rattle.text_scan.specs.Reader.{got, Reader}
use Rattle.text_scan.specs.Reads.{Reads}
use Rattle.text_scan.proofs.Filled.{filled_more, front_more}
use Rattle.text_grammar.specs.Readers.{snoc}
use Rattle.text_steps.specs.declared.HeldSteps.{HeldSteps}
use Rattle.text_steps.specs.Steps.{steps_of, Filled}

-- one step more, stored in the next place, which is the k-th
module _ (h : HeldSteps) (k : ℕ) (t : Step) (e : h.count ≡ k) (l : k < PLACES) (f : Filled h) where
  abbrev pub with_step : HeldSteps
  with_step = record { count = h.count + 1; steps = set h.steps k t }

  pub steps_more : steps_of with_step ≡ snoc (steps_of h) t
  steps_more = rw (← e) (front_more PLACES no_step h.steps h.count t (omega arith) f.places)

  pub still_filled : Filled with_step
  still_filled =
      record {
        small = omega arith;
        places = rw (← e) (filled_more PLACES no_step h.steps h.count t (omega arith) f.places
            ∙ sym (ap (pad PLACES no_step) (front_more PLACES no_step h.steps h.count t (omega arith) f.places)));
      }

  -- with it a line may end, and ends where another mark than `|` follows
  pub steps_end : {s : List ℕ} {at : ℕ} → at ≤ length s → Reads steps_of s at (got (snoc (steps_of h) t)) (Ok (record { value = with_step; at = at }))
  steps_end w = record { within = w; reads = rw steps_more refl }

  pub steps_stop : (P : Reader (List Step)) → {s : List ℕ} {at v : ℕ} → (v ≡ 124 → ⊥) → at ≤ length s →
      Reads steps_of s at (cond (eqb v 124) P (got (snoc (steps_of h) t))) (Ok (record { value = with_step; at = at }))
  steps_stop P {v = v} n w = rw (ne_eqb v 124 n) (steps_end w)
