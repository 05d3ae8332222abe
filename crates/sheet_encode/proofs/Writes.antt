-- Loops that write: what one turn more makes of the bytes that the turns before it have written.
-- Assumes nothing.
use mathlib.Core.Path.{◌≡◌, ◌∙◌}
use mathlib.Core.List.{List, append-nil}
use Prim.Native.Nat.{ℕ, ◌+◌, ◌*◌}
use lib.ListN.{length}
use lib.Seq.{sets}
use Rattle.base_lists.specs.Lists.{build, chain}
use Rattle.base_lists.proofs.Build.{build_length, build_snoc}
use Rattle.base_lists.proofs.Sets.{sets_after}
use Rattle.base_lists.proofs.Chains.{chain_append}
use Rattle.sheet_step.specs.Step.{STEP_BYTES, step_bytes}
use Rattle.sheet_step.specs.declared.Step.{Step}
use Rattle.sheet_format.proofs.Sizes.{length_steps_bytes}

-- one step more
pub steps_more : (s₀ s t : List ℕ) (at i : ℕ) (g : ℕ → Step) → s ≡ sets s₀ at (chain step_bytes (build i g)) →
    t ≡ sets s (at + STEP_BYTES * i) (step_bytes (g i)) → t ≡ sets s₀ at (chain step_bytes (build (i + 1) g))
steps_more s₀ s t at i g p q =
    let e : length (chain step_bytes (build i g)) ≡ STEP_BYTES * i = length_steps_bytes (build i g) ∙ rw build_length in
    rw (build_snoc i g, chain_append, append-nil) (sets_after s₀ s t at (STEP_BYTES * i) (chain step_bytes (build i g)) (step_bytes (g i)) e p q)
