-- A list of steps and its bytes: reading gives back what was written, writing what was read.
-- Assumes nothing.
use mathlib.Core.Path.{◌≡◌, refl, ap, sym, ◌∙◌}
use mathlib.Core.Bool.{true}
use mathlib.Core.List.{List, [], ◌∷◌, ◌++◌, append_assoc}
use Prim.Native.Nat.{ℕ, zero, suc, ◌+◌, ◌*◌, ◌<◌, ◌≤◌}
use native.Mathlib.Omega.{arith}
use lib.ListN.{length, get_or, take, drop, length-drop}
use lib.Seq.{drop_at, drop-drop, get_or-drop, take-add}
use Rattle.base_lists.specs.Lists.{build, chain}
use Rattle.base_lists.proofs.Build.{build_ext}
use Rattle.base_lists.proofs.Tests.{both}
use Rattle.sheet_step.specs.Step.{STEP_BYTES, known_func, step_of, step_bytes}
use Rattle.sheet_step.specs.declared.Step.{Step}
use Rattle.sheet_step.proofs.Back.{length_step_bytes, step_of_bytes, bytes_of_step}
use Rattle.sheet_format.proofs.Sizes.{FitsSteps, known_steps}

-- the steps that a list of bytes holds, one each twelve bytes
abbrev pub steps_of : ℕ → List ℕ → List Step
steps_of n b = build n (λ (k : ℕ). step_of (drop (STEP_BYTES * k) b))

-- the first one, and the others in what comes after its bytes
pub steps_of_suc : (n : ℕ) (b : List ℕ) → steps_of (suc n) b ≡ step_of b ∷ steps_of n (drop STEP_BYTES b)
steps_of_suc n b =
    ap (λ (l : List Step). step_of b ∷ l)
    (build_ext n (λ (k : ℕ). step_of (drop (STEP_BYTES * suc k) b)) (λ (k : ℕ). step_of (drop (STEP_BYTES * k) (drop STEP_BYTES b)))
    (λ k h. let e : STEP_BYTES * suc k ≡ STEP_BYTES + STEP_BYTES * k = omega arith in rw (e, drop-drop (STEP_BYTES * k) STEP_BYTES b)))

pub steps_of_bytes : (ss : List Step) (rest : List ℕ) → FitsSteps ss → steps_of (length ss) (chain step_bytes ss ++ rest) ≡ ss
steps_of_bytes [] rest h = refl
steps_of_bytes (t ∷ ss) rest h =
    let more = chain step_bytes ss ++ rest in
    rw (
      append_assoc (step_bytes t) (chain step_bytes ss) rest,
      steps_of_suc (length ss) (step_bytes t ++ more),
      step_of_bytes t more (h 0).low (h 0).high,
      drop_at (step_bytes t) more STEP_BYTES (length_step_bytes t),
      steps_of_bytes ss rest (λ k. h (suc k)),
    )

pub bytes_of_steps : (n : ℕ) (b : List ℕ) → STEP_BYTES * n ≤ length b → ((k : ℕ) → get_or b k 0 < 256) →
    known_steps (steps_of n b) ≡ true → chain step_bytes (steps_of n b) ≡ take (STEP_BYTES * n) b
bytes_of_steps zero b l h known = refl
bytes_of_steps (suc n) b l h known =
    let after = drop STEP_BYTES b in
    let p = both (known_func (step_of b).func) (known_steps (steps_of n after)) (ap known_steps (sym (steps_of_suc n b)) ∙ known) in
    let e : STEP_BYTES * suc n ≡ STEP_BYTES + STEP_BYTES * n = omega arith in
    let below : (k : ℕ) → get_or after k 0 < 256 = λ k. rw (get_or-drop STEP_BYTES b k 0) (h (STEP_BYTES + k)) in
    ap (chain step_bytes) (steps_of_suc n b)
    ∙ rw (bytes_of_step b (omega arith) h p.0, bytes_of_steps n after (simp length-drop (omega arith)) below p.1, e)
    (sym (take-add STEP_BYTES (STEP_BYTES * n) b))
