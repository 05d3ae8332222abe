-- `rewrite_fuse::joined_steps` meets its contract: the places hold the first steps and those of the second line passed.
use mathlib.Core.Path.{◌≡◌, sym, ap, ◌∙◌}
use mathlib.Core.List.{List, [], ◌∷◌, ◌++◌, append_assoc}
use Prim.Native.Nat.{ℕ, ◌+◌, ◌<◌}
use native.Mathlib.Omega.{arith}
use lib.ListN.{length, get_or, set, length-append}
use Rattle.base_lists.specs.Lists.{pad}
use Rattle.base_lists.proofs.Build.{build_length, build_snoc}
use Rattle.base_lists.proofs.Pad.{pad_set}
use Rattle.sheet_step.specs.Step.{no_step}
use Rattle.sheet_step.specs.declared.Step.{Step}
use Rattle.sheet_operator.specs.Memory.{PLACES, steps_in}
use Rattle.rewrite_fuse.proofs.joined_steps.Invariants.{joined_to}
use Rattle.rewrite_fuse.proofs.joined_steps.Goals as goal

-- one step more
more : (ss : List Step) (n : ℕ) (ts : List Step) (k : ℕ) → n + k < PLACES →
    set (joined_to ss n ts k) (n + k) (get_or ts k no_step) ≡ joined_to ss n ts (k + 1)
more ss n ts k h =
    let l = steps_in n ss ++ steps_in k ts in
    let s = get_or ts k no_step in
    let len : n + k ≡ length l =
    sym
    (length-append (steps_in n ss) (steps_in k ts)
    ∙ rw (build_length n (λ (j : ℕ). get_or ss j no_step), build_length k (λ (j : ℕ). get_or ts j no_step))) in
    let snoc = build_snoc k (λ (j : ℕ). get_or ts j no_step) in
    ap (λ (i : ℕ). set (pad PLACES no_step l) i s) len ∙ pad_set PLACES no_step l s (omega arith)
    ∙ ap (pad PLACES no_step) (append_assoc (steps_in n ss) (steps_in k ts) (s ∷ []) ∙ ap (λ (x : List Step). steps_in n ss ++ x) (sym snoc))

pub loop-k-preserved : goal.loop-k-preserved
loop-k-preserved c =
    let a = c.args in
    (omega arith, rw c.loop-k.invariant.1 (more a.ss a.n a.ts c.loop-k.k (omega arith)))
