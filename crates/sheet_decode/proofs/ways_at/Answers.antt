-- `sheet_decode::ways_at` meets its contract: the places hold the ways read so far, and then 0.
use mathlib.Core.Path.{◌≡◌, refl, ap, ◌∙◌}
use mathlib.Core.List.{List}
use Prim.Native.Nat.{ℕ, ◌+◌, ◌<◌}
use native.Mathlib.Omega.{arith}
use lib.ListN.{get_or, set}
use Rattle.base_lists.specs.Lists.{build, pad}
use Rattle.base_lists.proofs.Pad.{pad_build_more}
use Rattle.sheet_decode.proofs.ways_at.Goals as goal

abbrev ways_to : List ℕ → ℕ → ℕ → List ℕ
ways_to s at i = pad 4 0 (build i (λ (k : ℕ). get_or s (at + k) 0))

-- one way more
more : (s : List ℕ) (at i : ℕ) (l : List ℕ) → i < 4 → l ≡ ways_to s at i → set l i (get_or s (at + i) 0) ≡ ways_to s at (i + 1)
more s at i l h e = rw e (pad_build_more 4 i 0 (λ (k : ℕ). get_or s (at + k) 0) h)

pub loop-i-init : goal.loop-i-init
loop-i-init c = (omega arith, refl)

pub loop-i-preserved : goal.loop-i-preserved
loop-i-preserved c =
    (omega arith, more c.args.s.now c.args.at c.loop-i.i _ (omega arith) c.loop-i.invariant.1)

pub returns : goal.returns
returns c =
    let a = c.args in
    let e : c.loop-i.i ≡ a.n = omega arith in
    c.loop-i.invariant.1 ∙ ap (ways_to a.s.now a.at) e
