-- `sheet_decode::deal_at` meets its contract: the ways are read from the third byte on.
use mathlib.Core.Path.{◌≡◌}
use mathlib.Core.List.{List, [], ◌∷◌}
use Prim.Native.Nat.{ℕ, ◌+◌, ◌-◌}
use native.Mathlib.Nat.{add-zero}
use native.Mathlib.Omega.{arith}
use lib.ListN.{get_or, drop}
use lib.Seq.{get_or-drop}
use Rattle.base_lists.specs.Lists.{build, pad}
use Rattle.base_lists.proofs.Build.{build_length}
use Rattle.sheet_step.specs.Step.{no_step}
use Rattle.sheet_operator.specs.Memory.{memory}
use Rattle.sheet_operator.specs.declared.Kind.TheVariants.{Deal}
use Rattle.sheet_operator.specs.declared.Operator.{Operator}
use Rattle.sheet_format.specs.Record.{op_of}
use Rattle.sheet_decode.proofs.Bodies.{ways_body, ways_of_drop}
use Rattle.sheet_decode.proofs.deal_at.Goals as goal

abbrev deal_with : List ℕ → ℕ → ℕ → List ℕ → Operator
deal_with s at n w =
    record { kind = Deal; count = n - 2; variable = get_or s at 0; field = 0; ins = pad 4 0 (get_or s (at + 1) 0 ∷ []); outs = w; steps = pad 4 no_step [] }

deal_from : (s : List ℕ) (at n : ℕ) (w : List ℕ) → w ≡ pad 4 0 (build (n - 2) (λ (k : ℕ). get_or s (at + 2 + k) 0)) →
    deal_with s at n w ≡ memory (op_of Deal n (drop at s))
deal_from s at n w e = rw (e, ways_of_drop s at (n - 2)) (simp (build_length, get_or-drop, add-zero))

pub overflow_sub-n : goal.overflow_sub-n
overflow_sub-n c = omega (arith, ways_body c.args.n c.requires.1)

pub ways_at-outs-requires : goal.ways_at-outs-requires
ways_at-outs-requires c = omega (arith, ways_body c.args.n c.requires.1)

pub overflow_sub-result : goal.overflow_sub-result
overflow_sub-result c = omega (arith, ways_body c.args.n c.requires.1)

pub overflow_cast-result : goal.overflow_cast-result
overflow_cast-result c = omega (arith, ways_body c.args.n c.requires.1)

pub bounds-s-at : goal.bounds-s-at
bounds-s-at c = omega (arith, ways_body c.args.n c.requires.1)

pub bounds-s-at-2 : goal.bounds-s-at-2
bounds-s-at-2 c = omega (arith, ways_body c.args.n c.requires.1)

pub returns : goal.returns
returns c =
    let a = c.args in
    deal_from a.s.now a.at a.n _ c.ways_at-outs.ensures
