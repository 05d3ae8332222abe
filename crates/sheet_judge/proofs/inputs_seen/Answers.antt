-- `sheet_judge::inputs_seen` meets its contract: the loop keeps that exactly the inputs passed are defined.
use mathlib.Core.Path.{◌≡◌, refl, ◌∙◌, sym, fun_ext}
use mathlib.Core.Bool.{Bool, false, or-false}
use mathlib.Core.List.{List, []}
use Prim.Native.Nat.{ℕ, ◌≤◌}
use native.Mathlib.Omega.{arith}
use lib.Dec.{ltb}
use lib.ListN.{length-set, replicate}
use borrow.Author.Tests.{le-ltb}
use Rattle.base_lists.specs.Lists.{has}
use Rattle.base_lists.proofs.Flags.{has_none, has_below_more}
use Rattle.sheet_judge.specs.Judge.{known_of}
use Rattle.sheet_judge.specs.Seen.{known_by}
use Rattle.sheet_judge.proofs.KnownLaws.{known_eq}
use Rattle.sheet_judge.proofs.inputs_seen.Goals as goal

known_inputs : (inputs q : ℕ) (d none : List Bool) → q ≤ inputs → inputs ≤ q → has d ≡ (λ (k : ℕ). ltb k q) → has none ≡ (λ (k : ℕ). false) →
    known_by (record { defined = d; used = none; named = none; cursor = none }) ≡ known_of inputs []
known_inputs inputs q d none l m h n =
    let e : q ≡ inputs = omega arith in
    known_eq (rw e at h ∙ fun_ext (λ (k : ℕ). sym (or-false (ltb k inputs)))) n n n

pub loop-q-init : goal.loop-q-init
loop-q-init c = (omega arith, refl, has_none 32 ∙ fun_ext (λ (k : ℕ). sym (le-ltb k 0 (omega arith))))

pub loop-q-preserved : goal.loop-q-preserved
loop-q-preserved c =
    (omega arith, simp length-set c.loop-q.invariant.1, has_below_more c.loop-q.defined c.loop-q.q c.loop-q.invariant.2 (omega arith))

pub returns : goal.returns
returns c =
    known_inputs c.args.inputs c.loop-q.q c.loop-q.defined (replicate 32 false) c.loop-q.invariant.0 c.loop-q-test.false c.loop-q.invariant.2
    (has_none 32)
