-- `sheet::vacant_from` meets its contract: every place passed is one below N or vacant.
use mathlib.Core.Path.{◌≡◌, refl, sym, ap, ◌∙◌}
use mathlib.Core.Bool.{Bool, ◌||◌}
use Prim.Native.Nat.{ℕ}
use native.Mathlib.Omega.{arith}
use lib.Dec.{ltb}
use Rattle.base_lists.specs.Lists.{build, all}
use Rattle.base_lists.proofs.Tests.{all_more, all_stop}
use Rattle.sheet_operator.specs.Memory.{vacant}
use Rattle.base_bounds.specs.Bounds.{OPERATORS}
use Rattle.sheet.specs.declared.Sheet.{Sheet}
use Rattle.sheet.specs.Sheet.{op_at}
use Rattle.sheet.proofs.vacant_from.Goals as goal

-- the test of one place
abbrev test : Sheet → ℕ → Bool
test t k = ltb k t.count || vacant (op_at t k)

pub loop-i-init : goal.loop-i-init
loop-i-init c = (omega arith, refl)

pub returns-then-not-vacant_past : goal.returns-then-not-vacant_past
returns-then-not-vacant_past c =
    let t = c.args.t in
    sym (all_stop (test t) OPERATORS c.loop-i.i (λ (k : ℕ). k) (omega arith) (sym c.vacant_past.ensures ∙ c.if-not-vacant_past.true))

pub loop-i-preserved : goal.loop-i-preserved
loop-i-preserved c =
    let t = c.args.t in
    (omega arith, all_more (test t) c.loop-i.i (λ (k : ℕ). k) c.loop-i.invariant.1 (sym c.vacant_past.ensures ∙ c.if-not-vacant_past.false))

pub returns : goal.returns
returns c =
    let t = c.args.t in
    let e : c.loop-i.i ≡ OPERATORS = omega arith in
    sym c.loop-i.invariant.1 ∙ ap (λ (n : ℕ). all (test t) (build n (λ (k : ℕ). k))) e
