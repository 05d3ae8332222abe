-- `counts::names_apart` meets its contract: what is left to test from here, after the names kept as flags, is what was to test at the start.
use mathlib.Core.Path.{◌≡◌, ap, ◌∙◌, sym}
use mathlib.Core.Bool.{Bool, true, false, not, ◌||◌}
use mathlib.Core.List.{List}
use Prim.Native.Nat.{ℕ, ◌+◌, ◌<◌, ◌≤◌}
use native.Mathlib.Omega.{arith}
use lib.ListN.{replicate}
use Rattle.base_lists.specs.Lists.{all, member, has}
use Rattle.base_lists.proofs.Rest.{rest, rest_all, rest_none}
use Rattle.base_lists.proofs.Flags.{has_none}
use Rattle.sheet_operator.specs.Op.{Op, names}
use Rattle.sheet_operator.specs.Memory.{view}
use Rattle.sheet.specs.Sheet.{op_at, view_sheet}
use Rattle.sheet.specs.declared.Sheet.{Sheet}
use Rattle.sheet.proofs.Accepted.{ranges_of_accepted}
use Rattle.counts.specs.Calm.{calm_from, is_calm}
use Rattle.counts.proofs.OfAccepted.{operator_ready, names_have_flags}
use Rattle.counts.proofs.Turns.{calm_turn, calm_stop}
use Rattle.counts.proofs.names_apart.Goals as goal

abbrev at : Sheet → ℕ → Op
at t k = view (op_at t k)

-- what is left to test from operator i on is what was to test
abbrev Left : Sheet → List Bool → ℕ → Type 0
Left t named i = calm_from (has named) (rest t.count i (at t)) ≡ is_calm (view_sheet t)

start : (t : Sheet) → Left t (replicate 32 false) 0
start t =
    ap (λ (d : ℕ → Bool). calm_from d (rest t.count 0 (at t))) (has_none 32) ∙ ap (calm_from (λ (v : ℕ). false)) (rest_all t.count (at t))

turn : (t : Sheet) (s r : List Bool) (i : ℕ) → i < t.count → has r ≡ (λ (k : ℕ). member k (names (at t i)) || has s k) →
    all (λ (v : ℕ). not (has s v)) (names (at t i)) ≡ true → Left t s i → Left t r (i + 1)
turn t s r i h e a l = calm_turn t.count (at t) i h (has s) (has r) e a ∙ l

stop : (t : Sheet) (s : List Bool) (i : ℕ) → i < t.count → all (λ (v : ℕ). not (has s v)) (names (at t i)) ≡ false → Left t s i → false ≡ is_calm (view_sheet t)
stop t s i h a l = sym (calm_stop t.count (at t) i h (has s) a) ∙ l

end : (t : Sheet) (s : List Bool) (i : ℕ) → t.count ≤ i → Left t s i → true ≡ is_calm (view_sheet t)
end t s i h l = sym (ap (calm_from (has s)) (rest_none t.count (at t) i h)) ∙ l

pub loop-i-init : goal.loop-i-init
loop-i-init c = (omega arith, start c.args.t)

pub offset_bounds-t-i : goal.offset_bounds-t-i
offset_bounds-t-i c = omega (arith, ranges_of_accepted c.args.t c.requires)

pub bounds-t-i : goal.bounds-t-i
bounds-t-i c = omega (arith, ranges_of_accepted c.args.t c.requires)

pub names_apart-requires : goal.names_apart-requires
names_apart-requires c =
    operator_ready c.args.t c.requires c.loop-i.i c.loop-i-test.true

pub returns-then-not-names_apart : goal.returns-then-not-names_apart
returns-then-not-names_apart c =
    stop c.args.t c.loop-i.named c.loop-i.i c.loop-i-test.true
    (sym c.names_apart.ensures ∙ c.if-not-names_apart.true) c.loop-i.invariant.1

pub names_flagged-next-requires : goal.names_flagged-next-requires
names_flagged-next-requires c =
    let t = c.args.t in
    let h = c.loop-i-test.true in
    (operator_ready t c.requires c.loop-i.i h, names_have_flags t c.requires c.loop-i.i h)

pub loop-i-preserved : goal.loop-i-preserved
loop-i-preserved c = (
  omega arith,
  turn c.args.t c.loop-i.named c.names_flagged-next.result c.loop-i.i c.loop-i-test.true
      c.names_flagged-next.ensures (sym c.names_apart.ensures ∙ c.if-not-names_apart.false) c.loop-i.invariant.1,
)

pub returns : goal.returns
returns c =
    end c.args.t c.loop-i.named c.loop-i.i c.loop-i-test.false c.loop-i.invariant.1
