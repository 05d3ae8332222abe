-- `sheet::judge_operators` meets its contract: what is left to check from here is what was to check at the start,
-- and the flags are what is known of the operators before.
use mathlib.Core.Path.{◌≡◌, refl, sym, ap, ◌∙◌}
use mathlib.Core.Bool.{cond}
use Prim.Native.Nat.{ℕ, ◌+◌, ◌-◌, ◌<◌}
use native.Mathlib.Omega.{arith}
use lib.Dec.{eqb}
use Rattle.std.specs.Prelude.{Ok, Err, Some}
use Rattle.base_refusal.specs.declared.Reason.{Reason}
use Rattle.base_refusal.specs.Refusal.{number_of, refusal}
use Rattle.sheet_operator.specs.Memory.{memory_number, view}
use Rattle.sheet_judge.specs.Judge.{Known, known, judge_by, after}
use Rattle.sheet_judge.specs.Seen.{known_by}
use Rattle.sheet_judge.specs.declared.Seen.{Seen}
use Rattle.sheet_judge.proofs.KnownLaws.{known_with}
use Rattle.sheet_format.proofs.Heads.{HeadRanges, ranges_of_good}
use Rattle.sheet.specs.declared.Sheet.{Sheet}
use Rattle.sheet.specs.Sheet.{op_at, view_to}
use Rattle.sheet.specs.Check.{stopped, number_in, check_from}
use Rattle.sheet.specs.Judges.{judged_number, Judged, Judges}
use Rattle.base_refusal.proofs.Reasons.{some_number}
use Rattle.sheet.proofs.Turns.{view_more, check_next, check_stop, check_end_lem}
use Rattle.sheet.proofs.judge_operators.Goals as goal
use Rattle.sheet.proofs.judge_operators.Goals.{Start}

-- what is left to check from operator i on is what was to check
abbrev Left : Sheet → ℕ → Type 0
Left t i = check_from t (t.count - i) (view_to t i) ≡ check_from t t.count (view_to t 0)

-- the number of an operator after those seen is the one of the definition
number_seen : (t : Sheet) (i : ℕ) (seen : Seen) → known_by seen ≡ known (view_to t i) →
    judged_number t seen (op_at t i) ≡ number_in (view_to t i) (op_at t i)
number_seen t i seen f =
    ap (λ (x : Known). cond (eqb (memory_number (op_at t i)) 0) (judge_by t.queues t.variables x (view (op_at t i))) (memory_number (op_at t i))) f

-- a refused operator, the next one, and the end
stop : (t : Sheet) (i : ℕ) (seen : Seen) (reason : Reason) → i < t.count → Left t i → known_by seen ≡ known (view_to t i) →
    Judged t seen (op_at t i) (Err reason) → check_from t t.count (view_to t 0) ≡ stopped (number_of reason) (i + 1)
stop t i seen reason h l f j =
    let e = j.number ∙ number_seen t i seen f in
    sym l ∙ check_stop t t.count i h (λ q. omega (arith, some_number reason)) ∙ ap (λ (n : ℕ). stopped n (i + 1)) (sym e)

left_next : (t : Sheet) (i : ℕ) (seen next : Seen) → i < t.count → Left t i → known_by seen ≡ known (view_to t i) →
    Judged t seen (op_at t i) (Ok next) → Left t (i + 1)
left_next t i seen next h l f j = sym (check_next t t.count i h (sym (j.number ∙ number_seen t i seen f))) ∙ l

known_next : (t : Sheet) (i : ℕ) (seen next : Seen) → known_by seen ≡ known (view_to t i) →
    Judged t seen (op_at t i) (Ok next) → known_by next ≡ known (view_to t (i + 1))
known_next t i seen next e j =
    j.known ∙ ap (λ (x : Known). after x (view (op_at t i))) e ∙ sym (known_with (view_to t i) (view (op_at t i))) ∙ ap known (view_more t i)

end : (t : Sheet) (i : ℕ) (seen : Seen) → i ≡ t.count → Left t i → known_by seen ≡ known (view_to t i) → Judges t (Ok seen)
end t i seen e l k = (sym l ∙ check_end_lem t t.count i (omega arith) (omega arith), k ∙ ap (λ (j : ℕ). known (view_to t j)) e)

ranges : (c : Start) → HeadRanges c.args.t.inputs c.args.t.queues c.args.t.variables c.args.t.count
ranges c = ranges_of_good c.args.t.inputs c.args.t.queues c.args.t.variables c.args.t.count c.requires

pub inputs_seen-seen-requires : goal.inputs_seen-seen-requires
inputs_seen-seen-requires c = omega (arith, ranges (goal.at.inputs_seen-seen-requires c).Start)

pub loop-i-init : goal.loop-i-init
loop-i-init c =
    let t = c.args.t in
    let z : t.count - 0 ≡ t.count = omega arith in
    (omega arith, ap (λ (n : ℕ). check_from t n (view_to t 0)) z, c.inputs_seen-seen.ensures)

pub offset_bounds-t-i : goal.offset_bounds-t-i
offset_bounds-t-i c = omega (arith, ranges (goal.at.offset_bounds-t-i c).Start)

pub bounds-t-i : goal.bounds-t-i
bounds-t-i c = omega (arith, ranges (goal.at.bounds-t-i c).Start)

pub returns-in-Err : goal.returns-in-Err
returns-in-Err c =
    let l = c.loop-i in
    let told : c.at.result ≡ refusal c.in-Err.reason (Some (l.i + 1)) = c.at.ensures in
    rw told (stop c.args.t l.i l.seen c.in-Err.reason c.loop-i-test.true l.invariant.1 l.invariant.2 c.in-Err.ensures, refl)

pub loop-i-preserved : goal.loop-i-preserved
loop-i-preserved c =
    let t = c.args.t in
    let l = c.loop-i in (
      omega arith,
      left_next t l.i l.seen c.in-Ok.next c.loop-i-test.true l.invariant.1 l.invariant.2 c.in-Ok.ensures,
      known_next t l.i l.seen c.in-Ok.next l.invariant.2 c.in-Ok.ensures,
    )

pub returns : goal.returns
returns c =
    end c.args.t c.loop-i.i c.loop-i.seen (omega arith) c.loop-i.invariant.1 c.loop-i.invariant.2
