-- `sheet::check` meets its contract: one law for each answer.
use mathlib.Core.Path.{◌≡◌, refl, sym, ap, ◌∙◌}
use mathlib.Core.Bool.{Bool, true, false, not, cond}
use mathlib.Core.List.{[]}
use Prim.Native.Nat.{ℕ, ◌+◌}
use Rattle.std.specs.Prelude as rattle
use Rattle.std.specs.Prelude.{Some, None, IsSome, unwrap_or, Err}
use Rattle.std.proofs.lemmas.Result.{err_from_is_err_and}
use Rattle.base_lists.proofs.Build.{build_length, never}
use Rattle.base_refusal.specs.declared.Reason.{Reason}
use Rattle.base_refusal.specs.declared.Refusal.{Refusal}
use Rattle.base_refusal.specs.Refusal.{number_of}
use Rattle.sheet_operator.specs.Memory.{view}
use Rattle.sheet_judge.specs.Judge.{Known, known, whole}
use Rattle.sheet_format.specs.Head.{head_good}
use Rattle.sheet.specs.declared.Sheet.{Sheet}
use Rattle.sheet.specs.Answer.{accepted, refused_at, refused_for}
use Rattle.sheet.specs.Sheet.{op_at, view_to, view_sheet}
use Rattle.sheet.specs.Check.{Kept, stopped, kept, check_from, ending, vacant_from, check_end, check_of}
use Rattle.sheet.specs.Judges.{Judges}
use Rattle.sheet.proofs.check.Goals as goal
use Rattle.sheet.proofs.check.Goals.{After-all_defined, After-judge_operators}

-- the test of the head
abbrev head_test : Sheet → Bool
head_test t = head_good t.inputs t.queues t.variables t.count

bad_head : (t : Sheet) → head_test t ≡ false → refused_at 3 0 ≡ check_of t
unfolding check_of
bad_head t h = rw h

good_head : (t : Sheet) (k : Kept) → head_test t ≡ true → check_from t t.count (view_to t 0) ≡ k → check_of t ≡ check_end t k
unfolding check_of
good_head t k h e = rw (h, e)

-- a refusal that names its record
told_at : (reason : Reason) (spot : rattle.Option ℕ) → IsSome spot → refused_at (number_of reason) (unwrap_or spot 0) ≡ refused_for reason spot
told_at reason (Some k) h = refl
told_at reason None h = never h

bad_operator : (t : Sheet) (e : Refusal) → head_test t ≡ true → Judges t (Err e) →
    refused_for e.reason e.spot ≡ check_of t
bad_operator t e h d = sym (good_head t (stopped (number_of e.reason) (unwrap_or e.spot 0)) h d.0 ∙ told_at e.reason e.spot d.1)

-- what stands at record N+1
past_end : (t : Sheet) (v w : Bool) → vacant_from t ≡ v → whole t.queues (known (view_sheet t)) ≡ w →
    cond (not v) (refused_at 1 (t.count + 1)) (cond w accepted (refused_at 5 (t.count + 1))) ≡ ending (not (vacant_from t)) (view_sheet t)
unfolding ending
past_end t v w e f = rw (build_length t.count (λ (k : ℕ). view (op_at t k)), e, f)

ended : (t : Sheet) (v w : Bool) → head_test t ≡ true → check_from t t.count (view_to t 0) ≡ kept (view_sheet t) [] → vacant_from t ≡ v →
    whole t.queues (known (view_sheet t)) ≡ w → cond (not v) (refused_at 1 (t.count + 1)) (cond w accepted (refused_at 5 (t.count + 1))) ≡ check_of t
ended t v w h k e f = past_end t v w e f ∙ sym (good_head t (kept (view_sheet t) []) h k)

left_over : (t : Sheet) → head_test t ≡ true → check_from t t.count (view_to t 0) ≡ kept (view_sheet t) [] → vacant_from t ≡ false →
    refused_at 1 (t.count + 1) ≡ check_of t
left_over t h k e = ended t false (whole t.queues (known (view_sheet t))) h k e refl

head_true : (c : After-judge_operators) → head_test c.args.t ≡ true
head_true c = sym c.head_good.ensures ∙ c.if-not-head_good.false

-- every operator kept, nothing left over: the answer goes by the queues
all_kept : (c : After-all_defined) (w : Bool) → c.all_defined.result ≡ w →
    check_of c.args.t
    ≡ cond w accepted (refused_at 5 (c.args.t.count + 1))
all_kept c w r =
    let t = c.args.t in
    let d = ap (λ (x : Known). whole t.queues x) c.in_ok-seen.ensures.1 in
    let v = c.vacant_from in
    let h = sym c.head_good.ensures ∙ c.if-not-head_good.false in
    sym (ended t true w h c.in_ok-seen.ensures.0 (sym v.ensures ∙ c.if-not-vacant_from.false)
    (sym d ∙ sym c.all_defined.ensures ∙ r))

pub returns-then-not-head_good : goal.returns-then-not-head_good
returns-then-not-head_good c = rw c.at.ensures (bad_head c.args.t (sym c.head_good.ensures ∙ c.if-not-head_good.true))

pub judge_operators-requires : goal.judge_operators-requires
judge_operators-requires c = sym c.head_good.ensures ∙ c.if-not-head_good.false

pub returns-in_err-seen : goal.returns-in_err-seen
returns-in_err-seen c =
    let p = err_from_is_err_and c.from_residual.result c.from_residual.ensures.1 in
    let h = sym c.head_good.ensures ∙ c.if-not-head_good.false in
    rw (p.1, p.2) (bad_operator c.args.t c.in_err-seen.field-0.0 h c.in_err-seen.ensures)

pub returns-then-not-vacant_from : goal.returns-then-not-vacant_from
returns-then-not-vacant_from c =
    rw c.at-then-not-vacant_from.ensures
    (left_over c.args.t (head_true (goal.at.returns-then-not-vacant_from c).After-judge_operators) c.in_ok-seen.ensures.0
    (sym c.vacant_from.ensures ∙ c.if-not-vacant_from.true))

pub returns-then-not-all_defined : goal.returns-then-not-all_defined
returns-then-not-all_defined c =
    rw c.at-then-not-all_defined.ensures (sym (all_kept (goal.at.returns-then-not-all_defined c).After-all_defined false c.if-not-all_defined.true))

pub returns : goal.returns
returns c = sym (all_kept (goal.at.returns c).After-all_defined true c.if-not-all_defined.false)
