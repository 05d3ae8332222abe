-- `sheet_judge::judge` meets its contract: the tests in order, each as its definition has it.
use mathlib.Core.Path.{◌≡◌, refl, ◌∙◌, sym}
use mathlib.Core.Bool.{Bool, true, false, cond}
use Prim.Native.Nat.{ℕ}
use Rattle.sheet_judge.specs.Judge.{judge_by}
use Rattle.sheet_judge.specs.Seen.{known_by}
use Rattle.sheet_judge.proofs.JudgedLaws.{four_flagged}
use Rattle.sheet_judge.proofs.judge.Goals as goal

-- a test fails and gives its number, or it passes and the next ones decide
fails : (b r : Bool) (x y : ℕ) → r ≡ b → r ≡ false → y ≡ cond b x y
fails b r x y h e = rw (← h, e)

passes : (b r : Bool) (x y z : ℕ) → r ≡ b → r ≡ true → z ≡ x → z ≡ cond b x y
passes b r x y z h e g = rw (← h, e) g

pub returns-then-not-queues_good : goal.returns-then-not-queues_good
unfolding judge_by
returns-then-not-queues_good c = fails _ _ _ _ c.queues_good.ensures c.if-not-queues_good.true

pub queues_fresh-requires : goal.queues_fresh-requires
queues_fresh-requires c =
    let good = sym c.queues_good.ensures ∙ c.if-not-queues_good.false in
    (c.requires.0, four_flagged c.args.queues (known_by c.args.seen) c.args.o c.requires.1 good)

pub returns-then-not-queues_fresh : goal.returns-then-not-queues_fresh
unfolding judge_by
returns-then-not-queues_fresh c =
    passes _ _ _ _ _ c.queues_good.ensures c.if-not-queues_good.false
    (fails _ _ _ _ c.queues_fresh.ensures c.if-not-queues_fresh.true)

pub returns-then-not-variables_apart : goal.returns-then-not-variables_apart
unfolding judge_by
returns-then-not-variables_apart c =
    passes _ _ _ _ _ c.queues_good.ensures c.if-not-queues_good.false
    (passes _ _ _ _ _ c.queues_fresh.ensures c.if-not-queues_fresh.false
    (fails _ _ _ _ c.variables_apart.ensures c.if-not-variables_apart.true))

pub returns-then-not-fields_good : goal.returns-then-not-fields_good
unfolding judge_by
returns-then-not-fields_good c =
    passes _ _ _ _ _ c.queues_good.ensures c.if-not-queues_good.false
    (passes _ _ _ _ _ c.queues_fresh.ensures c.if-not-queues_fresh.false
    (passes _ _ _ _ _ c.variables_apart.ensures c.if-not-variables_apart.false
    (fails _ _ _ _ c.fields_good.ensures c.if-not-fields_good.true)))

pub returns : goal.returns
unfolding judge_by
returns c =
    passes _ _ _ _ _ c.queues_good.ensures c.if-not-queues_good.false
    (passes _ _ _ _ _ c.queues_fresh.ensures c.if-not-queues_fresh.false
    (passes _ _ _ _ _ c.variables_apart.ensures c.if-not-variables_apart.false
    (passes _ _ _ _ _ c.fields_good.ensures c.if-not-fields_good.false refl)))
