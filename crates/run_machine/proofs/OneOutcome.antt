-- Two outcomes that meet the same contract are equal: the answer with its value, and the store.
-- Assumes nothing.
use mathlib.Core.Path.{◌≡◌, refl, sym, ap, ◌∙◌}
use mathlib.Core.List.{List, [], ◌∷◌}
use Prim.Native.Nat.{ℕ}
use native.Mathlib.Omega.{arith}
use lib.IntN.{ℤ}
use Rattle.std.specs.Prelude.{Ok, Err}
use Rattle.std.specs.Prelude as std
use Rattle.base_refusal.specs.declared.Reason.{Reason}
use Rattle.base_refusal.specs.declared.Refusal.{Refusal}
use Rattle.base_refusal.specs.Refusal.{number_or_zero}
use Rattle.base_refusal.proofs.Reasons.{number_injective, some_number}
use Rattle.sheet.proofs.AnswerLaws.{answer_injective}
use Rattle.sheet_operator.specs.declared.Operator.{Operator}
use Rattle.run_store.specs.declared.Item.{Item}
use Rattle.run_store.specs.Store.{part, first_of}
use Rattle.run_effect.specs.declared.Effect.{Effect}
use Rattle.run_effect.specs.declared.Puts.{Puts}
use Rattle.run_effect.specs.declared.Puts.TheVariants.{Nowhere, One, Two}
use Rattle.run_effect.specs.Effect.{Result, puts_of, result_of}
use Rattle.run_machine.specs.declared.RunEnd.{RunEnd}
use Rattle.run_machine.specs.declared.ReadySet.{ReadySet}
use Rattle.run_machine.specs.declared.State.{State}
use Rattle.run_machine.specs.declared.TakenItem.{TakenItem}
use Rattle.run_machine.specs.Calls.{Call, TakeCall, RunCall, ReadyCall}
use Rattle.run_machine.specs.Answers.{Answers, no_take, TakeAnswers, no_run, RunAnswers, none_ready, ReadyAnswers}
use Rattle.run_machine.specs.Working.{attempted, Attempts}

-- fresh, feed and fire
pub called_one : {c : Call} {before : State} {r r' : std.Result State Refusal} {s s' : List ℤ} → Answers c before r s → Answers c before r' s' →
    (r ≡ r') × (s ≡ s')
called_one {before = b} {r = r} {r' = r'} h k =
    (answer_injective r r' b (h.answered ∙ sym k.answered) (h.stated ∙ sym k.stated), h.stored ∙ sym k.stored)

taken_eq : {x x' : Item} {st st' : State} → x ≡ x' → st ≡ st' →
    ◌≡◌ {A = TakenItem} (record { item = x; state = st }) (record { item = x'; state = st' })
taken_eq p q = cc

pub taken_one : {c : TakeCall} {before : State} {r r' : std.Result TakenItem Refusal} {s s' : List ℤ} → TakeAnswers c before r s →
    TakeAnswers c before r' s' → (r ≡ r') × (s ≡ s')
taken_one {before = b} {r = r} {r' = r'} h k = (
  answer_injective r r' (no_take b) (h.answered ∙ sym k.answered) (taken_eq (h.taken ∙ sym k.taken) (h.stated ∙ sym k.stated)),
  h.stored ∙ sym k.stored,
)

ran_eq : {m m' n n' : ℕ} {st st' : State} → m ≡ m' → n ≡ n' → st ≡ st' →
    ◌≡◌ {A = RunEnd} (record { fired = m; skipped = n; state = st }) (record { fired = m'; skipped = n'; state = st' })
ran_eq p q r = cc

pub ran_one : {c : RunCall} {before : State} {r r' : std.Result RunEnd Refusal} {s s' : List ℤ} → RunAnswers c before r s →
    RunAnswers c before r' s' → (r ≡ r') × (s ≡ s')
ran_one {before = b} {r = r} {r' = r'} h k =
    let e = ran_eq (h.firings ∙ sym k.firings) (h.skips ∙ sym k.skips) (h.stated ∙ sym k.stated) in
    (answer_injective r r' (no_run b) (h.answered ∙ sym k.answered) e, h.stored ∙ sym k.stored)

ready_eq : {m m' n n' l l' : ℕ} → m ≡ m' → n ≡ n' → l ≡ l' →
    ◌≡◌ {A = ReadySet} (record { set = m; count = n; lowest = l }) (record { set = m'; count = n'; lowest = l' })
ready_eq p q r = cc

pub ready_one : {c : ReadyCall} {r r' : std.Result ReadySet Refusal} → ReadyAnswers c r → ReadyAnswers c r' → r ≡ r'
ready_one {r = r} {r' = r'} h k =
    answer_injective r r' none_ready (h.answered ∙ sym k.answered)
    (ready_eq (h.bits ∙ sym k.bits) (h.many ∙ sym k.many) (h.least ∙ sym k.least))

-- a try: the queues that its effect would put on are read off the list of them
abbrev puts_from : List ℕ → Puts
puts_from [] = Nowhere
puts_from (a ∷ []) = One a
puts_from (a ∷ b ∷ rest) = Two a b

puts_back : (p : Puts) → puts_from (puts_of p) ≡ p
puts_back Nowhere = refl
puts_back (One a) = refl
puts_back (Two a b) = refl

effect_eq : {p p' : Puts} {x x' : Item} {vs vs' : List ℤ} → p ≡ p' → x ≡ x' → vs ≡ vs' →
    ◌≡◌ {A = Effect} (record { puts = p; item = x; vars = vs }) (record { puts = p'; item = x'; vars = vs' })
effect_eq a b c = cc

effect_one : (e d : Effect) → result_of e ≡ result_of d → e ≡ d
effect_one e d h =
    effect_eq (sym (puts_back e.puts) ∙ ap (λ (w : Result). puts_from w.puts) h ∙ puts_back d.puts) (ap (λ (w : Result). w.item) h)
    (ap (λ (w : Result). w.vars) h)

pub attempt_one : {o : Operator} {q : ℕ} {st : State} {s : List ℤ} {r r' : std.Result Effect Reason} → Attempts o q st s r →
    Attempts o q st s r' → r ≡ r'
attempt_one {q = q} {st = st} {s = s} {r = r} {r' = r'} h k =
    go r r' (first_of (part s q)) st.vars (h.number ∙ sym k.number) (h.result ∙ sym k.result)
  where
    go : (a b : std.Result Effect Reason) (x : Item) (vs : List ℤ) → number_or_zero a ≡ number_or_zero b → attempted a x vs ≡ attempted b x vs → a ≡ b
    go (Ok e) (Ok d) x vs n w = ap Ok (effect_one e d w)
    go (Ok e) (Err c) x vs n w = absurd (omega (arith, some_number c))
    go (Err c) (Ok e) x vs n w = absurd (omega (arith, some_number c))
    go (Err c) (Err d) x vs n w = ap Err (number_injective c d n)
