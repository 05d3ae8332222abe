-- `runner::fresh` meets its contract: 8 by the store's length, else zeros everywhere.
-- Assumes nothing.
use mathlib.Core.Path.{◌≡◌, refl, ap, ◌∙◌}
use mathlib.Core.List.{List}
use Prim.Native.Nat.{ℕ}
use lib.ListN.{length, replicate}
use lib.IntN.{ℤ, pos}
use borrow.Author.Tests.{eq-eqb, ne_eqb}
use Rattle.std.specs.Prelude.{Ok, Err, None}
use Rattle.base_refusal.specs.declared.Reason.TheVariants.{BadState}
use Rattle.base_refusal.specs.Refusal.{refusal}
use Rattle.run_store.specs.Store.{STORE}
use Rattle.run_machine.specs.declared.State.{State}
use Rattle.run_machine.specs.Calls.{fresh_state, fresh_of}
use Rattle.run_machine.specs.Answers.{Answers}
use Rattle.runner.proofs.fresh.Goals as goal

wrong_length : (st : State) (s : List ℤ) → (length s ≡ STORE → ⊥) → Answers (fresh_of st s) st (Err (refusal BadState None)) s
unfolding fresh_of
wrong_length st s n = rw (ne_eqb (length s) STORE n) (record { answered = refl; stated = refl; stored = refl })

cleared : (st : State) (s v : List ℤ) → length s ≡ STORE → v ≡ replicate (length s) (pos 0) → Answers (fresh_of st s) st (Ok fresh_state) v
unfolding fresh_of
cleared st s v n d = rw (eq-eqb (length s) STORE n) (record { answered = refl; stated = refl; stored = d ∙ ap (λ (k : ℕ). replicate k (pos 0)) n })

pub returns-then-store-ne-STORE : goal.returns-then-store-ne-STORE
returns-then-store-ne-STORE c = λ before. rw c.into.ensures (wrong_length before c.args.store.now c.if-store-ne-STORE.true)

pub returns : goal.returns
returns c = λ before. cleared before c.args.store.now _ c.if-store-ne-STORE.false c.clear.ensures
