-- How each call goes by the test of sheet, state and store: where it accepts, what the call's inner function answers; where it refuses, that refusal, and all as it was.
-- Assumes nothing.
use mathlib.Core.Path.{◌≡◌, refl, sym, ap, ◌∙◌}
use mathlib.Core.Bool.{false}
use mathlib.Core.List.{List}
use Prim.Native.Nat.{ℕ}
use lib.Count.{ones, count_trailing_zeros}
use lib.IntN.{ℤ}
use Rattle.std.specs.Prelude.{Result, Ok, Err}
use Rattle.base_refusal.specs.declared.Refusal.{Refusal}
use Rattle.sheet.specs.declared.Sheet.{Sheet}
use Rattle.sheet.specs.Answer.{accepted, refused_for, is_accepted}
use Rattle.sheet.specs.Sheet.{view_sheet}
use Rattle.sheet.specs.Check.{check_of}
use Rattle.sheet.proofs.AnswerLaws.{both_stand, refusal_refuses}
use Rattle.run_store.specs.declared.Item.{Item}
use Rattle.run_machine.specs.declared.RunEnd.{RunEnd}
use Rattle.run_machine.specs.declared.State.{State}
use Rattle.run_machine.specs.declared.TakenItem.{TakenItem}
use Rattle.run_machine.specs.Ready.{SET}
use Rattle.run_machine.specs.Numbers.{good}
use Rattle.run_machine.specs.Calls.{stands_of, fire_known, feed_known, take_known, run_known}
use Rattle.run_machine.specs.Calls.{ready_known, fire_of, feed_of, take_of, run_of, ready_of}
use Rattle.run_machine.specs.Answers.{Answers, TakeAnswers, RunAnswers, ReadyAnswers}
use Rattle.run_machine.specs.Working.{Stands}

module _ (t : Sheet) (st : State) (s : List ℤ) where
  -- ---- the test accepts: what the inner function answers is what the call has to

  module _ (h : accepted ≡ stands_of t st s) where
    pub stands_of_done : Stands t st s
    stands_of_done = let p = both_stand (check_of t) (good (view_sheet t) st s) (sym h) in record { sheet = p.0; numbers = p.1 }

    module _ (v : List ℤ) where
      pub fire_answers : (q : ℕ) (r : Result State Refusal) → Answers (fire_known t st s q) st r v → Answers (fire_of t st s q) st r v
      unfolding fire_of
      fire_answers q r k = rw (← h) k

      pub feed_answers : (q : ℕ) (x : Item) (r : Result State Refusal) → Answers (feed_known t st s q x) st r v → Answers (feed_of t st s q x) st r v
      unfolding feed_of
      feed_answers q x r k = rw (← h) k

      pub take_answers : (q : ℕ) (r : Result TakenItem Refusal) → TakeAnswers (take_known t st s q) st r v → TakeAnswers (take_of t st s q) st r v
      unfolding take_of
      take_answers q r k = rw (← h) k

      pub run_answers : (qs : List ℕ) (r : Result RunEnd Refusal) → RunAnswers (run_known t st s qs) st r v → RunAnswers (run_of t st s qs) st r v
      unfolding run_of
      run_answers qs r k = rw (← h) k

    pub ready_answers : (n : ℕ) → n ≡ ready_known t st s →
        ReadyAnswers (ready_of t st s) (Ok (record { set = n; count = ones n; lowest = count_trailing_zeros SET n }))
    unfolding ready_of
    ready_answers n k = rw (← h, k) (record { answered = refl; bits = refl; many = refl; least = refl })

  -- ---- the test refuses

  module _ (e : Refusal) (h : refused_for e.reason e.spot ≡ stands_of t st s) where
    refuses : is_accepted (stands_of t st s) ≡ false
    refuses = sym (ap is_accepted h) ∙ refusal_refuses e.reason e.spot

    pub fire_refuses : (q : ℕ) → Answers (fire_of t st s q) st (Err e) s
    unfolding fire_of
    fire_refuses q = rw refuses (record { answered = h; stated = refl; stored = refl })

    pub feed_refuses : (q : ℕ) (x : Item) → Answers (feed_of t st s q x) st (Err e) s
    unfolding feed_of
    feed_refuses q x = rw refuses (record { answered = h; stated = refl; stored = refl })

    pub take_refuses : (q : ℕ) → TakeAnswers (take_of t st s q) st (Err e) s
    unfolding take_of
    take_refuses q = rw refuses (record { answered = h; taken = refl; stated = refl; stored = refl })

    pub run_refuses : (qs : List ℕ) → RunAnswers (run_of t st s qs) st (Err e) s
    unfolding run_of
    run_refuses qs = rw refuses (record { answered = h; firings = refl; skips = refl; stated = refl; stored = refl })

    pub ready_refuses : ReadyAnswers (ready_of t st s) (Err e)
    unfolding ready_of ones
    ready_refuses = rw refuses (record { answered = h; bits = refl; many = refl; least = refl })
