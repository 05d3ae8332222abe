-- The calls on the numbers of a good machine: stands_of, a feed with room, a run, the ready set, and a fresh start.
-- Assumes nothing.
use mathlib.Core.Path.{◌≡◌, refl, sym, ap, ◌∙◌}
use mathlib.Core.Bool.{Bool, true, false, cond}
use mathlib.Core.List.{List, [], ◌∷◌, ◌++◌}
use Prim.Native.Nat.{ℕ, ◌<◌}
use lib.Dec.{eqb}
use lib.ListN.{length, get_or, set, replicate}
use lib.IntN.{ℤ, pos}
use borrow.Author.Tests.{lt-ltb, lt-leb}
use Rattle.base_lists.proofs.Tests.{neither_of}
use Rattle.sheet.specs.declared.Sheet.{Sheet}
use Rattle.sheet.specs.Answer.{Paper, accepted, refused, is_accepted}
use Rattle.sheet.specs.Sheet.{view_sheet}
use Rattle.sheet.specs.Check.{check_of}
use Rattle.sheet.proofs.AnswerLaws.{none_apart}
use Rattle.run_store.specs.Store.{STORE}
use Rattle.base_bounds.specs.Bounds.{ROOM}
use Rattle.run_store.specs.declared.Item.{Item}
use Rattle.run_machine.specs.declared.State.{State}
use Rattle.run_machine.specs.Machine.{Machine, Outcome, refuse, done, full, feed_m, fire_m, run_m}
use Rattle.run_machine.specs.Ready.{ready_set}
use Rattle.run_machine.specs.Numbers.{state_of, store_in, good, GoodM}
use Rattle.run_machine.specs.Calls.{Call, stands_of, unchanged, saved, saved_run, feed_of, fire_of, RunCall, run_of, ready_call, ready_of, fresh_state, fresh_of}
use Rattle.run_machine.proofs.Good.{decode_of_encode, good_of_machine}
use Rattle.run_machine.proofs.FreshLaws.{fresh_machine, fresh_numbers}

-- an accepted call that leaves a machine's numbers
abbrev pub held : Machine → Call
held m = record { answer = accepted; state = state_of m; store = store_in m }

-- a machine with an item more on a queue
abbrev pub fed_to : Machine → ℕ → Item → Machine
fed_to m q x = record { queues = set m.queues q (get_or m.queues q [] ++ (x ∷ [])); vars = m.vars }

-- a test passed, and what is then answered
picks : {A : Type 0} (p : Paper) (x y : A) → p ≡ accepted → cond (is_accepted p) x y ≡ x
picks p x y e = rw e

module _ (t : Sheet) (h : check_of t ≡ accepted) (m : Machine) (g : GoodM (view_sheet t) m) where
  pub held_stands : stands_of t (state_of m) (store_in m) ≡ accepted
  held_stands =
      picks (check_of t) (cond (good (view_sheet t) (state_of m) (store_in m)) accepted (refused 8)) (check_of t) h
      ∙ ap (λ (b : Bool). cond b accepted (refused 8)) (good_of_machine (view_sheet t) m g)

  pub held_feed : (q : ℕ) (x : Item) → q < t.inputs → length (get_or m.queues q []) < ROOM →
      feed_m (view_sheet t) m q x ≡ done (fed_to m q x)
  unfolding feed_m
  held_feed q x l r =
      ap (λ (b : Bool). cond b (cond (full m.queues (q ∷ [])) (refuse 12) (done (fed_to m q x))) (refuse 9)) (lt-ltb q t.inputs l)
      ∙ ap (λ (b : Bool). cond b (refuse 12) (done (fed_to m q x))) (neither_of _ _ (lt-leb ROOM (length (get_or m.queues q [])) r) refl)

  pub feed_held : (q : ℕ) (x : Item) → q < t.inputs → length (get_or m.queues q []) < ROOM →
      feed_of t (state_of m) (store_in m) q x ≡ held (fed_to m q x)
  unfolding feed_of
  feed_held q x l r =
      picks (stands_of t (state_of m) (store_in m)) _ _ held_stands
      ∙ ap (λ (n : Machine). saved (state_of m) (store_in m) (feed_m (view_sheet t) n q x)) (decode_of_encode (view_sheet t) m g)
      ∙ ap (λ (o : Outcome). saved (state_of m) (store_in m) o) (held_feed q x l r)

  pub run_saved : (qs : List ℕ) → run_of t (state_of m) (store_in m) qs ≡ saved_run (run_m (view_sheet t) qs m)
  unfolding run_of
  run_saved qs =
      picks (stands_of t (state_of m) (store_in m)) _ _ held_stands
      ∙ ap (λ (n : Machine). saved_run (run_m (view_sheet t) qs n)) (decode_of_encode (view_sheet t) m g)

  pub run_held : (qs : List ℕ) → (run_of t (state_of m) (store_in m) qs).call ≡ held (run_m (view_sheet t) qs m).machine
  run_held qs = ap (λ (c : RunCall). c.call) (run_saved qs)

  pub fire_saved : (q : ℕ) → fire_of t (state_of m) (store_in m) q ≡ saved (state_of m) (store_in m) (fire_m (view_sheet t) m q)
  unfolding fire_of
  fire_saved q =
      picks (stands_of t (state_of m) (store_in m)) _ _ held_stands
      ∙ ap (λ (n : Machine). saved (state_of m) (store_in m) (fire_m (view_sheet t) n q)) (decode_of_encode (view_sheet t) m g)

  pub ready_held : ready_of t (state_of m) (store_in m) ≡ ready_call accepted (ready_set (view_sheet t) m)
  unfolding ready_of
  ready_held =
      picks (stands_of t (state_of m) (store_in m)) _ _ held_stands
      ∙ ap (λ (n : Machine). ready_call accepted (ready_set (view_sheet t) n)) (decode_of_encode (view_sheet t) m g)

-- a fresh start that is accepted leaves the fresh machine
pub fresh_held : (st : State) (s : List ℤ) → (fresh_of st s).answer ≡ accepted → fresh_of st s ≡ held fresh_machine
unfolding fresh_of
fresh_held st s e = go (eqb (length s) STORE) e
  where
    zeros : Call
    zeros = record { answer = accepted; state = fresh_state; store = replicate STORE (pos 0) }

    go : (b : Bool) → (cond b zeros (unchanged (refused 8) st s)).answer ≡ accepted →
        cond b zeros (unchanged (refused 8) st s) ≡ held fresh_machine
    go true h = ap (λ (z : List ℤ). record { answer = accepted; state = fresh_state; store = z }) (sym fresh_numbers.1)
    go false h = absurd (none_apart 8 (sym h))
