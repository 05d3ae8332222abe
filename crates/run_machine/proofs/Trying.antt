-- An operator tried from a queue: what `fire_op` is at each return of `try_operator`, what an effect says, and what a firing then leaves.
-- Assumes nothing.
use mathlib.Core.Path.{◌≡◌, refl, sym, ap, ap₂, ◌∙◌, subst}
use mathlib.Core.Logic.{⊎_elim}
use mathlib.Core.Bool.{Bool, true, false, cond}
use mathlib.Core.List.{List}
use Prim.Native.Nat.{ℕ, suc, ◌-◌, ◌≤◌, ◌<◌}
use native.Mathlib.Omega.{arith}
use lib.ListN.{length, get_or, set, drop, length-set}
use lib.IntN.{ℤ}
use Rattle.std.specs.Prelude.{Ok, Err, None}
use Rattle.base_lists.proofs.Build.{order}
use Rattle.base_lists.proofs.Tests.{false_of}
use Rattle.base_refusal.specs.declared.Reason.{Reason}
use Rattle.base_refusal.specs.Refusal.{number_of, refusal}
use Rattle.sheet_operator.specs.Op.{Op}
use Rattle.sheet_operator.specs.Memory.{view}
use Rattle.sheet_operator.specs.declared.Operator.{Operator}
use Rattle.run_store.specs.declared.Item.{Item}
use Rattle.run_store.specs.Store.{part, first_of}
use Rattle.base_bounds.specs.Bounds.{QUEUES, FIELDS}
use Rattle.run_store.specs.Queues.{items_of}
use Rattle.run_store.proofs.QuietLaws.{quiet_fit}
use Rattle.run_effect.specs.declared.Effect.{Effect}
use Rattle.run_effect.specs.Effect.{Result, effect, waits, puts_of, result_of}
use Rattle.run_effect.proofs.EffectLaws.{effect_puts_below, effect_puts_apart}
use Rattle.run_machine.specs.declared.State.{State}
use Rattle.run_machine.specs.Machine.{Machine, Outcome, refuse, done, put_all, commit, fire_from, fire_op}
use Rattle.run_machine.specs.Numbers.{decode}
use Rattle.run_machine.specs.Calls.{Call, saved}
use Rattle.run_machine.specs.Answers.{Answers}
use Rattle.run_machine.specs.Working.{Raw, raw, take_raw, puts_raw, Room, CanFire, Lent, lent, state_in, LentAnswers, state_with, refusal_of, tried_on, Attempts}
use Rattle.run_machine.proofs.Good.{decoded_many}
use Rattle.run_machine.proofs.Bridge.{Holds, holds_of_quiet, full_holds, take_holds, head_of_count, empty_of_count}
use Rattle.run_machine.proofs.Putting.{below_all, full_of, room_to_put, puts_hold}

-- the items behind the first one
abbrev behind : State → List ℤ → ℕ → List Item
behind st s q = items_of (get_or st.counts q 0 - 1) (drop FIELDS (part s q))

-- what the operator does with the first item
abbrev does : Operator → ℕ → State → List ℤ → Result
does o q st s = effect (view o) (first_of (part s q)) st.vars

-- the machine after the firing
abbrev after : Operator → ℕ → State → List ℤ → Machine
after o q st s =
    record { queues = put_all (set (decode st s).queues q (behind st s q)) (does o q st s).puts (does o q st s).item; vars = (does o q st s).vars }

-- what taking and putting leave
abbrev left : Operator → ℕ → State → List ℤ → Raw
left o q st s = puts_raw (take_raw (raw st.counts s) q) (does o q st s).puts (does o q st s).item

-- ---- a refusal, by its reason

pub attempt_refused : (o : Operator) (q : ℕ) (st : State) (s : List ℤ) (reason : Reason) → fire_op (view o) (decode st s) q ≡ refuse (number_of reason) →
    Attempts o q st s (Err reason)
attempt_refused o q st s reason e =
    record {
      number = sym (ap refusal_of e);
      result = sym (ap (λ (y : Outcome). tried_on y (view o) (first_of (part s q)) st.vars) e);
    }

pub fire_empty : (o : Op) (q : ℕ) (st : State) (s : List ℤ) → get_or st.counts q 0 ≡ 0 → fire_op o (decode st s) q ≡ refuse 10
unfolding fire_from
fire_empty o q st s e = ap (fire_from o (decode st s) q) (empty_of_count st s q e)

module _ (o : Operator) (q : ℕ) (st : State) (s : List ℤ) (p : 0 < get_or st.counts q 0) where
  fire_turn : (b : Bool) → waits (view o) q st.vars ≡ b →
      fire_op (view o) (decode st s) q ≡ cond b (refuse 11) (commit (decode st s) q (behind st s q) (does o q st s))
  unfolding fire_from
  fire_turn b w =
      ap (fire_from (view o) (decode st s) q) (head_of_count st s q p)
      ∙ ap (λ (t : Bool). cond t (refuse 11) (commit (decode st s) q (behind st s q) (does o q st s))) w

  pub fire_waits : waits (view o) q st.vars ≡ true → fire_op (view o) (decode st s) q ≡ refuse 11
  fire_waits w = fire_turn true w

  module _ (w : waits (view o) q st.vars ≡ false) (n : length st.counts ≡ QUEUES) (f : CanFire o q st s) where
    fire_room : (b : Bool) → full_of st.counts (does o q st s).puts ≡ b → fire_op (view o) (decode st s) q ≡ cond b (refuse 12) (done (after o q st s))
    unfolding commit
    fire_room b h =
        let e = full_holds st.counts s (decode st s).queues (holds_of_quiet st.counts s n f.size f.quiet) (does o q st s).puts in
        fire_turn false w ∙ ap (λ (t : Bool). cond t (refuse 12) (done (after o q st s))) (sym e ∙ h)

    module _ (e : Effect) (g : result_of e ≡ does o q st s) where
      full_same : full_of st.counts (puts_of e.puts) ≡ full_of st.counts (does o q st s).puts
      full_same = ap (λ (r : Result). full_of st.counts r.puts) g

      pub fire_full : full_of st.counts (puts_of e.puts) ≡ true → fire_op (view o) (decode st s) q ≡ refuse 12
      fire_full h = fire_room true (sym full_same ∙ h)

      pub attempt_done : full_of st.counts (puts_of e.puts) ≡ false → Attempts o q st s (Ok e)
      attempt_done h =
          let d = fire_room false (sym full_same ∙ h) in
          record { number = sym (ap refusal_of d); result = g ∙ sym (ap (λ (y : Outcome). tried_on y (view o) (first_of (part s q)) st.vars) d) }

-- ---- no refusal: an item is there, the operator need not wait, and there is room

pub record Clear (o : Operator) (q : ℕ) (st : State) (s : List ℤ) : Type 0 where
  pub some : 0 < get_or st.counts q 0
  pub turn : waits (view o) q st.vars ≡ false
  pub room : full_of st.counts (does o q st s).puts ≡ false

not_zero : (r : Outcome) (k : ℕ) → refusal_of r ≡ 0 → r ≡ refuse (suc k) → ⊥
not_zero r k z e = let y : suc k ≡ 0 = sym (ap refusal_of e) ∙ z in omega arith

module _ (o : Operator) (q : ℕ) (st : State) (s : List ℤ) (n : length st.counts ≡ QUEUES) (f : CanFire o q st s) (e : Effect)
    (a : Attempts o q st s (Ok e)) where
  none : (k : ℕ) → fire_op (view o) (decode st s) q ≡ refuse (suc k) → ⊥
  none k = not_zero (fire_op (view o) (decode st s) q) k (sym a.number)

  pub clear : Clear o q st s
  clear =
      let p : 0 < get_or st.counts q 0 =
      ⊎_elim (λ (l : 0 < get_or st.counts q 0). l)
      (λ (l : get_or st.counts q 0 ≤ 0). absurd (none 9 (fire_empty (view o) q st s (omega arith))))
      (order 0 (get_or st.counts q 0)) in
      let w = false_of (waits (view o) q st.vars) (λ h. none 10 (fire_waits o q st s p h)) in
      record {
        some = p;
        turn = w;
        room = false_of (full_of st.counts (does o q st s).puts) (λ h. none 11 (fire_room o q st s p w n f true h));
      }

  fires : fire_op (view o) (decode st s) q ≡ done (after o q st s)
  fires = fire_room o q st s clear.some clear.turn n f false clear.room

  acted : result_of e ≡ does o q st s
  acted = a.result ∙ ap (λ (y : Outcome). tried_on y (view o) (first_of (part s q)) st.vars) fires

  below : below_all (does o q st s).puts ≡ true
  below = effect_puts_below (view o) (first_of (part s q)) st.vars QUEUES f.cursor f.below

  -- ---- room after the item is taken, and what is left after it is put

  taking : Room (set st.counts q (get_or st.counts q 0 - 1)) (does o q st s).puts
  taking = room_to_put st.counts q (does o q st s).puts below (effect_puts_apart (view o) (first_of (part s q)) st.vars f.apart) clear.room

  pub room_left : (cs : List ℕ) (u : List ℤ) → raw cs u ≡ take_raw (raw st.counts s) q → Room cs (puts_of e.puts)
  room_left cs u k =
      subst (λ (l : List ℕ). Room l (puts_of e.puts)) (sym (ap (λ (w : Raw). w.counts) k))
      (subst (λ (x : Result). Room (set st.counts q (get_or st.counts q 0 - 1)) x.puts) (sym acted) taking)

  left_holds : Holds (left o q st s).counts (left o q st s).store (after o q st s).queues
  left_holds =
      let h = holds_of_quiet st.counts s n f.size f.quiet in
      let qs = (decode st s).queues in
      let many : length qs ≡ QUEUES = decoded_many st s ∙ n in
      let k = head_of_count st s q clear.some in
      let t = take_holds st.counts s qs h q (first_of (part s q)) (behind st s q) k many (quiet_fit s 0 st.counts f.quiet) f.queue in
      puts_hold _ _ (set qs q (behind st s q)) (does o q st s).puts (does o q st s).item t (length-set qs q (behind st s q) ∙ many) taking

  pub fired : (mid : Raw) (cs : List ℕ) (u : List ℤ) → mid ≡ take_raw (raw st.counts s) q → raw cs u ≡ puts_raw mid (puts_of e.puts) e.item →
      LentAnswers (λ m. fire_op (view o) m q) (lent st.counts st.vars s) (Ok tt) (lent cs e.vars u)
  fired mid cs u m k =
      let same : raw cs u ≡ left o q st s =
      k ∙ ap (λ (w : Raw). puts_raw w (puts_of e.puts) e.item) m
      ∙ ap (λ (x : Result). puts_raw (take_raw (raw st.counts s) q) x.puts x.item) acted in
      let h : Holds cs u (after o q st s).queues = subst (λ (w : Raw). Holds w.counts w.store (after o q st s).queues) (sym same) left_holds in
      let d = sym (ap (saved st s) fires) in
      record {
        answered = ap (λ (c : Call). c.answer) d;
        stated = ap₂ (λ (l : List ℕ) (vs : List ℤ). state_with l vs) h.counts (ap (λ (x : Result). x.vars) acted) ∙ ap (λ (c : Call). c.state) d;
        stored = h.store ∙ ap (λ (c : Call). c.store) d;
      }

-- ---- a refusal answers its reason and leaves all as it was

pub refused_answers : (st : State) (s : List ℤ) (x : Outcome) (reason : Reason) → x ≡ refuse (number_of reason) →
    Answers (saved st s x) st (Err (refusal reason None)) s
refused_answers st s x reason e =
    subst (λ (y : Outcome). Answers (saved st s y) st (Err (refusal reason None)) s) (sym e) (record { answered = refl; stated = refl; stored = refl })

pub refused_lent : (f : Machine → Outcome) (l : Lent) (reason : Reason) → f (decode (state_in l) l.store) ≡ refuse (number_of reason) →
    LentAnswers f l (Err (refusal reason None)) l
refused_lent f l reason e =
    let a = refused_answers (state_in l) l.store _ reason e in
    record { answered = a.answered; stated = a.stated; stored = a.stored }
