-- `run_calls::feed_known` meets its contract: 9 where the queue is no input, 12 where it is full, else one item more behind the others.
-- Assumes nothing.
use mathlib.Core.Path.{◌≡◌, refl, sym, ap, ◌∙◌, subst}
use mathlib.Core.Bool.{true, false}
use mathlib.Core.List.{List, [], ◌∷◌, ◌++◌}
use Prim.Native.Nat.{ℕ, ◌<◌, ◌≤◌}
use native.Mathlib.Omega.{arith}
use lib.Dec.{leb}
use lib.ListN.{length, get_or, set}
use lib.IntN.{ℤ}
use borrow.Author.Rules.{rules}
use borrow.Author.Tests.{lt-ltb, le-ltb, leb-false}
use Rattle.sheet.specs.declared.Sheet.{Sheet}
use Rattle.sheet.specs.Sheet.{view_sheet}
use Rattle.run_store.specs.declared.Item.{Item}
use Rattle.base_bounds.specs.Bounds.{QUEUES, ROOM}
use Rattle.run_machine.specs.declared.State.{State}
use Rattle.std.specs.Prelude.{Ok}
use Rattle.base_refusal.specs.declared.Reason.TheVariants.{WrongQueue, FullQueue}
use Rattle.run_machine.specs.Machine.{Outcome, refuse, done, feed_m}
use Rattle.run_machine.specs.Numbers.{decode}
use Rattle.run_machine.specs.Calls.{saved, feed_known}
use Rattle.run_machine.specs.Answers.{Answers}
use Rattle.run_machine.specs.Working.{Raw, raw, put_raw, Stands}
use Rattle.run_machine.proofs.Good.{tested_of_good, decoded_count, decoded_many}
use Rattle.run_machine.proofs.Bridge.{holds_of_good, push_holds}
use Rattle.run_machine.proofs.Sound.{sound_of_accepted}
use Rattle.run_machine.proofs.Trying.{refused_answers}
use Rattle.run_calls.proofs.feed_known.Goals as goal
use Rattle.run_calls.proofs.feed_known.Goals.{Start}

module _ (t : Sheet) (st : State) (s : List ℤ) (q : ℕ) (x : Item) where
  not_input : t.inputs ≤ q → feed_m (view_sheet t) (decode st s) q x ≡ refuse 9
  unfolding feed_m
  not_input l = rw (le-ltb q t.inputs l)

  module _ (i : q < t.inputs) where
    full_input : leb ROOM (get_or st.counts q 0) ≡ true → feed_m (view_sheet t) (decode st s) q x ≡ refuse 12
    unfolding feed_m
    full_input f = rw (lt-ltb q t.inputs i, decoded_count st s q, f)

    input_fed : leb ROOM (get_or st.counts q 0) ≡ false → feed_m (view_sheet t) (decode st s) q x
        ≡ done (record { queues = set (decode st s).queues q (get_or (decode st s).queues q [] ++ (x ∷ [])); vars = st.vars })
    unfolding feed_m
    input_fed f = rw (lt-ltb q t.inputs i, decoded_count st s q, f)

    module _ (h : Stands t st s) where
      input_below : q < QUEUES
      input_below = let n = sound_of_accepted t h.sheet in omega (arith, n.inputs, n.queues)

      -- what the put leaves are the counts and the store of the machine after the feed
      fed_answers : (cs : List ℕ) (v : List ℤ) → length st.counts ≡ QUEUES → leb ROOM (get_or st.counts q 0) ≡ false →
          raw cs v ≡ put_raw (raw st.counts s) q x →
          Answers (feed_known t st s q x) st (Ok (record { counts = cs; vars = st.vars })) v
      fed_answers cs v n f e =
          let held = holds_of_good (view_sheet t) st s h.numbers n in
          let p = push_holds st.counts s (decode st s).queues held q x (decoded_many st s ∙ n) input_below (leb-false ROOM (get_or st.counts q 0) f) in
          subst (λ (o : Outcome). Answers (saved st s o) st (Ok (record { counts = cs; vars = st.vars })) v) (sym (input_fed f))
          (record {
            answered = refl;
            stated = ap (λ (c : List ℕ). record { counts = c; vars = st.vars }) (ap (λ (w : Raw). w.counts) e ∙ p.counts);
            stored = ap (λ (w : Raw). w.store) e ∙ p.store;
          })

module _ (d : Start) where
  many : length d.args.state.counts ≡ QUEUES
  many = search rules

pub returns-then-t-q : goal.returns-then-t-q
returns-then-t-q c =
    let a = c.args in
    rw c.into.ensures (refused_answers a.state a.store.now _ WrongQueue (not_input a.t a.state a.store.now a.q a.x c.if-t-q.true))

pub is_full-requires : goal.is_full-requires
is_full-requires c =
    let a = c.args in
    input_below a.t a.state a.store.now a.q a.x c.if-t-q.false c.requires

pub returns-then-is_full : goal.returns-then-is_full
returns-then-is_full c =
    let a = c.args in
    rw c.into-then-is_full.ensures (refused_answers a.state a.store.now _ FullQueue
    (full_input a.t a.state a.store.now a.q a.x c.if-t-q.false (sym c.is_full.ensures ∙ c.if-is_full.true)))

pub put-requires : goal.put-requires
put-requires c =
    let a = c.args in (
      (tested_of_good (view_sheet a.t) a.state a.store.now c.requires.numbers).size,
      input_below a.t a.state a.store.now a.q a.x c.if-t-q.false c.requires,
      leb-false ROOM _ (sym c.is_full.ensures ∙ c.if-is_full.false),
    )

pub returns : goal.returns
returns c =
    let a = c.args in
    fed_answers a.t a.state a.store.now a.q a.x c.if-t-q.false c.requires c.put.new.counts _ (many (goal.at.returns c).Start)
    (sym c.is_full.ensures ∙ c.if-is_full.false) c.put.ensures
