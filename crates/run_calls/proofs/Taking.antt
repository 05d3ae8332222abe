-- A take: an output by the readers' table, and what each answer of a take says, as numbers, of the queues.
-- Assumes nothing.
use mathlib.Core.Path.{◌≡◌, refl, sym, ap, ◌∙◌}
use mathlib.Core.Bool.{Bool, true, false, not, ◌&&◌}
use mathlib.Core.List.{List, [], ◌∷◌}
use mathlib.Core.Logic.{⊎_elim}
use Prim.Native.Nat.{ℕ, ◌-◌, ◌≤◌, ◌<◌}
use native.Mathlib.Omega.{arith}
use lib.Dec.{eqb, ltb}
use lib.ListN.{length, get_or, drop}
use lib.IntN.{ℤ}
use borrow.Author.Tests.{lt-ltb, le-ltb, eq-eqb, ne_eqb, ltb-true}
use Rattle.base_lists.proofs.Build.{order}
use Rattle.base_lists.proofs.Tests.{both}
use Rattle.sheet_operator.specs.Op.{double, Abstract}
use Rattle.base_bounds.specs.Bounds.{OPERATORS, VARIABLES, FIELDS, QUEUES}
use Rattle.std.specs.Prelude.{Ok, Err, None}
use Rattle.base_refusal.specs.declared.Reason.{Reason}
use Rattle.base_refusal.specs.declared.Reason.TheVariants.{WrongQueue, EmptyQueue}
use Rattle.base_refusal.specs.Refusal.{number_of, refusal}
use Rattle.sheet.specs.declared.Sheet.{Sheet}
use Rattle.sheet.specs.Answer.{accepted}
use Rattle.sheet.specs.Sheet.{view_sheet}
use Rattle.sheet.specs.Check.{check_of}
use Rattle.sheet.proofs.Accepted.{ranges_of_accepted}
use Rattle.sheet.proofs.Placed.{ops_many}
use Rattle.run_store.specs.Store.{part, first_of}
use Rattle.run_store.specs.Queues.{items_of}
use Rattle.run_store.specs.declared.Item.{Item}
use Rattle.run_machine.specs.declared.State.{State}
use Rattle.run_machine.specs.Machine.{Machine, is_output, Take, none, take_from, take_m}
use Rattle.run_machine.specs.Numbers.{decode}
use Rattle.run_machine.specs.Calls.{TakeCall, saved_take, take_known}
use Rattle.run_machine.specs.Answers.{TakeAnswers}
use Rattle.run_machine.specs.Readers.{reader_from, readers_of}
use Rattle.run_machine.specs.Working.{Raw, raw, take_raw, Stands}
use Rattle.run_machine.proofs.Bridge.{holds_of_good, take_holds, head_of_count, empty_of_count}
use Rattle.run_machine.proofs.Found.{reads_in_table}
use Rattle.run_machine.proofs.Good.{machine_of_good}
use Rattle.run_machine.proofs.ReaderLaws.{reader_any, reader_below, output_by_reader}
use Rattle.run_machine.proofs.Sound.{sound_of_accepted}

-- ---- an output, by the readers' table

none_past : (i : ℕ) → i ≤ OPERATORS → eqb i OPERATORS ≡ not (ltb i OPERATORS)
none_past i h =
    ⊎_elim (λ (l : i < OPERATORS). ne_eqb i OPERATORS (λ e. omega arith) ∙ sym (ap not (lt-ltb i OPERATORS l)))
    (λ (l : OPERATORS ≤ i). eq-eqb i OPERATORS (omega arith) ∙ sym (ap not (le-ltb i OPERATORS l)))
    (order i OPERATORS)

-- a queue from Q on is none
pub output_past : (a : Abstract) (q : ℕ) → a.queues ≤ q → false ≡ is_output a q
output_past a q h = sym (rw (le-ltb q a.queues h))

-- and one below Q is one exactly if the table has no reader of it
pub output_by_table : (t : Sheet) → check_of t ≡ accepted → (q i : ℕ) (rs : List ℕ) → rs ≡ readers_of (view_sheet t).ops → i ≡ get_or rs q OPERATORS →
    q < t.queues → eqb i OPERATORS ≡ is_output (view_sheet t) q
output_by_table t h q i rs e d l =
    let a = view_sheet t in
    let n : length a.ops ≤ OPERATORS = omega (arith, ops_many t, ranges_of_accepted t h) in
    let r : i ≡ reader_from a.ops 0 q =
    d ∙ ap (λ (u : List ℕ). get_or u q OPERATORS) e ∙ reader_any a.ops (double 0 0 0) (reads_in_table t h (double 0 0 0)) q in
    none_past i (omega (arith, reader_below a.ops 0 q (omega arith)))
    ∙ ap (λ (k : ℕ). not (ltb k OPERATORS)) r
    ∙ sym (output_by_reader a q n ∙ ap (λ (b : Bool). b && not (ltb (reader_from a.ops 0 q) OPERATORS)) (lt-ltb q t.queues l))

-- ---- the answers of a take

-- an output is a queue of the sheet
output_below : (a : Abstract) (q : ℕ) → is_output a q ≡ true → q < a.queues
output_below a q h = ltb-true q a.queues (both (ltb q a.queues) _ h).0

pub output_queue : (t : Sheet) → check_of t ≡ accepted → (q : ℕ) (b : Bool) → b ≡ is_output (view_sheet t) q → b ≡ true → q < QUEUES
output_queue t h q b e f = omega (arith, output_below (view_sheet t) q (sym e ∙ f), (sound_of_accepted t h).queues)

take_no_output : (a : Abstract) (m : Machine) (q : ℕ) → is_output a q ≡ false → take_m a m q ≡ none 9
unfolding take_m
take_no_output a m q h = rw h

take_from_lem : (a : Abstract) (m : Machine) (q : ℕ) (xs : List Item) → is_output a q ≡ true → get_or m.queues q [] ≡ xs → take_m a m q ≡ take_from m q xs
unfolding take_m
take_from_lem a m q xs h e = rw h (ap (take_from m q) e)

-- a refused take answers its reason and leaves all as it was
refused_take : (st : State) (s : List ℤ) (k : Take) (reason : Reason) → k ≡ none (number_of reason) →
    TakeAnswers (saved_take st s k) st (Err (refusal reason None)) s
refused_take st s k reason e = rw e (record { answered = refl; taken = refl; stated = refl; stored = refl })

module _ (t : Sheet) (st : State) (s : List ℤ) (q : ℕ) where
  pub takes_no_output : (b : Bool) → b ≡ is_output (view_sheet t) q → b ≡ false → TakeAnswers (take_known t st s q) st (Err (refusal WrongQueue None)) s
  takes_no_output b e f = refused_take st s _ WrongQueue (take_no_output (view_sheet t) (decode st s) q (sym e ∙ f))

  pub takes_empty : (b : Bool) → b ≡ is_output (view_sheet t) q → b ≡ true → get_or st.counts q 0 ≡ 0 →
      TakeAnswers (take_known t st s q) st (Err (refusal EmptyQueue None)) s
  takes_empty b e f z = refused_take st s _ EmptyQueue (take_from_lem (view_sheet t) (decode st s) q [] (sym e ∙ f) (empty_of_count st s q z))

  pub takes_first : Stands t st s → length st.counts ≡ QUEUES → length st.vars ≡ VARIABLES → (b : Bool) → b ≡ is_output (view_sheet t) q → b ≡ true →
      0 < get_or st.counts q 0 → (x : Item) (cs : List ℕ) (s' : List ℤ) → x ≡ first_of (part s q) → raw cs s' ≡ take_raw (raw st.counts s) q →
      TakeAnswers (take_known t st s q) st (Ok (record { item = x; state = record { counts = cs; vars = st.vars } })) s'
  takes_first h n v b e f p x cs s' d r =
      let a = view_sheet t in
      let m = decode st s in
      let g = machine_of_good a st s h.numbers n v in
      let l : q < QUEUES = output_queue t h.sheet q b e f in
      let xs : List Item = items_of (get_or st.counts q 0 - 1) (drop FIELDS (part s q)) in
      let c = head_of_count st s q p in
      let k = take_holds st.counts s m.queues (holds_of_good a st s h.numbers n) q (first_of (part s q)) xs c g.many g.fit l in
      let w = ap (saved_take st s) (take_from_lem a m q (first_of (part s q) ∷ xs) (sym e ∙ f) c) in
      record {
        answered = sym (ap (λ (y : TakeCall). y.call.answer) w);
        taken = d ∙ sym (ap (λ (y : TakeCall). y.item) w);
        stated = ap (λ (y : Raw). record { counts = y.counts; vars = st.vars }) r
            ∙ ap (λ (u : List ℕ). record { counts = u; vars = st.vars }) k.counts
            ∙ sym (ap (λ (y : TakeCall). y.call.state) w);
        stored = ap (λ (y : Raw). y.store) r ∙ k.store ∙ sym (ap (λ (y : TakeCall). y.call.store) w);
      }
