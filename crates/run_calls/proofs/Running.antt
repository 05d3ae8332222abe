-- The loop that runs a list of queues: what holds at its head, one turn, and its end.
-- Assumes nothing.
use mathlib.Core.Path.{◌≡◌, refl, sym, ap, ◌∙◌}
use mathlib.Core.List.{List}
use Prim.Native.Nat.{ℕ, ◌+◌, ◌-◌, ◌≤◌, ◌<◌}
use native.Mathlib.Omega.{arith}
use lib.ListN.{length, get_or, drop, length-map}
use lib.IntN.{ℤ}
use Rattle.base_lists.specs.Lists.{bit}
use Rattle.base_lists.proofs.Bits.{bit_le}
use Rattle.sheet_operator.specs.declared.Operator.{Operator}
use Rattle.base_bounds.specs.Bounds.{VARIABLES, QUEUES}
use Rattle.std.specs.Prelude.{Option, Result, Ok}
use Rattle.base_refusal.specs.declared.Refusal.{Refusal}
use Rattle.sheet.specs.declared.Sheet.{Sheet}
use Rattle.sheet.specs.Answer.{Paper, accepted, refused, is_accepted, paper}
use Rattle.sheet.specs.Sheet.{view_sheet}
use Rattle.run_machine.specs.declared.State.{State}
use Rattle.run_machine.specs.Machine.{Machine, Outcome, refuse, done, fire_m, Ran, ran_on, run_from, run_m}
use Rattle.run_machine.specs.Numbers.{decode, state_of, store_in, GoodM}
use Rattle.run_machine.specs.Calls.{saved, run_known}
use Rattle.run_machine.specs.Answers.{RunAnswers}
use Rattle.run_machine.specs.Working.{Stands, fire_reader, lent, state_with, LentAnswers}
use Rattle.run_machine.proofs.Good.{decode_of_encode, encode_of_decode, good_of_machine, machine_of_good}
use Rattle.run_machine.proofs.Keeps.{fire_keeps}
use Rattle.run_machine.proofs.RunLaws.{run_next, run_end}
use Rattle.run_machine.proofs.Sound.{sound_of_accepted}

abbrev pub ran_with : ℕ → ℕ → Machine → Ran
ran_with fired skipped m = record { fired = fired; skipped = skipped; machine = m }

-- k entries of the list are run: what is left to run gives the whole run, and each entry fired or was skipped
pub record Running (t : Sheet) (st₀ : State) (s₀ : List ℤ) (l : List ℕ) (st : State) (s : List ℤ) (fired skipped k : ℕ) : Type 0 where
  pub stands : Stands t st s
  pub counts : length st.counts ≡ QUEUES
  pub vars : length st.vars ≡ VARIABLES
  pub left : run_from (view_sheet t) (drop k l) (ran_with fired skipped (decode st s)) ≡ run_m (view_sheet t) l (decode st₀ s₀)
  pub total : fired + skipped ≡ k
  pub within : k ≤ length l

module _ (t : Sheet) (st₀ : State) (s₀ : List ℤ) (l : List ℕ) where
  pub running_start : Stands t st₀ s₀ → length st₀.counts ≡ QUEUES → length st₀.vars ≡ VARIABLES → Running t st₀ s₀ l st₀ s₀ 0 0 0
  running_start h c v = record { stands = h; counts = c; vars = v; left = refl; total = omega arith; within = omega arith }

  module _ (st : State) (s : List ℤ) (fired skipped k : ℕ) (r : Running t st₀ s₀ l st s fired skipped k) where
    good_now : GoodM (view_sheet t) (decode st s)
    good_now = machine_of_good (view_sheet t) st s r.stands.numbers r.counts r.vars

    -- numbers after a turn: good ones, of the machine that the outcome leaves
    record After (o : Outcome) (st' : State) (s' : List ℤ) (n : ℕ) : Type 0 where
      pub stands : Stands t st' s'
      pub counts : length st'.counts ≡ QUEUES
      pub vars : length st'.vars ≡ VARIABLES
      pub ran : ran_with (fired + n) (skipped + (1 - n)) (decode st' s') ≡ ran_on o (ran_with fired skipped (decode st s))

    after_refused : (j : ℕ) (p : Paper) (st' : State) (s' : List ℤ) (n : ℕ) → p ≡ refused j → st' ≡ st → s' ≡ s →
        n ≡ bit (is_accepted p) → After (refuse j) st' s' n
    after_refused j p st' s' n a e f b =
        let z : n ≡ 0 = b ∙ ap (λ (x : Paper). bit (is_accepted x)) a in
        let c : fired + n ≡ fired = omega arith in
        let d : skipped + (1 - n) ≡ skipped + 1 = omega arith in
        record {
          stands = rw (e, f) r.stands;
          counts = rw e r.counts;
          vars = rw e r.vars;
          ran = cc;
        }

    after_done : (q : ℕ) (m : Machine) (p : Paper) (st' : State) (s' : List ℤ) (n : ℕ) → fire_m (view_sheet t) (decode st s) q ≡ done m →
        p ≡ accepted → st' ≡ state_of m → s' ≡ store_in m → n ≡ bit (is_accepted p) → After (done m) st' s' n
    after_done q m p st' s' n h a e f b =
        let g : GoodM (view_sheet t) m = fire_keeps (view_sheet t) (sound_of_accepted t r.stands.sheet) (decode st s) good_now q m h in
        let z : n ≡ 1 = b ∙ ap (λ (x : Paper). bit (is_accepted x)) a in
        let c : fired + n ≡ fired + 1 = omega arith in
        let d : skipped + (1 - n) ≡ skipped = omega arith in
        let back : decode st' s' ≡ m = rw (e, f) (decode_of_encode (view_sheet t) m g) in
        record {
          stands = record { sheet = r.stands.sheet; numbers = rw (e, f) (good_of_machine (view_sheet t) m g) };
          counts = ap (λ (x : State). length x.counts) e ∙ length-map m.queues length ∙ g.many;
          vars = ap (λ (x : State). length x.vars) e ∙ g.size;
          ran = cc;
        }

    after_turn : (q : ℕ) (o : Outcome) (p : Paper) (st' : State) (s' : List ℤ) (n : ℕ) → fire_m (view_sheet t) (decode st s) q ≡ o →
        p ≡ (saved st s o).answer → st' ≡ (saved st s o).state → s' ≡ (saved st s o).store → n ≡ bit (is_accepted p) → After o st' s' n
    after_turn q (refuse j) p st' s' n h a e f b = after_refused j p st' s' n a e f b
    after_turn q (done m) p st' s' n h a e f b = after_done q m p st' s' n h a e f b

    -- one turn: the entry's reader, as the code finds it, fires or is skipped
    pub running_turn : (reader : Option Operator) → fire_reader reader (decode st s) (get_or l k 0) ≡ fire_m (view_sheet t) (decode st s) (get_or l k 0) →
        (x : Result (Unit {0}) Refusal) (cs : List ℕ) (vs s' : List ℤ) (n : ℕ) → k < length l →
        LentAnswers (λ (m : Machine). fire_reader reader m (get_or l k 0))
        (lent st.counts st.vars s) x (lent cs vs s') →
        n ≡ bit (is_accepted (paper x)) → Running t st₀ s₀ l (state_with cs vs) s' (fired + n) (skipped + (1 - n)) (k + 1)
    running_turn reader g x cs vs s' n b a c =
        let f = after_turn (get_or l k 0) _ (paper x) (state_with cs vs) s' n (sym g) a.answered a.stated a.stored c in
        record {
          stands = f.stands;
          counts = f.counts;
          vars = f.vars;
          left = ap (λ (y : Ran). run_from (view_sheet t) (drop (k + 1) l) y)
              (f.ran ∙ ap (λ (o : Outcome). ran_on o (ran_with fired skipped (decode st s))) g)
              ∙ sym (run_next (view_sheet t) l k (ran_with fired skipped (decode st s)) b)
              ∙ r.left;
          total = omega (arith, r.total, bit_le (is_accepted (paper x)));
          within = omega arith;
        }

    -- at the end the numbers are those of the whole run
    pub running_end : length l ≤ k → RunAnswers (run_known t st₀ s₀ l) st₀ (Ok (record { fired = fired; skipped = skipped; state = st })) s
    running_end b =
        let e : ran_with fired skipped (decode st s) ≡ run_m (view_sheet t) l (decode st₀ s₀) =
        sym (run_end (view_sheet t) l k (ran_with fired skipped (decode st s)) b) ∙ r.left in
        let f = encode_of_decode (view_sheet t) st s r.stands.numbers r.counts in
        record {
          answered = refl;
          firings = ap (λ (x : Ran). x.fired) e;
          skips = ap (λ (x : Ran). x.skipped) e;
          stated = sym f.0 ∙ ap (λ (x : Ran). state_of x.machine) e;
          stored = sym f.1 ∙ ap (λ (x : Ran). store_in x.machine) e;
        }
