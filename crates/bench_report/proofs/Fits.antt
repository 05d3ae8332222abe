-- The text of every input of bytes fits into TEXT bytes: 24 queues of at most 64 items, 16 variables and the line of the counts.
-- Assumes nothing.
use mathlib.Core.Path.{◌≡◌, ap, sym, subst}
use mathlib.Core.Logic.{⊎_elim}
use mathlib.Core.Bool.{Bool, true, false, cond}
use mathlib.Core.List.{List, [], ◌∷◌, ◌++◌}
use Prim.Native.Nat.{ℕ, zero, suc, ◌+◌, ◌*◌, ◌^◌, ◌≤◌, ◌<◌}
use native.Mathlib.Omega.{arith}
use lib.Dec.{lit<}
use lib.ListN.{length, get_or, take, length-append}
use lib.Seq.{length-take-le}
use lib.IntN.{ℤ, pos}
use lib.Signed.{mag}
use Rattle.base_lists.specs.Lists.{build, chain}
use Rattle.sheet_operator.specs.Op.{Abstract}
use Rattle.base_bounds.specs.Bounds.{VARIABLES, QUEUES, ROOM, INPUT_BYTES}
use Rattle.bench_lines.specs.Lines.{item_line, queue_lines, variable_lines, counts_line, LINE}
use Rattle.bench_lines.proofs.Lengths.{item_short, variables_short, refusal_short, counts_short}
use Rattle.run_store.specs.Queues.{Wide}
use Rattle.run_store.specs.declared.Item.{Item}
use Rattle.run_store.proofs.StoreLaws.{wide_at}
use Rattle.run_machine.specs.Machine.{Machine, is_output}
use Rattle.run_machine.specs.Numbers.{GoodM}
use Rattle.run_machine.proofs.Sound.{Sound}
use Rattle.bench_trial.specs.Trial.{Trial, refusal, trial_of, at_rest, outputs_at, outputs_of, variables_in}
use Rattle.bench_trial.proofs.Narrow.{NarrowM, NarrowQueue}
use Rattle.bench_trial.proofs.Within.{AFTER, Ended, Refused, trial_within}
use Rattle.bench_report.specs.Print.{item_lines, printed, text_of}
use Rattle.bench_report.specs.Reports.{TEXT}
use Rattle.bench_report.proofs.Outputs.{chain_chain, lines_by}

-- the lines of a queue
queue_short : (q : ℕ) (xs : List Item) → q < 100000 → Wide xs → NarrowQueue xs → length (queue_lines q xs) ≤ LINE * length xs
queue_short q [] l w h = omega arith
queue_short q (x ∷ xs) l w h =
    omega (
      arith,
      length-append (item_line q x.f) (queue_lines q xs),
      item_short q x.f l w.0 (h 0),
      queue_short q xs l w.1
          (λ k. h (suc k)),
    )

-- the first n of narrow numbers
taken_at : (n : ℕ) (l : List ℤ) → ((k : ℕ) → mag (get_or l k (pos 0)) < 2 ^ 31) → (k : ℕ) → mag (get_or (take n l) k (pos 0)) < 2 ^ 31
taken_at zero l h k = lit< tt
taken_at (suc n) [] h k = h k
taken_at (suc n) (z ∷ l) h zero = h 0
taken_at (suc n) (z ∷ l) h (suc k) = taken_at n l (λ j. h (suc j)) k

-- pieces of at most n bytes each
chain_short : (f : ℕ → List ℕ) (n i : ℕ) (g : ℕ → ℕ) → ((k : ℕ) → k < i → length (f (g k)) ≤ n) → length (chain f (build i g)) ≤ n * i
chain_short f n zero g h = omega arith
chain_short f n (suc i) g h =
    let r = chain_short f n i (λ (k : ℕ). g (suc k)) (λ k l. h (suc k) (omega arith)) in
    let a = h 0 (omega arith) in
    let m : n * suc i ≡ n + n * i = omega arith in
    subst (λ (j : ℕ). length (chain f (build (suc i) g)) ≤ j) (sym m)
    (omega (arith, length-append (f (g 0)) (chain f (build i (λ (k : ℕ). g (suc k))))))

module _ (a : Abstract) (m : Machine) (sound : Sound a) (good : GoodM a m) (narrow : NarrowM m) where
  fit_at : (q : ℕ) → q < QUEUES → length (get_or m.queues q []) ≤ ROOM
  fit_at q l = good.fit q (omega (arith, good.many))

  if_short : (b : Bool) (q : ℕ) → q < QUEUES → length (cond b (queue_lines q (get_or m.queues q [])) []) ≤ LINE * ROOM
  if_short true q l =
      omega (arith, fit_at q l, queue_short q (get_or m.queues q []) (omega arith) (wide_at m.queues q good.wide) (narrow.queues q))
  if_short false q l = omega arith

  output_short : (q : ℕ) → q < QUEUES → length (item_lines (outputs_at a m q)) ≤ LINE * ROOM
  unfolding outputs_at
  output_short q l =
      subst (λ (u : List ℕ). length u ≤ LINE * ROOM) (sym (lines_by (is_output a q) q (get_or m.queues q []))) (if_short (is_output a q) q l)

  outputs_short : length (item_lines (outputs_of a m)) ≤ LINE * ROOM * QUEUES
  outputs_short =
      let e = chain_chain (λ (x : ℕ × Item). item_line x.0 x.1.f) (outputs_at a m) (build a.queues (λ (q : ℕ). q)) in
      let r = chain_short (λ (q : ℕ). item_lines (outputs_at a m q)) (LINE * ROOM) a.queues (λ (q : ℕ). q)
      (λ k l. output_short k (omega (arith, sound.queues))) in
      omega (arith, ap length e, r, sound.queues)

  taken_narrow : (k : ℕ) → mag (get_or (variables_in a m) k (pos 0)) < 2 ^ 31
  taken_narrow k = taken_at a.variables m.vars narrow.vars k

  vars_short : length (variable_lines 0 (variables_in a m)) ≤ LINE * VARIABLES
  vars_short =
      let n : length (variables_in a m) ≡ a.variables = length-take-le a.variables m.vars
      (omega (arith, good.size, sound.variables)) in
      omega (arith, variables_short 0 (variables_in a m) (omega (arith, sound.variables)) taken_narrow, sound.variables)

-- ---- the whole text

ended_fits : (f : Trial) → Ended f → length (printed f) ≤ TEXT
unfolding printed
ended_fits f h =
    let r = h.ran in
    let a = h.sheet in
    let rest = at_rest a r.machine in
    let items = item_lines (outputs_of a r.machine) in
    let vars = variable_lines 0 (variables_in a r.machine) in
    let o = outputs_short a r.machine h.sound h.good h.narrow in
    let v = vars_short a r.machine h.sound h.good h.narrow in
    let few = h.few in
    let c = counts_short r.fired r.skipped rest (omega arith) (omega arith) in
    subst (λ (g : Trial). length (printed g) ≤ TEXT) (sym h.same)
    (omega (arith, length-append (counts_line r.fired r.skipped rest) (items ++ vars), length-append items vars))

-- a refusal of any small number and record
refusal_fits : (f : Trial) (number spot : ℕ) → number ≤ 18 → spot ≤ INPUT_BYTES + INPUT_BYTES + AFTER → f ≡ refusal number spot →
    length (printed f) ≤ TEXT
unfolding printed
refusal_fits f number spot small early same =
    subst (λ (g : Trial). length (printed g) ≤ TEXT) (sym same) (omega (arith, refusal_short number spot (omega arith) (omega arith)))

pub text_fits : (s : List ℕ) → ((k : ℕ) → get_or s k 0 < 256) → length (text_of s) ≤ TEXT
text_fits s below =
    ⊎_elim (ended_fits (trial_of s))
    (λ (h : Refused (trial_of s)). refusal_fits (trial_of s) h.number h.spot h.small h.early h.same)
    (trial_within s below)
