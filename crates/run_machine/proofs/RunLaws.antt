-- Laws of a run: over `++`, its last entry, its counts, what a refused entry leaves, and one turn of the loop that runs a list.
-- Assumes nothing.
use mathlib.Core.Path.{◌≡◌, refl, ap, ◌∙◌}
use mathlib.Core.Bool.{not}
use mathlib.Core.List.{List, [], ◌∷◌, ◌++◌}
use Prim.Native.Nat.{ℕ, ◌+◌, ◌<◌, ◌≤◌}
use native.Mathlib.Numerals.{add-one}
use native.Mathlib.Omega.{arith}
use lib.ListN.{length, get_or, drop, drop_of_length-le}
use lib.Seq.{drop-cons}
use Rattle.base_lists.specs.Lists.{bit}
use Rattle.sheet_operator.specs.Op.{Abstract}
use Rattle.run_machine.specs.Machine.{Machine, Outcome, refuse, done, fire_m, Ran, ran_on, run_from, run_m}
use Rattle.run_machine.specs.Ready.{accepts}

-- one entry: what it adds to the counts, and what it leaves
pub ran_fired : (o : Outcome) (r : Ran) → (ran_on o r).fired ≡ r.fired + bit (accepts o)
ran_fired (refuse k) r = omega arith
ran_fired (done m) r = refl

pub ran_skipped : (o : Outcome) (r : Ran) → (ran_on o r).skipped ≡ r.skipped + bit (not (accepts o))
ran_skipped (refuse k) r = refl
ran_skipped (done m) r = omega arith

pub ran_counts : (o : Outcome) (r : Ran) → (ran_on o r).fired + (ran_on o r).skipped ≡ r.fired + r.skipped + 1
ran_counts (refuse k) r = omega arith
ran_counts (done m) r = omega arith

-- a run of two lists is a run of the first and then of the second
pub run_append : (a : Abstract) (qs rs : List ℕ) (r : Ran) → run_from a (qs ++ rs) r ≡ run_from a rs (run_from a qs r)
unfolding run_from
run_append a [] rs r = refl
run_append a (q ∷ qs) rs r = run_append a qs rs (ran_on (fire_m a r.machine q) r)

pub run_snoc : (a : Abstract) (qs : List ℕ) (q : ℕ) (r : Ran) →
    run_from a (qs ++ (q ∷ [])) r ≡ ran_on (fire_m a (run_from a qs r).machine q) (run_from a qs r)
unfolding run_from
run_snoc a qs q r = run_append a qs (q ∷ []) r

-- an entry fires or is skipped
pub run_entry_fired : (a : Abstract) (qs : List ℕ) (q : ℕ) (m : Machine) →
    (run_m a (qs ++ (q ∷ [])) m).fired ≡ (run_m a qs m).fired + bit (accepts (fire_m a (run_m a qs m).machine q))
run_entry_fired a qs q m =
    let r = run_m a qs m in
    ap (λ (s : Ran). s.fired) (run_snoc a qs q (record { fired = 0; skipped = 0; machine = m })) ∙ ran_fired (fire_m a r.machine q) r

pub run_entry_skipped : (a : Abstract) (qs : List ℕ) (q : ℕ) (m : Machine) →
    (run_m a (qs ++ (q ∷ [])) m).skipped ≡ (run_m a qs m).skipped + bit (not (accepts (fire_m a (run_m a qs m).machine q)))
run_entry_skipped a qs q m =
    let r = run_m a qs m in
    ap (λ (s : Ran). s.skipped) (run_snoc a qs q (record { fired = 0; skipped = 0; machine = m })) ∙ ran_skipped (fire_m a r.machine q) r

-- and nothing else
pub run_counts_from : (a : Abstract) (qs : List ℕ) (r : Ran) →
    (run_from a qs r).fired + (run_from a qs r).skipped ≡ r.fired + r.skipped + length qs
unfolding run_from
run_counts_from a [] r = omega arith
run_counts_from a (q ∷ qs) r =
    let o = fire_m a r.machine q in
    omega (arith, run_counts_from a qs (ran_on o r), ran_counts o r)

pub run_counts : (a : Abstract) (qs : List ℕ) (m : Machine) → (run_m a qs m).fired + (run_m a qs m).skipped ≡ length qs
run_counts a qs m = omega (arith, run_counts_from a qs (record { fired = 0; skipped = 0; machine = m }))

-- a refused entry leaves the machine
pub run_refused : (a : Abstract) (qs : List ℕ) (q k : ℕ) (m : Machine) →
    fire_m a (run_m a qs m).machine q ≡ refuse k → (run_m a (qs ++ (q ∷ [])) m).machine ≡ (run_m a qs m).machine
run_refused a qs q k m h =
    let r = run_m a qs m in
    ap (λ (s : Ran). s.machine) (run_snoc a qs q (record { fired = 0; skipped = 0; machine = m })) ∙ ap (λ (o : Outcome). (ran_on o r).machine) h

-- a loop over a list: what is left to run, with one turn taken, and at the end
pub run_next : (a : Abstract) (l : List ℕ) (i : ℕ) (r : Ran) → i < length l →
    run_from a (drop i l) r ≡ run_from a (drop (i + 1) l) (ran_on (fire_m a r.machine (get_or l i 0)) r)
unfolding run_from
run_next a l i r h = rw (add-one, drop-cons l i 0)

pub run_end : (a : Abstract) (l : List ℕ) (i : ℕ) (r : Ran) → length l ≤ i → run_from a (drop i l) r ≡ r
unfolding run_from
run_end a l i r h = ap (λ (s : List ℕ). run_from a s r) (drop_of_length-le l h)
